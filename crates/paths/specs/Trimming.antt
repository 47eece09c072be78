-- Laws: Trimming, sameness and beginnings: what a path is made of. Assumes nothing.
use Rattle.std.specs.Prelude.{◌≡◌, refl, Bool, true, false, ◌&&◌, ◌||◌, ℕ, suc, ◌≤◌, eqb, length, drop, replicate, Option, None, Some, List, [], ◌∷◌, ◌++◌}
use Rattle.std.proofs.Common.{sym, ◌∙◌, arith, length-append, eq-eqb, ne_eqb, eqb-true, append-nil}
use Rattle.std.proofs.Math.Path.{ap}
use Rattle.std.proofs.Math.Bool.{cond}
use Rattle.std.proofs.lemmas.Bool.{eqb-false}
use Rattle.lists.specs.Tests.{cases, and_left, and_right}
use Rattle.lists.specs.Lists.{same}
use Rattle.paths.specs.Containment.{slash, is_empty, trimmed, starting, slashed}
use Rattle.paths.specs.Lent.{beneath}

pub is_empty_sound : (p : List ℕ) → is_empty p ≡ true → p ≡ []
is_empty_sound [] h = refl
is_empty_sound (b ∷ p) h = cc

-- a path starts with another where it is that path and what follows it
pub starting_sound : (o p : List ℕ) → starting o p ≡ true → p ≡ o ++ drop (length o) p
unfolding starting
starting_sound [] p h = refl
starting_sound (b ∷ o) [] h = cc
starting_sound (b ∷ o) (c ∷ p) h =
    let first = eqb-true b c (and_left (eqb b c) (starting o p) h) in
    let rest = starting_sound o p (and_right (eqb b c) (starting o p) h) in
    cc

-- and a path followed by anything starts with that path
pub starting_complete : (o r : List ℕ) → starting o (o ++ r) ≡ true
unfolding starting
starting_complete [] r = refl
starting_complete (b ∷ o) r = rw (eq-eqb b b refl) (starting_complete o r)

-- a path is at least as long as what it starts with
pub starting_length : (o p : List ℕ) → starting o p ≡ true → length o ≤ length p
starting_length o p h = omega (arith, ap length (starting_sound o p h), length-append o (drop (length o) p))

module _ (b : ℕ) (p : List ℕ) where
  -- a slash with nothing left behind it goes
  pub trimmed_gone : eqb b slash && is_empty (trimmed p) ≡ true → trimmed (b ∷ p) ≡ []
  unfolding trimmed
  trimmed_gone gone = ap (λ (goes : Bool). cond goes [] (b ∷ trimmed p)) gone

  -- any other byte stays
  pub trimmed_kept : eqb b slash && is_empty (trimmed p) ≡ false → trimmed (b ∷ p) ≡ b ∷ trimmed p
  unfolding trimmed
  trimmed_kept kept = ap (λ (goes : Bool). cond goes [] (b ∷ trimmed p)) kept

-- in front of something no slash goes
before : (b : ℕ) (p r : List ℕ) → is_empty r ≡ false → eqb b slash && is_empty (p ++ r) ≡ false
before b [] r h = cases (eqb b slash) (λ e. rw (e, h)) (λ e. rw e)
before b (c ∷ p) r h = cases (eqb b slash) (λ e. rw e) (λ e. rw e)

-- where something is left of what follows, all that stands before it is left
pub trimmed_ahead : (p r : List ℕ) → is_empty (trimmed r) ≡ false → trimmed (p ++ r) ≡ p ++ trimmed r
trimmed_ahead [] r h = refl
trimmed_ahead (b ∷ p) r h =
    let more = trimmed_ahead p r h in
    trimmed_kept b (p ++ r) (rw more (before b p (trimmed r) h)) ∙ rw more

-- where nothing is left of what follows, it changes nothing
pub trimmed_behind : (p r : List ℕ) → trimmed r ≡ [] → trimmed (p ++ r) ≡ trimmed p
unfolding trimmed
trimmed_behind [] r h = h
trimmed_behind (b ∷ p) r h = rw (trimmed_behind p r h)

pub trimmed_slash : (p : List ℕ) → trimmed (p ++ (slash ∷ [])) ≡ trimmed p
unfolding trimmed
trimmed_slash p = trimmed_behind p (slash ∷ []) refl

pub trimmed_other : (p : List ℕ) (b : ℕ) → (b ≡ slash → ⊥) → trimmed (p ++ (b ∷ [])) ≡ p ++ (b ∷ [])
unfolding trimmed
trimmed_other p b other =
    let alone : trimmed (b ∷ []) ≡ b ∷ [] = rw (ne_eqb b slash other) in
    trimmed_ahead p (b ∷ []) (rw alone) ∙ rw alone

-- trimming twice is trimming once
pub trimmed_twice : (p : List ℕ) → trimmed (trimmed p) ≡ trimmed p
unfolding trimmed
trimmed_twice [] = refl
trimmed_twice (b ∷ p) =
    let more = trimmed_twice p in
    cases (eqb b slash && is_empty (trimmed p)) (λ gone. rw gone) (λ kept. rw kept (trimmed_kept b (trimmed p) (rw more kept) ∙ rw more))

-- what follows a trimmed path is trimmed by itself
pub trimmed_append : (p r : List ℕ) → trimmed (trimmed p ++ r) ≡ trimmed p ++ trimmed r
trimmed_append p r =
    cases (is_empty (trimmed r))
    (λ none.
    let nothing = is_empty_sound (trimmed r) none in
    trimmed_behind (trimmed p) r nothing ∙ trimmed_twice p ∙ sym (append-nil (trimmed p)) ∙ rw nothing)
    (λ some. trimmed_ahead (trimmed p) r some)

-- a path is its trimmed path and slashes only
pub trimmed_slashes : (p : List ℕ) → (n : ℕ) × (p ≡ trimmed p ++ replicate n slash)
unfolding trimmed
trimmed_slashes [] = (0, refl)
trimmed_slashes (b ∷ p) =
    let more = trimmed_slashes p in
    cases (eqb b slash && is_empty (trimmed p))
    (λ gone.
    let first = eqb-true b slash (and_left (eqb b slash) (is_empty (trimmed p)) gone) in
    let nothing = is_empty_sound (trimmed p) (and_right (eqb b slash) (is_empty (trimmed p)) gone) in
    (suc more.0, rw (trimmed_gone b p gone) (cc more.1)))
    (λ kept. (more.0, rw (trimmed_kept b p kept) (cc more.1)))

pub trimmed_length : (p : List ℕ) → length (trimmed p) ≤ length p
trimmed_length p =
    let whole = trimmed_slashes p in
    omega (arith, ap length whole.1, length-append (trimmed p) (replicate whole.0 slash))

-- a trimmed path ends in no slash
pub trimmed_end : (p q : List ℕ) → trimmed p ≡ q ++ (slash ∷ []) → ⊥
trimmed_end p q e =
    let short : length (trimmed (trimmed p)) ≤ length q = rw (e, trimmed_slash q) (trimmed_length q) in
    omega (arith, ap length (trimmed_twice p), ap length e, length-append q (slash ∷ []))

-- how far outer reaches to what is beneath it, whatever `..` components there are
abbrev pub reach_beneath : List ℕ → List ℕ → Option ℕ
reach_beneath outer inner = cond (is_empty outer || beneath (trimmed outer) inner) (Some (length (trimmed outer))) None

-- inner is outer, or starts with outer and a slash: inner starts with outer, and what follows is nothing or begins with a slash
pub followed : (t q : List ℕ) → same q t || (starting t q && slashed (drop (length t) q)) ≡ beneath t q
unfolding same starting
followed [] [] = refl
followed [] (c ∷ q) = refl
followed (b ∷ t) [] = refl
followed (b ∷ t) (c ∷ q) =
    cases (eqb b c)
    (λ e. rw (e, eq-eqb c b (sym (eqb-true b c e))) (followed t q))
    (λ e. rw (e, ne_eqb c b (λ back. eqb-false b c e (sym back))))
