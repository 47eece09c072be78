-- Laws: Path containment, for the crates above: it is reflexive on paths without a `..` component, transitive where the middle path is not empty, and
-- antisymmetric up to trimming. Assumes nothing.
use Rattle.std.specs.Prelude.{◌≡◌, refl, true, false, not, ◌&&◌, ◌||◌, List, [], ◌∷◌, ◌++◌, ℕ, zero, suc, ◌≤◌, eqb, length, drop, replicate}
use Rattle.std.proofs.Common.{sym, ap, ◌∙◌, append_assoc, append-nil, arith, length-append, eqb-true}
use Rattle.std.proofs.Math.Bool.{or_assoc}
use Rattle.std.proofs.Math.Seq.{drop-append_seam}
use Rattle.std.proofs.lemmas.Bool.{not-true}
use Rattle.lists.specs.Tests.{cases, and_left, and_right, or_left}
use Rattle.lists.specs.Lists.{same}
use Rattle.paths.specs.Containment.{slash, is_empty, components, climbing, trimmed, starting, slashed, contained, reached, reach_between, is_inside, length_of}
use Rattle.paths.specs.Components.{climbing_append, climbing_behind}
use Rattle.paths.specs.Trimming.{is_empty_sound, starting_sound, starting_complete, trimmed_append, trimmed_twice, trimmed_slashes, trimmed_length, trimmed_end, followed}
use Rattle.paths.specs.Readings.{Under}
use Rattle.paths.specs.Lent.{beneath}

-- ---- what containment says

-- the path `/` is not the empty path, so containment does not pass on over the empty path: `/` contains it, it contains `x`, and `/`
-- does not contain `x`
pub contained_not_trans : (contained (slash ∷ []) [] ≡ true) × (contained [] (120 ∷ []) ≡ true) × (contained (slash ∷ []) (120 ∷ []) ≡ false)
unfolding contained climbing components same trimmed starting
contained_not_trans = (refl, refl, refl)

-- neither path has a `..` component
pub contained_clean : (p q : List ℕ) → contained p q ≡ true → (climbing p ≡ false) × (climbing q ≡ false)
unfolding contained
contained_clean p q held =
    let clean = and_left (not (climbing p) && not (climbing q)) _ held in (
      not-true (climbing p) (and_left (not (climbing p)) (not (climbing q)) clean),
      not-true (climbing q) (and_right (not (climbing p)) (not (climbing q)) clean),
    )

-- a path with a `..` component contains nothing
outer_climbs : (p q : List ℕ) → climbing p ≡ true → contained p q ≡ false
unfolding contained
outer_climbs p q climbs = rw climbs

-- the empty path contains every path without a `..` component
pub contained_empty : (q : List ℕ) → climbing q ≡ false → contained [] q ≡ true
unfolding contained climbing components same
contained_empty q clean = rw clean

-- containment as two tests, neither of which looks at the other's part: no `..` component, and where inner stands
pub contained_parts : (p q : List ℕ) → contained p q ≡ (not (climbing p) && not (climbing q)) && (is_empty p || beneath (trimmed p) q)
unfolding contained
contained_parts p q =
    ap (λ b. (not (climbing p) && not (climbing q)) && b)
    (or_assoc (is_empty p) (same q (trimmed p)) _ ∙ ap (λ b. is_empty p || b) (followed (trimmed p) q))

-- of paths without a `..` component, the outer one not empty: inner starts with the trimmed outer, and what follows is nothing or
-- begins with a slash
pub contained_same : (p q : List ℕ) → climbing p ≡ false → climbing q ≡ false → is_empty p ≡ false → contained p q ≡ beneath (trimmed p) q
contained_same p q clean-p clean-q some = contained_parts p q ∙ rw (clean-p, clean-q, some)

-- what an outer path that is not empty contains is its trimmed path, or that with a slash and more
pub contained_sound : (p q : List ℕ) → is_empty p ≡ false → contained p q ≡ true → Under (trimmed p) q
contained_sound p q some held =
    let clean = contained_clean p q held in
    let t = trimmed p in
    let tail = drop (length t) q in
    let both : starting t q && (is_empty tail || slashed tail) ≡ true = sym (contained_same p q clean.0 clean.1 some) ∙ held in
    record {
      rest = tail;
      whole = starting_sound t q (and_left (starting t q) (is_empty tail || slashed tail) both);
      parted = and_right (starting t q) (is_empty tail || slashed tail) both;
    }

pub contained_complete : (p q : List ℕ) → climbing p ≡ false → climbing q ≡ false → Under (trimmed p) q → contained p q ≡ true
contained_complete p q clean-p clean-q under =
    cases (is_empty p)
    (λ none. rw (is_empty_sound p none) (contained_empty q clean-q))
    (λ some.
    contained_same p q clean-p clean-q some
    ∙ rw (under.whole, starting_complete (trimmed p) under.rest, drop-append_seam (trimmed p) under.rest) under.parted)

-- ---- the laws

slashes_parted : (n : ℕ) → is_empty (replicate n slash) || slashed (replicate n slash) ≡ true
slashes_parted zero = refl
slashes_parted (suc n) = refl

-- a path contains itself exactly when it has no `..` component
pub contained_refl : (p : List ℕ) → contained p p ≡ not (climbing p)
contained_refl p =
    cases (climbing p)
    (λ climbs. outer_climbs p p climbs ∙ rw climbs)
    (λ clean.
    let slashes = trimmed_slashes p in
    contained_complete p p clean clean (record { rest = replicate slashes.0 slash; whole = slashes.1; parted = slashes_parted slashes.0 })
    ∙ rw clean)

-- what is left of a rest that is nothing or begins with a slash is so too
trimmed_parted : (r : List ℕ) → is_empty r || slashed r ≡ true → is_empty (trimmed r) || slashed (trimmed r) ≡ true
unfolding trimmed
trimmed_parted [] h = refl
trimmed_parted (b ∷ r) h = cases (eqb b slash && is_empty (trimmed r)) (λ gone. rw gone) (λ kept. rw kept h)

append_parted : (r s : List ℕ) → is_empty r || slashed r ≡ true → is_empty s || slashed s ≡ true → is_empty (r ++ s) || slashed (r ++ s) ≡ true
append_parted [] s h k = k
append_parted (b ∷ r) s h k = h

-- what is under a trimmed path is trimmed by what follows
under_trimmed : (a b : List ℕ) (under : Under (trimmed a) b) → trimmed b ≡ trimmed a ++ trimmed under.rest
under_trimmed a b under = ap trimmed under.whole ∙ trimmed_append a under.rest

-- what is under a path that is under another is under that one
under_trans : (a b c : List ℕ) → Under (trimmed a) b → Under (trimmed b) c → Under (trimmed a) c
under_trans a b c under further = record {
  rest = trimmed under.rest ++ further.rest;
  whole = further.whole ∙ rw (under_trimmed a b under, append_assoc);
  parted = append_parted (trimmed under.rest) further.rest (trimmed_parted under.rest under.parted) further.parted;
}

-- containment passes on where the middle path is not empty
pub contained_trans : (a b c : List ℕ) → contained a b ≡ true → contained b c ≡ true → is_empty b ≡ false → contained a c ≡ true
contained_trans a b c outer inner some =
    let clean_c = (contained_clean b c inner).1 in
    cases (is_empty a)
    (λ none. rw (is_empty_sound a none) (contained_empty c clean_c))
    (λ more.
    contained_complete a c (contained_clean a b outer).0 clean_c
    (under_trans a b c (contained_sound a b more outer) (contained_sound b c some inner)))

-- under the empty path stands only what is trimmed to nothing
under_nothing : (p : List ℕ) → Under (trimmed p) [] → trimmed p ≡ []
under_nothing p under = first (trimmed p) under.rest under.whole
  where
    first : (s t : List ℕ) → [] ≡ s ++ t → s ≡ []
    first [] t e = refl
    first (b ∷ s) t e = cc

-- only a path that is trimmed to nothing contains the empty path
above_nothing : (p : List ℕ) → contained p [] ≡ true → trimmed p ≡ []
unfolding trimmed
above_nothing p held =
    cases (is_empty p)
    (λ none. rw (is_empty_sound p none))
    (λ some. under_nothing p (contained_sound p [] some held))

nothing_longer : (s t : List ℕ) → length (s ++ t) ≡ length s → t ≡ []
nothing_longer s [] e = refl
nothing_longer s (b ∷ t) e = absurd (omega (arith, length-append s (b ∷ t)))

under_antisym : (p q : List ℕ) → Under (trimmed p) q → Under (trimmed q) p → trimmed p ≡ trimmed q
under_antisym p q under over =
    let right = trimmed under.rest in
    let left = trimmed over.rest in
    let longer : trimmed q ≡ trimmed p ++ right = under_trimmed p q under in
    let shorter : trimmed p ≡ trimmed q ++ left = under_trimmed q p over in
    let none : right ≡ [] =
    nothing_longer (trimmed p) right
    (omega (arith, ap length longer, ap length shorter, length-append (trimmed p) right, length-append (trimmed q) left)) in
    sym (longer ∙ rw none (append-nil (trimmed p)))

-- two paths that contain each other are the same but for the slashes at their ends
pub contained_antisym : (p q : List ℕ) → contained p q ≡ true → contained q p ≡ true → trimmed p ≡ trimmed q
unfolding trimmed
contained_antisym p q there back =
    cases (is_empty p)
    (λ none.
    let empty = is_empty_sound p none in
    rw empty (sym (above_nothing q (rw empty at back))))
    (λ some.
    cases (is_empty q)
    (λ none.
    let empty = is_empty_sound q none in
    rw empty (above_nothing p (rw empty at there)))
    (λ more. under_antisym p q (contained_sound p q some there) (contained_sound q p more back)))

-- a path is its trimmed path and slashes only, and its trimmed path ends in no slash
pub trimmed_natural : (p : List ℕ) → ((n : ℕ) × (p ≡ trimmed p ++ replicate n slash)) × ((q : List ℕ) → trimmed p ≡ q ++ (slash ∷ []) → ⊥)
trimmed_natural p = (trimmed_slashes p, trimmed_end p)

-- trimming keeps whether there is a `..` component
pub climbing_trimmed : (p : List ℕ) → climbing (trimmed p) ≡ climbing p
climbing_trimmed p =
    let slashes = trimmed_slashes p in
    sym (climbing_behind (trimmed p) slashes.0) ∙ ap climbing (sym slashes.1)

-- of an outer path that is not all slashes, only the trimmed path counts
pub contained_trimmed : (p q : List ℕ) → is_empty (trimmed p) ≡ false → contained (trimmed p) q ≡ contained p q
unfolding contained trimmed
contained_trimmed p q some = rw (climbing_trimmed p, trimmed_twice p, some, some_whole p some)
  where
    some_whole : (p : List ℕ) → is_empty (trimmed p) ≡ false → is_empty p ≡ false
    some_whole [] h = h
    some_whole (b ∷ p) h = refl

-- what follows a path is nothing, or a slash and more: the path has no `..` component where the two together have none
followed_clean : (t r : List ℕ) → is_empty r || slashed r ≡ true → climbing (t ++ r) ≡ false → climbing t ≡ false
followed_clean t [] ends clean = rw (append-nil t) at clean
followed_clean t (b ∷ r) ends clean =
    let cut : b ≡ slash = eqb-true b slash ends in
    or_left (climbing t) (climbing r) (sym (climbing_append t r) ∙ rw (← cut) clean)

-- where the inner path stands beneath the outer one, a `..` component of the outer path is one of the inner path too
pub beneath_clean : (p q : List ℕ) → is_empty p || beneath (trimmed p) q ≡ true → climbing q ≡ false → climbing p ≡ false
unfolding climbing components same
beneath_clean [] q here clean = refl
beneath_clean (b ∷ p) q here clean =
    let t = trimmed (b ∷ p) in
    let starts = starting_sound t q (and_left (starting t q) (is_empty (drop (length t) q) || slashed (drop (length t) q)) here) in
    let ends = and_right (starting t q) (is_empty (drop (length t) q) || slashed (drop (length t) q)) here in
    sym (climbing_trimmed (b ∷ p)) ∙ followed_clean t (drop (length t) q) ends (ap climbing (sym starts) ∙ clean)

-- ---- how far a path reaches

pub reached_yes : (p q : List ℕ) → contained p q ≡ true → reached p q ≡ length (trimmed p)
unfolding reached
reached_yes p q held = rw held

pub reached_no : (p q : List ℕ) → contained p q ≡ false → reached p q ≡ 0
unfolding reached
reached_no p q away = rw away

-- no further than the outer path is long, as it is written
pub reached_written : (p q : List ℕ) → reached p q ≤ length p
reached_written p q =
    cases (contained p q)
    (λ held. omega (arith, reached_yes p q held, trimmed_length p))
    (λ away. omega (arith, reached_no p q away))

-- and no further than the inner path is long
pub reached_inner : (p q : List ℕ) → contained p q ≡ true → reached p q ≤ length q
reached_inner p q held =
    cases (is_empty p)
    (λ none. omega (arith, reached_written p q, ap length (is_empty_sound p none)))
    (λ some.
    let under = contained_sound p q some held in
    omega (arith, reached_yes p q held, ap length under.whole, length-append (trimmed p) under.rest))

-- with a yes the length of the trimmed outer path, at most the inner path's; with a no 0
pub reached_sound : (p q : List ℕ)
    → (contained p q ≡ true → (reached p q ≡ length (trimmed p)) × (reached p q ≤ length q)) × (contained p q ≡ false → reached p q ≡ 0)
reached_sound p q = (λ held. (reached_yes p q held, reached_inner p q held), λ away. reached_no p q away)

-- the answer for two paths is containment and how far
pub reach_told : (p q : List ℕ) → (is_inside (reach_between p q) ≡ contained p q) × (length_of (reach_between p q) ≡ reached p q)
reach_told p q =
    cases (contained p q) (λ held. (rw held, rw held)) (λ away. (rw away, rw away (sym (reached_no p q away))))
