-- Laws: The nearest of those that pass a test: the first whose number no other of them exceeds. Assumes nothing.
use Rattle.std.specs.Prelude.{◌≡◌, refl, Bool, true, false, not, ◌&&◌, ◌||◌, cond, List, [], ◌∷◌, ℕ, suc, ◌≤◌, ◌<◌, leb}
use Rattle.std.proofs.Common.{sym, ◌∙◌, arith, le-leb, leb-true, leb-false}
use Rattle.std.proofs.Math.Bool.{and-true}
use Rattle.lists.specs.Tests.{cases, clash, and_left, and_right, and_both, iff_same}
use Rattle.lists.specs.Lists.{any, every, All}
use Rattle.lists.specs.Each.{all_imp, each_all, none_all, none_weaken, every_all, all_every, any_same}
use Rattle.gate_rules.specs.Gate.{first_of, unexceeded, nearest_of}
use Rattle.gate_rules.specs.Places.{place_here, place_later, any_place, place_any, all_place, first_hit, first_miss, first_none, first_found}
use Rattle.gate_rules.specs.Authority.{IsIn, Nearest}

-- tests that agree on a list find the same
first_agree : {C : Type 0} (p q : C → Bool) (L : List C) → All (λ c. p c ≡ q c) L → first_of p L ≡ first_of q L
unfolding first_of
first_agree p q [] h = refl
first_agree p q (c ∷ L) h = rw (h.0, first_agree p q L h.1)

module _ {C : Type 0} (p : C → Bool) (f : C → ℕ) where
  -- none that passes exceeds c
  abbrev Most : C → List C → Type 0
  Most c L = All (λ d. p d ≡ true → f d ≤ f c) L

  most_out : (c : C) (L : List C) → every (λ d. not (p d) || leb (f d) (f c)) L ≡ true → Most c L
  most_out c L h =
      all_imp (λ d. not (p d) || leb (f d) (f c) ≡ true) (λ d. p d ≡ true → f d ≤ f c) (λ d e passes. leb-true (f d) (f c) (rw passes at e)) L
      (every_all (λ d. not (p d) || leb (f d) (f c)) L h)

  most_in : (c : C) (L : List C) → Most c L → every (λ d. not (p d) || leb (f d) (f c)) L ≡ true
  most_in c L h =
      all_every (λ d. not (p d) || leb (f d) (f c)) L
      (all_imp (λ d. p d ≡ true → f d ≤ f c) (λ d. not (p d) || leb (f d) (f c) ≡ true)
      (λ d below. cases (p d) (λ e. rw (e, le-leb (f d) (f c) (below e))) (λ e. rw e)) L h)

  top_in : (c : C) (L : List C) → p c ≡ true → Most c L → unexceeded p f L c ≡ true
  top_in c L e h = and_both (p c) (every (λ d. not (p d) || leb (f d) (f c)) L) e (most_in c L h)

  top_passes : (c : C) (L : List C) → unexceeded p f L c ≡ true → p c ≡ true
  top_passes c L e = and_left (p c) (every (λ d. not (p d) || leb (f d) (f c)) L) e

  top_most : (c : C) (L : List C) → unexceeded p f L c ≡ true → Most c L
  top_most c L e = most_out c L (and_right (p c) (every (λ d. not (p d) || leb (f d) (f c)) L) e)

  -- what none exceeds is exceeded by none with what has more
  most_above : (c d : C) (L : List C) → f c ≤ f d → Most c L → Most d L
  most_above c d L above = all_imp (λ b. p b ≡ true → f b ≤ f c) (λ b. p b ≡ true → f b ≤ f d) (λ b below e. omega (arith, below e)) L

  -- ---- there is one where one passes

  abbrev Greatest : List C → Type 0
  Greatest L = (c : C) × IsIn L c × (p c ≡ true) × Most c L

  greatest_alone : (c : C) (L : List C) → p c ≡ true → any p L ≡ false → Greatest (c ∷ L)
  greatest_alone c L e none =
      (c, place_here c L, e, ((λ k. omega arith), all_imp (λ d. p d ≡ false) (λ d. p d ≡ true → f d ≤ f c) (λ d out k. clash (p d) k out) L (none_all p L none)))

  greatest_here : (c d : C) (L : List C) → p c ≡ true → f d ≤ f c → Most d L → Greatest (c ∷ L)
  greatest_here c d L e above most = (c, place_here c L, e, ((λ k. omega arith), most_above d c L above most))

  greatest_later : (c : C) (L : List C) → (found : Greatest L) → (p c ≡ true → f c ≤ f found.0) → Greatest (c ∷ L)
  greatest_later c L found below = (found.0, place_later c L found.0 found.1, found.2, (below, found.3))

  greatest : (L : List C) → any p L ≡ true → Greatest L
  greatest [] h = clash false h refl
  greatest (c ∷ L) h =
      cases (any p L)
      (λ some. let found = greatest L some in
      cases (p c)
      (λ e. cases (leb (f found.0) (f c))
      (λ above. greatest_here c found.0 L e (leb-true (f found.0) (f c) above) found.3)
      (λ below. greatest_later c L found (λ k. omega (arith, leb-false (f found.0) (f c) below))))
      (λ out. greatest_later c L found (λ k. clash (p c) k out)))
      (λ none. cases (p c) (λ e. greatest_alone c L e none) (λ out. clash (any p (c ∷ L)) h (rw (out, none))))

  pub nearest_found : (L : List C) → any p L ≡ true → (c : C) × Nearest p f L c
  nearest_found L h =
      let top = greatest L h in
      let found = first_found (unexceeded p f L) L
      (place_any (unexceeded p f L) L top.0 top.1 (top_in top.0 L top.2 top.3)) in
      let c : C = found.0 in
      let most = top_most c L found.1.passes in (
        c,
        record {
          place = found.1.place;
          passes = top_passes c L found.1.passes;
          most = most;
          further = all_imp (λ d. unexceeded p f L d ≡ false) (λ d. p d ≡ true → f d < f c)
              (λ d out e. cases (leb (f c) (f d))
              (λ above. clash (unexceeded p f L d) (top_in d L e (most_above c d L (leb-true (f c) (f d) above) most)) out)
              (λ below. leb-false (f c) (f d) below))
              found.1.place.before (none_all (unexceeded p f L) found.1.place.before found.1.none_before);
          alone = found.1.alone;
        },
      )

  pub nearest_none : (L : List C) → any p L ≡ false → nearest_of p f L ≡ []
  nearest_none L h = first_none (unexceeded p f L) L (none_weaken (unexceeded p f L) p (λ c e. top_passes c L e) L h)

  -- ---- by a walk from the front

  -- what is taken so far, and the least number that a further one must have
  abbrev pub nearer_from : List C → ℕ → List C → List C
  nearer_from best bar [] = best
  nearer_from best bar (c ∷ L) =
      let nearer = nearer_from (c ∷ []) (suc (f c)) L in
      let more = nearer_from best bar L in
      cond (p c && leb bar (f c)) nearer more

  -- one passes and has that number
  abbrev reaching_at : ℕ → C → Bool
  reaching_at bar c = p c && leb bar (f c)

  -- what falls short of one behind it is passed over
  passed_over : (c : C) (L : List C) (bar : ℕ) → any (reaching_at bar) L ≡ true → (p c ≡ true → f c < bar) → nearest_of p f (c ∷ L) ≡ nearest_of p f L
  passed_over c L bar some short =
      let found = any_place (reaching_at bar) L some in
      let d : C = found.0 in
      let e : p d ≡ true = and_left (p d) (leb bar (f d)) found.2 in
      let far : bar ≤ f d = leb-true bar (f d) (and_right (p d) (leb bar (f d)) found.2) in
      let exceeded : unexceeded p f (c ∷ L) c ≡ false =
      cases (unexceeded p f (c ∷ L) c)
      (λ top. absurd (omega (arith, short (top_passes c (c ∷ L) top), far, all_place (λ b. p b ≡ true → f b ≤ f c) L (top_most c (c ∷ L) top).1 d found.1 e)))
      (λ out. out) in
      let alike : (b : C) → unexceeded p f (c ∷ L) b ≡ unexceeded p f L b =
      λ b. iff_same (unexceeded p f (c ∷ L) b) (unexceeded p f L b)
      (λ top. top_in b L (top_passes b (c ∷ L) top) (top_most b (c ∷ L) top).1)
      (λ top. top_in b (c ∷ L) (top_passes b L top)
      ((λ k. omega (arith, short k, far, all_place (λ a. p a ≡ true → f a ≤ f b) L (top_most b L top) d found.1 e)), top_most b L top)) in
      first_miss (unexceeded p f (c ∷ L)) c L exceeded
      ∙ first_agree (unexceeded p f (c ∷ L)) (unexceeded p f L) L (each_all (λ M b. unexceeded p f (c ∷ L) b ≡ unexceeded p f L b) (λ M b. alike b) L)

  -- what passes is taken where none behind it reaches further
  nearest_first : (c : C) (L : List C) → p c ≡ true → any (reaching_at (suc (f c))) L ≡ false → nearest_of p f (c ∷ L) ≡ c ∷ []
  nearest_first c L e none =
      first_hit (unexceeded p f (c ∷ L)) c L
      (top_in c (c ∷ L) e (
        (λ k. omega arith),
        all_imp (λ d. reaching_at (suc (f c)) d ≡ false) (λ d. p d ≡ true → f d ≤ f c)
            (λ d out k. cases (leb (suc (f c)) (f d)) (λ far. clash (reaching_at (suc (f c)) d) (and_both (p d) (leb (suc (f c)) (f d)) k far) out)
            (λ near. omega (arith, leb-false (suc (f c)) (f d) near))) L (none_all (reaching_at (suc (f c))) L none),
      ))

  walk : (L best : List C) (bar : ℕ) → nearer_from best bar L ≡ cond (any (reaching_at bar) L) (nearest_of p f L) best
  walk [] best bar = refl
  walk (c ∷ L) best bar =
      cases (reaching_at bar c)
      (λ e. let passes : p c ≡ true = and_left (p c) (leb bar (f c)) e in
      rw e
      (walk L (c ∷ []) (suc (f c))
      ∙ cases (any (reaching_at (suc (f c))) L)
      (λ some. rw some (sym (passed_over c L (suc (f c)) some (λ k. omega arith))))
      (λ none. rw none (sym (nearest_first c L passes none)))))
      (λ out. rw out
      (walk L best bar
      ∙ cases (any (reaching_at bar) L)
      (λ some. rw some (sym (passed_over c L bar some
      (λ k. cases (leb bar (f c)) (λ far. clash (reaching_at bar c) (and_both (p c) (leb bar (f c)) k far) out) (λ near. leb-false bar (f c) near)))))
      (λ none. rw none)))

  -- the nearest is what such a walk takes
  pub nearest_walked : (L : List C) → nearest_of p f L ≡ nearer_from [] 0 L
  nearest_walked L =
      let all : any (reaching_at 0) L ≡ any p L =
      any_same (reaching_at 0) p L (each_all (λ M c. reaching_at 0 c ≡ p c) (λ M c. rw (le-leb 0 (f c) (omega arith)) (and-true (p c))) L) in
      cases (any p L)
      (λ some. sym (walk L [] 0 ∙ rw (all, some)))
      (λ none. nearest_none L none ∙ sym (walk L [] 0 ∙ rw (all, none)))
