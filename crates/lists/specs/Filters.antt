-- Laws: Lists that drop the elements that a test takes, where the test looks at what stands behind an element too; and lists of the elements that
-- pass a test. Assumes nothing.
use Rattle.std.specs.Prelude.{◌≡◌, Bool, true, false, not, ◌≤◌, length, List, [], ◌∷◌, ◌++◌, map, reverse}
use Rattle.std.proofs.Common.{ap, sym, ◌∙◌, arith, append-nil}
use Rattle.std.proofs.Math.Path.{refl}
use Rattle.std.proofs.Math.Bool.{not-not}
use mathlib.Core.List.{reverse-cons}
use Rattle.std.proofs.lemmas.Bool.{not-false}
use Rattle.lists.specs.Tests.{cases}
use Rattle.lists.specs.Each.{each_all, cons_clash}
use Rattle.lists.specs.Lists.{Each, All, dropping, filter}

module _ {C : Type 0} where
  module _ (t : List C → C → Bool) where
    pub dropping_nil : dropping t [] ≡ []
    unfolding dropping
    dropping_nil = refl

    pub dropping_hit : (c : C) (L : List C) → t L c ≡ true → dropping t (c ∷ L) ≡ dropping t L
    unfolding dropping
    dropping_hit c L e = rw e

    pub dropping_miss : (c : C) (L : List C) → t L c ≡ false → dropping t (c ∷ L) ≡ c ∷ dropping t L
    unfolding dropping
    dropping_miss c L e = rw e

    -- what holds of nothing, of an element taken and of an element left holds of every list that drops some
    pub dropping_ind : (M : List C → List C → Type 0) → M [] []
        → ((c : C) (L : List C) → t L c ≡ true → M L (dropping t L) → M (c ∷ L) (dropping t L))
        → ((c : C) (L : List C) → t L c ≡ false → M L (dropping t L) → M (c ∷ L) (c ∷ dropping t L)) → (L : List C) → M L (dropping t L)
    dropping_ind M z f g [] = rw dropping_nil z
    dropping_ind M z f g (c ∷ L) = let ih = dropping_ind M z f g L in
        cases (t L c) (λ e. rw (dropping_hit c L e) (f c L e ih)) (λ e. rw (dropping_miss c L e) (g c L e ih))

    pub all_dropping : (Q : C → Type 0) (L : List C) → All Q L → All Q (dropping t L)
    all_dropping Q = dropping_ind (λ L K. All Q L → All Q K) (λ h. h) (λ c L e ih h. ih h.1) (λ c L e ih h. (h.0, ih h.1))

    pub dropping_length : (L : List C) → length (dropping t L) ≤ length L
    dropping_length = dropping_ind (λ L K. length K ≤ length L) (omega arith) (λ c L e ih. omega arith) (λ c L e ih. omega arith)

    pub dropping_none : (L : List C) → Each (λ M c. t M c ≡ false) L → dropping t L ≡ L
    dropping_none [] h = dropping_nil
    dropping_none (c ∷ L) h = dropping_miss c L h.0 ∙ ap (λ K. c ∷ K) (dropping_none L h.1)

  pub dropping_same : (t u : List C → C → Bool) (L : List C) → Each (λ M c. t M c ≡ u M c) L → dropping t L ≡ dropping u L
  dropping_same t u = dropping_ind t (λ L K. Each (λ M c. t M c ≡ u M c) L → K ≡ dropping u L) (λ h. sym (dropping_nil u))
      (λ c L e ih h. ih h.1 ∙ sym (dropping_hit u c L (sym h.0 ∙ e))) (λ c L e ih h. ap (λ K. c ∷ K) (ih h.1) ∙ sym (dropping_miss u c L (sym h.0 ∙ e)))

  -- to drop what u takes, and of what is left what t takes, is to drop what s takes, where t looks at what u leaves
  pub dropping_dropping : (s t u : List C → C → Bool) (L : List C) → Each (λ M c. (u M c ≡ true → s M c ≡ true) × (u M c ≡ false → t (dropping u M) c ≡ s M c)) L
      → dropping t (dropping u L) ≡ dropping s L
  dropping_dropping s t u = dropping_ind u (λ L K. Each (λ M c. (u M c ≡ true → s M c ≡ true) × (u M c ≡ false → t (dropping u M) c ≡ s M c)) L → dropping t K ≡ dropping s L)
      (λ h. dropping_nil t ∙ sym (dropping_nil s)) (λ c L e ih h. ih h.1 ∙ sym (dropping_hit s c L (h.0.0 e)))
      (λ c L e ih h. cases (s L c) (λ f. dropping_hit t c (dropping u L) (h.0.1 e ∙ f) ∙ ih h.1 ∙ sym (dropping_hit s c L f))
      (λ f. dropping_miss t c (dropping u L) (h.0.1 e ∙ f) ∙ ap (λ K. c ∷ K) (ih h.1) ∙ sym (dropping_miss s c L f)))

  -- what passes no test goes: the same by the test turned round
  pub filter_not : (p : C → Bool) (L : List C) → filter (λ c. not (p c)) L ≡ dropping (λ M c. p c) L
  filter_not p L = dropping_same (λ M c. not (not (p c))) (λ M c. p c) L (each_all _ (λ M c. not-not (p c)) L)

  module _ (p : C → Bool) where
    pub filter_nil : filter p [] ≡ []
    filter_nil = dropping_nil (λ M c. not (p c))

    pub filter_hit : (c : C) (L : List C) → p c ≡ true → filter p (c ∷ L) ≡ c ∷ filter p L
    filter_hit c L e = dropping_miss (λ M c. not (p c)) c L (ap not e)

    pub filter_miss : (c : C) (L : List C) → p c ≡ false → filter p (c ∷ L) ≡ filter p L
    filter_miss c L e = dropping_hit (λ M c. not (p c)) c L (ap not e)

    pub filter_append : (L M : List C) → filter p (L ++ M) ≡ filter p L ++ filter p M
    filter_append [] M = rw filter_nil
    filter_append (c ∷ L) M =
        cases (p c) (λ e. rw (filter_hit c (L ++ M) e, filter_hit c L e, filter_append L M))
        (λ e. rw (filter_miss c (L ++ M) e, filter_miss c L e) (filter_append L M))

    -- one element more: it passes and is the last, or is not there
    pub filter_last : (L : List C) (c : C) → p c ≡ true → filter p (L ++ (c ∷ [])) ≡ filter p L ++ (c ∷ [])
    filter_last L c e = filter_append L (c ∷ []) ∙ rw (filter_hit c [] e, filter_nil)

    pub filter_past : (L : List C) (c : C) → p c ≡ false → filter p (L ++ (c ∷ [])) ≡ filter p L
    filter_past L c e = filter_append L (c ∷ []) ∙ rw (filter_miss c [] e, filter_nil) (append-nil (filter p L))

    -- the test looks at the element alone, so it may be put to a list in either order
    pub filter_reverse : (L : List C) → filter p (reverse L) ≡ reverse (filter p L)
    filter_reverse [] = rw filter_nil
    filter_reverse (c ∷ L) = rw (reverse-cons c L, filter_append (reverse L) (c ∷ []), filter_reverse L)
        (cases (p c) (λ e. rw (filter_hit c [] e, filter_nil, filter_hit c L e) (sym (reverse-cons c (filter p L))))
        (λ e. rw (filter_miss c [] e, filter_nil, filter_miss c L e) (append-nil (reverse (filter p L)))))

    -- a test that no element passes leaves none, and back
    pub filter_none : (L : List C) → All (λ c. p c ≡ false) L → filter p L ≡ []
    filter_none [] h = filter_nil
    filter_none (c ∷ L) h = filter_miss c L h.0 ∙ filter_none L h.1

    pub none_filter : (L : List C) → filter p L ≡ [] → All (λ c. p c ≡ false) L
    none_filter [] h = tt
    none_filter (c ∷ L) h =
        cases (p c) (λ e. cons_clash (sym (filter_hit c L e) ∙ h)) (λ e. (e, none_filter L (sym (filter_miss c L e) ∙ h)))

    -- each that is left passes the test
    pub filter_passed : (L : List C) → All (λ c. p c ≡ true) (filter p L)
    filter_passed = dropping_ind (λ M c. not (p c)) (λ L K. All (λ c. p c ≡ true) K) tt (λ c L e ih. ih) (λ c L e ih. (not-false (p c) e, ih))

-- elements read through f
pub dropping_map : {E C : Type 0} (f : E → C) (t : List C → C → Bool) (u : List E → E → Bool) → ((M : List E) (e : E) → t (map f M) (f e) ≡ u M e)
    → (L : List E) → dropping t (map f L) ≡ map f (dropping u L)
dropping_map f t u same = dropping_ind u (λ L K. dropping t (map f L) ≡ map f K) (dropping_nil t)
    (λ e L k ih. dropping_hit t (f e) (map f L) (same L e ∙ k) ∙ ih) (λ e L k ih. dropping_miss t (f e) (map f L) (same L e ∙ k) ∙ ap (λ K. f e ∷ K) ih)
