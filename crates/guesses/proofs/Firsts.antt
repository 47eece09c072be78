-- The first of a list that passes a test decides for the whole list, where numbers are distinct; and what does not pass may be left out.
-- Assumes nothing.
use Rattle.std.proofs.Common.{◌≡◌, refl, ap, sym, ◌∙◌, Bool, true, false, not, ◌&&◌, ◌||◌, List, [], ◌∷◌, map, ℕ, suc, eqb-true, eqb, leb}
use borrow.Author.Tests.{not-true}
use Rattle.lists.specs.Tests.{cases, clash, and_left, and_right}
use Rattle.lists.specs.Lists.{any, filter, All, distinct}
use Rattle.lists.specs.Each.{any_map, none_weaken}
use Rattle.lists.specs.Filters.{filter_nil, filter_hit, filter_miss}
use Rattle.lists.specs.Distinct.{distinct_cons}
use Rattle.gate_rules.specs.Gate.{first_of, nearest_of}
use Rattle.gate_rules.specs.Places.{first_hit, first_miss, first_none, first_found}
use Rattle.gate_rules.specs.Nearest.{nearer_from, nearest_walked}

module _ {C : Type 0} where
  -- some element passes where the first that passes does
  pub any_first : (p : C → Bool) (L : List C) → any p L ≡ any p (first_of p L)
  any_first p [] = ap (any p) (sym (first_none p [] refl))
  any_first p (c ∷ L) = cases (p c) (λ e. rw (first_hit p c L e, e)) (λ e. rw (first_miss p c L e, e) (any_first p L))

  -- a list of the first is empty or has one element, which passes
  pub first_cases : {A : Type 0} (p : C → Bool) (L : List C) → (first_of p L ≡ [] → A) → ((c : C) → p c ≡ true → first_of p L ≡ c ∷ [] → A) → A
  first_cases p L f g =
      cases (any p L) (λ some. let found = first_found p L some in g found.0 found.1.passes found.1.alone) (λ none. f (first_none p L none))

  -- among distinct numbers: some element that has the number passes a test where the first that has it does
  pub any_numbered : (f : C → ℕ) (x : ℕ) (p : C → Bool) (L : List C) → distinct (map f L) ≡ true
      → any (λ c. eqb x (f c) && p c) L ≡ any p (first_of (λ c. eqb x (f c)) L)
  any_numbered f x p [] h = ap (any p) (sym (first_none (λ c. eqb x (f c)) [] refl))
  any_numbered f x p (c ∷ L) h =
      let told = sym (distinct_cons (f c) (map f L)) ∙ h in
      let others : any (eqb (f c)) (map f L) ≡ false = not-true (any (eqb (f c)) (map f L)) (and_left (not (any (eqb (f c)) (map f L))) (distinct (map f L)) told) in
      cases (eqb x (f c))
      (λ e. let apart : any (λ d. eqb x (f d)) L ≡ false = ap (λ n. any (λ d. eqb n (f d)) L) (eqb-true x (f c) e) ∙ sym (any_map f (eqb (f c)) L) ∙ others in
      rw (
        first_hit (λ d. eqb x (f d)) c L e,
        e,
        none_weaken (λ d. eqb x (f d) && p d) (λ d. eqb x (f d)) (λ d. and_left (eqb x (f d)) (p d)) L apart,
      ))
      (λ e. rw (first_miss (λ d. eqb x (f d)) c L e, e)
      (any_numbered f x p L (and_right (not (any (eqb (f c)) (map f L))) (distinct (map f L)) told)))

  -- where all that passes one test passes another, what fails that may be left out
  module _ (p q : C → Bool) (kept : (c : C) → p c ≡ true → q c ≡ true) where
    out : (c : C) → q c ≡ false → p c ≡ false
    out c e = cases (p c) (λ k. clash (q c) (kept c k) e) (λ k. k)

    pub any_filter : (L : List C) → any p L ≡ any p (filter q L)
    any_filter [] = ap (any p) (sym (filter_nil q))
    any_filter (c ∷ L) =
        cases (q c) (λ e. ap (λ b. p c || b) (any_filter L) ∙ ap (any p) (sym (filter_hit q c L e)))
        (λ e. ap (λ b. b || any p L) (out c e) ∙ any_filter L ∙ ap (any p) (sym (filter_miss q c L e)))

    nearer_filter : (n : C → ℕ) (best : List C) (bar : ℕ) (L : List C) → nearer_from p n best bar L ≡ nearer_from p n best bar (filter q L)
    nearer_filter n best bar [] = ap (nearer_from p n best bar) (sym (filter_nil q))
    nearer_filter n best bar (c ∷ L) =
        cases (q c)
        (λ e. rw (filter_hit q c L e)
        (cases (p c && leb bar (n c)) (λ near. rw near (nearer_filter n (c ∷ []) (suc (n c)) L)) (λ far. rw far (nearer_filter n best bar L))))
        (λ e. rw (filter_miss q c L e, out c e) (nearer_filter n best bar L))

    pub nearest_filter : (n : C → ℕ) (L : List C) → nearest_of p n L ≡ nearest_of p n (filter q L)
    nearest_filter n L = nearest_walked p n L ∙ nearer_filter n [] 0 L ∙ sym (nearest_walked p n (filter q L))

-- elements read through g
module _ {E C : Type 0} (g : E → C) (p : E → Bool) (q : C → Bool) where
  pub any_read : (L : List E) → All (λ e. p e ≡ q (g e)) L → any p L ≡ any q (map g L)
  any_read [] h = refl
  any_read (e ∷ L) h = rw (h.0, any_read L h.1)

  module _ (n : E → ℕ) (m : C → ℕ) where
    nearer_read : (best : List E) (bar : ℕ) (L : List E) → All (λ e. (p e ≡ q (g e)) × (n e ≡ m (g e))) L
        → map g (nearer_from p n best bar L) ≡ nearer_from q m (map g best) bar (map g L)
    nearer_read best bar [] h = refl
    nearer_read best bar (e ∷ L) h =
        rw (h.0.0, h.0.1)
        (cases (q (g e) && leb bar (m (g e))) (λ near. rw near (nearer_read (e ∷ []) (suc (m (g e))) L h.1))
        (λ far. rw far (nearer_read best bar L h.1)))

    pub nearest_read : (L : List E) → All (λ e. (p e ≡ q (g e)) × (n e ≡ m (g e))) L → map g (nearest_of p n L) ≡ nearest_of q m (map g L)
    nearest_read L h = ap (map g) (nearest_walked p n L) ∙ nearer_read [] 0 L h ∙ sym (nearest_walked q m (map g L))
