-- Laws: What some or every element of a list passing a test, or each of them having a property, says and follows from. Assumes nothing.
use Rattle.std.specs.Prelude.{◌≡◌, refl, Bool, true, false, ◌||◌, ◌&&◌, ℕ, zero, suc, ◌<◌, length, take, get_or, List, [], ◌∷◌, ◌++◌, map, reverse}
use Rattle.std.proofs.Common.{ap, sym, ◌∙◌, arith}
use Rattle.std.proofs.Math.Bool.{and_assoc, and_comm, and-true, or_comm, or-false}
use mathlib.Core.List.{map-append, reverse-cons}
use Rattle.lists.specs.Tests.{cases, clash, and_left, and_right, and_both, and_middle, or_left, or_right, or_middle}
use Rattle.lists.specs.Lists.{any, every, ands, Each, All}

module _ {A : Type 0} where
  -- some element of two lists passes the test where one of either does
  pub any_append : (p : A → Bool) (l m : List A) → any p (l ++ m) ≡ any p l || any p m
  any_append p [] m = refl
  any_append p (a ∷ l) m = cases (p a) (λ e. rw e) (λ e. rw e (any_append p l m))

  -- some element passes a test whichever way round the list is
  pub any_reverse : (p : A → Bool) (l : List A) → any p (reverse l) ≡ any p l
  any_reverse p [] = refl
  any_reverse p (a ∷ l) =
      ap (any p) (reverse-cons a l)
      ∙ any_append p (reverse l) (a ∷ [])
      ∙ rw (any_reverse p l, or-false (p a)) (or_comm (any p l) (p a))

  -- the test passes at each place of a list of which every element passes it
  pub every_at : (p : A → Bool) (l : List A) → every p l ≡ true → (d : A) (k : ℕ) → k < length l → p (get_or l k d) ≡ true
  every_at p [] t d k h = absurd (omega arith)
  every_at p (a ∷ l) t d zero h = and_left (p a) (every p l) t
  every_at p (a ∷ l) t d (suc k) h = every_at p l (and_right (p a) (every p l) t) d k (omega arith)

  -- and every element of a list passes it where it passes at each place
  pub at_every : (p : A → Bool) (l : List A) (d : A) → ((k : ℕ) → k < length l → p (get_or l k d) ≡ true) → every p l ≡ true
  at_every p [] d h = refl
  at_every p (a ∷ l) d h = rw (h 0 (omega arith)) (at_every p l d (λ k inside. h (suc k) (omega arith)))

  pub every_append : (p : A → Bool) (l m : List A) → every p (l ++ m) ≡ every p l && every p m
  every_append p [] m = refl
  every_append p (a ∷ l) m = cases (p a) (λ e. rw e (every_append p l m)) (λ e. rw e)

  -- two tests that every element passes are one
  pub every_both : (p q : A → Bool) (l : List A) → every p l && every q l ≡ every (λ x. p x && q x) l
  every_both p q [] = refl
  every_both p q (a ∷ l) = and_middle (p a) (every p l) (q a) (every q l) ∙ ap (λ b. (p a && q a) && b) (every_both p q l)

  -- every element passes a test whichever way round the list is
  pub every_reverse : (p : A → Bool) (l : List A) → every p (reverse l) ≡ every p l
  every_reverse p [] = refl
  every_reverse p (a ∷ l) =
      ap (every p) (reverse-cons a l)
      ∙ every_append p (reverse l) (a ∷ [])
      ∙ rw (every_reverse p l, and-true (p a)) (and_comm (every p l) (p a))

-- a list taken apart, with its equation
pub list_cases : {A C : Type 0} (L : List C) → (L ≡ [] → A) → ((c : C) (M : List C) → L ≡ c ∷ M → A) → A
list_cases [] f g = f refl
list_cases (c ∷ M) f g = g c M refl

-- a list with an element is not empty
pub cons_clash : {A C : Type 0} {c : C} {L : List C} → c ∷ L ≡ [] → A
cons_clash e = let never : ◌≡◌ {A = ℕ} 0 1 = cc in absurd (omega arith)

module _ {C : Type 0} where
  pub each_all : (F : List C → C → Type 0) → ((L : List C) (c : C) → F L c) → (L : List C) → Each F L
  each_all F f [] = tt
  each_all F f (c ∷ L) = (f L c, each_all F f L)

  pub each_imp : (F G : List C → C → Type 0) → ((L : List C) (c : C) → F L c → G L c) → (L : List C) → Each F L → Each G L
  each_imp F G f [] h = tt
  each_imp F G f (c ∷ L) h = (f L c h.0, each_imp F G f L h.1)

  pub all_imp : (Q R : C → Type 0) → ((c : C) → Q c → R c) → (L : List C) → All Q L → All R L
  all_imp Q R f = each_imp (λ L c. Q c) (λ L c. R c) (λ L c. f c)

  pub each_both : (F G K : List C → C → Type 0) → ((L : List C) (c : C) → F L c → G L c → K L c) → (L : List C) → Each F L → Each G L → Each K L
  each_both F G K f [] h k = tt
  each_both F G K f (c ∷ L) h k = (f L c h.0 k.0, each_both F G K f L h.1 k.1)

  pub all_both : (Q R S : C → Type 0) → ((c : C) → Q c → R c → S c) → (L : List C) → All Q L → All R L → All S L
  all_both Q R S f = each_both (λ L c. Q c) (λ L c. R c) (λ L c. S c) (λ L c. f c)

  -- what holds of each holds of each behind it too
  pub each_behind : (F : List C → C → Type 0) (L : List C) → Each F L → Each (λ M c. F M c × Each F M) L
  each_behind F [] h = tt
  each_behind F (c ∷ L) h = (h, each_behind F L h.1)

  pub all_append : (Q : C → Type 0) (L M : List C) → All Q L → All Q M → All Q (L ++ M)
  all_append Q [] M h k = k
  all_append Q (c ∷ L) M h k = (h.0, all_append Q L M h.1 k)

  pub all_append_right : (Q : C → Type 0) (L M : List C) → All Q (L ++ M) → All Q M
  all_append_right Q [] M h = h
  all_append_right Q (c ∷ L) M h = all_append_right Q L M h.1

  -- what holds of each holds of each of the first ones
  pub all_take : (Q : C → Type 0) (n : ℕ) (L : List C) → All Q L → All Q (take n L)
  all_take Q zero L h = tt
  all_take Q (suc n) [] h = tt
  all_take Q (suc n) (c ∷ L) h = (h.0, all_take Q n L h.1)

  -- no element passes the test exactly where each fails it
  pub none_all : (p : C → Bool) (L : List C) → any p L ≡ false → All (λ c. p c ≡ false) L
  none_all p [] h = tt
  none_all p (c ∷ L) h = (or_left (p c) (any p L) h, none_all p L (or_right (p c) (any p L) h))

  pub all_none : (p : C → Bool) (L : List C) → All (λ c. p c ≡ false) L → any p L ≡ false
  all_none p [] h = refl
  all_none p (c ∷ L) h = rw h.0 (all_none p L h.1)

  -- where one test follows from another, none passes the first where none passes the second
  pub none_weaken : (p q : C → Bool) → ((c : C) → p c ≡ true → q c ≡ true) → (L : List C) → any q L ≡ false → any p L ≡ false
  none_weaken p q f L h =
      all_none p L (all_imp (λ c. q c ≡ false) (λ c. p c ≡ false)
      (λ c e. cases (p c) (λ k. clash (q c) (f c k) e) (λ k. k)) L (none_all q L h))

  -- every element passes the test exactly where each passes it
  pub every_all : (p : C → Bool) (L : List C) → every p L ≡ true → All (λ c. p c ≡ true) L
  every_all p [] h = tt
  every_all p (c ∷ L) h = (and_left (p c) (every p L) h, every_all p L (and_right (p c) (every p L) h))

  pub all_every : (p : C → Bool) (L : List C) → All (λ c. p c ≡ true) L → every p L ≡ true
  all_every p [] h = refl
  all_every p (c ∷ L) h = and_both (p c) (every p L) h.0 (all_every p L h.1)

  pub any_same : (p q : C → Bool) (L : List C) → All (λ c. p c ≡ q c) L → any p L ≡ any q L
  any_same p q [] h = refl
  any_same p q (c ∷ L) h = rw (h.0, any_same p q L h.1)

  -- some element passes one of two tests where some passes the first or some the second
  pub any_either : (p q : C → Bool) (L : List C) → any (λ c. p c || q c) L ≡ any p L || any q L
  any_either p q [] = refl
  any_either p q (c ∷ L) = rw (any_either p q L) (or_middle (p c) (q c) (any p L) (any q L))

-- some tests joinedTests from the left
abbrev pub joined_tests : Bool → List Bool → Bool
joined_tests a [] = a
joined_tests a (b ∷ l) = joined_tests (a && b) l

-- they are all of the tests
pub joined_ands : (a : Bool) (l : List Bool) → joined_tests a l ≡ ands (a ∷ l)
joined_ands a [] = sym (and-true a)
joined_ands a (b ∷ l) = joined_ands (a && b) l ∙ and_assoc a b (ands l)

-- all of some tests, taken apart
pub ands_out : (l : List Bool) → ands l ≡ true → All (λ b. b ≡ true) l
ands_out [] h = tt
ands_out (b ∷ l) h = (and_left b (ands l) h, ands_out l (and_right b (ands l) h))

-- elements read through f
module _ {E C : Type 0} (f : E → C) where
  pub any_map : (p : C → Bool) (L : List E) → any p (map f L) ≡ any (λ e. p (f e)) L
  any_map p [] = refl
  any_map p (e ∷ L) = rw (any_map p L)

  pub every_map : (p : C → Bool) (L : List E) → every p (map f L) ≡ every (λ e. p (f e)) L
  every_map p [] = refl
  every_map p (e ∷ L) = rw (every_map p L)

  -- what holds of each read through f holds of each of the mapped list
  pub all_map : (Q : C → Type 0) (L : List E) → All (λ e. Q (f e)) L → All Q (map f L)
  all_map Q [] h = tt
  all_map Q (e ∷ L) h = (h.0, all_map Q L h.1)

  -- the first n of a mapped list are those of the list, mapped
  pub take_map : (n : ℕ) (L : List E) → take n (map f L) ≡ map f (take n L)
  take_map zero L = refl
  take_map (suc n) [] = refl
  take_map (suc n) (e ∷ L) = rw (take_map n L)

  -- and a mapped list is turned round as the list is
  pub reverse_map : (L : List E) → reverse (map f L) ≡ map f (reverse L)
  reverse_map [] = refl
  reverse_map (e ∷ L) =
      reverse-cons (f e) (map f L) ∙ ap (λ K. K ++ (f e ∷ [])) (reverse_map L) ∙ sym (map-append f (reverse L) (e ∷ [])) ∙ ap (map f) (sym (reverse-cons e L))
