-- Laws: Things with distinct ids: what is asked of the one numbered x is asked of what stands at its place. Assumes nothing.
use Rattle.std.specs.Prelude.{◌≡◌, Bool, true, false, ◌&&◌, ◌||◌, List, [], ◌∷◌, map, ℕ, zero, suc, ◌≤◌, ◌<◌, eqb, ltb, length, take, get_or, Option, None, Some}
use Rattle.std.proofs.Common.{sym, ap, ◌∙◌, arith, eqb-true, ltb-true, ltb-false, take-suc, take_all}
use Rattle.std.proofs.Math.Bool.{or-false}
use Rattle.std.proofs.lemmas.List.{map-append, length-map}
use Rattle.std.proofs.lemmas.Bool.{eqb-false}
use Rattle.std.proofs.Math.ListN.{get_or-map}
use Rattle.lists.specs.Tests.{cases, and_left}
use Rattle.lists.specs.Lists.{any, distinct}
use Rattle.lists.specs.Each.{any_map, none_weaken, any_append}
use Rattle.lists.specs.Distinct.{LastApart, last_apart}
use Rattle.columns.specs.Columns.{latest_place}
use Rattle.columns.specs.Laws.{place_none, place_hit, place_miss, place_past}

-- what is asked of the thing at a place, and of nothing where there is none
abbrev pub asked_at : {A : Type 0} → A → List A → (A → Bool) → Option ℕ → Bool
asked_at d l q (Some j) = q (get_or l j d)
asked_at d l q None = false

last_hit : (a b c : Bool) → a ≡ false → b ≡ true → a || ((b && c) || false) ≡ c
last_hit a b c h k = rw (h, k) (or-false c)

last_miss : (a b c : Bool) → b ≡ false → a || ((b && c) || false) ≡ a
last_miss a b c k = rw k (or-false a)

module _ {A : Type 0} (id : A → ℕ) (d : A) (zeroed : id d ≡ 0) (l : List A) (x : ℕ) (q : A → Bool) where
  abbrev is_asked : A → Bool
  is_asked a = eqb x (id a) && q a

  one_more : (n : ℕ) → n < length l → any is_asked (take (suc n) l) ≡ any is_asked (take n l) || (is_asked (get_or l n d) || false)
  one_more n inside = rw (take-suc l n d) (any_append is_asked (take n l) (get_or l n d ∷ []))

  ids_last : (n : ℕ) → n < length l → distinct (map id (take (suc n) l)) ≡ true → LastApart (map id (take n l)) (id (get_or l n d))
  ids_last n inside h =
      last_apart (map id (take n l)) (id (get_or l n d))
      (rw (map-append id (take n l) (get_or l n d ∷ [])) at (rw (take-suc l n d) at h))

  column_at : (n : ℕ) → get_or (map id l) n 0 ≡ id (get_or l n d)
  column_at n = rw zeroed at (get_or-map id l n d)

  -- some of the first n has the number x and passes a test where the one at the place of x does
  pub asked_natural : (n : ℕ) → distinct (map id (take n l)) ≡ true
      → any (λ a. eqb x (id a) && q a) (take n l) ≡ asked_at d l q (latest_place (map id l) n x)
  asked_natural zero h = rw (place_none (map id l) x)
  asked_natural (suc n) h =
      cases (ltb n (length l))
      (λ t. let inside : n < length l = ltb-true n (length l) t in
      let there : n < length (map id l) = omega (arith, length-map l id) in
      let apart = ids_last n inside h in
      cases (eqb x (id (get_or l n d)))
      (λ e. let same : x ≡ id (get_or l n d) = eqb-true x (id (get_or l n d)) e in
      let none : any (λ a. eqb x (id a)) (take n l) ≡ false =
      sym (any_map id (eqb x) (take n l)) ∙ ap (λ y. any (eqb y) (map id (take n l))) same ∙ apart.other in
      let before : any is_asked (take n l) ≡ false = none_weaken is_asked (λ a. eqb x (id a)) (λ a. and_left (eqb x (id a)) (q a)) (take n l) none in
      one_more n inside
      ∙ last_hit (any is_asked (take n l)) (eqb x (id (get_or l n d))) (q (get_or l n d)) before e
      ∙ sym (ap (asked_at d l q) (place_hit (map id l) x n there (column_at n ∙ sym same))))
      (λ e. one_more n inside
      ∙ last_miss (any is_asked (take n l)) (eqb x (id (get_or l n d))) (q (get_or l n d)) e
      ∙ asked_natural n apart.before
      ∙ sym (ap (asked_at d l q) (place_miss (map id l) x n there (λ same. eqb-false x (id (get_or l n d)) e (sym same ∙ column_at n))))))
      (λ t. let past : length l ≤ n = ltb-false n (length l) t in
      let ended : length (map id l) ≤ n = omega (arith, length-map l id) in
      let whole : take (suc n) l ≡ take n l = take_all (suc n) l (omega arith) ∙ sym (take_all n l past) in
      ap (any is_asked) whole
      ∙ asked_natural n (rw whole at h)
      ∙ sym (ap (asked_at d l q) (place_past (map id l) x n ended)))
