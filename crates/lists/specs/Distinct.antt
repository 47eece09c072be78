-- Laws: Distinct numbers, with one more before them or behind them. Assumes nothing.
use Rattle.std.specs.Prelude.{◌≡◌, refl, Bool, true, false, not, ◌&&◌, ◌||◌, List, [], ◌∷◌, ◌++◌, ℕ, eqb}
use Rattle.std.proofs.Common.{sym, ◌∙◌, eq-eqb, eqb-true}
use Rattle.std.proofs.Math.Bool.{and-false, or-true, or-false}
use Rattle.std.proofs.lemmas.Bool.{not-true}
use Rattle.lists.specs.Tests.{cases, clash, and_left, and_right, or_other, eqb_turned}
use Rattle.lists.specs.Lists.{any, distinct}
use Rattle.lists.specs.Each.{any_append}

-- a number is distinct from those behind it, and those are distinct
pub distinct_nil : distinct [] ≡ true
unfolding distinct
distinct_nil = refl

pub distinct_cons : (x : ℕ) (l : List ℕ) → distinct (x ∷ l) ≡ not (any (eqb x) l) && distinct l
unfolding distinct
distinct_cons x l = refl

-- with one more behind they are distinct where they were and it is none of them
pub distinct_more : (l : List ℕ) (x : ℕ) → distinct (l ++ (x ∷ [])) ≡ distinct l && not (any (eqb x) l)
unfolding distinct
distinct_more [] x = refl
distinct_more (a ∷ l) x =
    rw (distinct_more l x, any_append (eqb a) l (x ∷ []), or-false (eqb a x), eqb_turned a x)
    (joined (any (eqb a) l) (eqb x a) (distinct l) (any (eqb x) l))
  where
    joined : (p q d r : Bool) → not (p || q) && (d && not r) ≡ (not p && d) && not (q || r)
    joined true q d r = refl
    joined false true true r = refl
    joined false true false r = refl
    joined false false d r = refl

-- so numbers that are distinct with a last one are distinct without it, and the last is none of them
pub record LastApart (l : List ℕ) (x : ℕ) : Type 0 where
  pub before : distinct l ≡ true
  pub other : any (eqb x) l ≡ false

pub last_apart : (l : List ℕ) (x : ℕ) → distinct (l ++ (x ∷ [])) ≡ true → LastApart l x
last_apart l x h =
    let told = sym (distinct_more l x) ∙ h in
    record {
      before = and_left (distinct l) (not (any (eqb x) l)) told;
      other = not-true (any (eqb x) l) (and_right (distinct l) (not (any (eqb x) l)) told);
    }

-- and stay distinct with a last one that is none of them
pub distinct_last : (l : List ℕ) (x : ℕ) → distinct l ≡ true → any (eqb x) l ≡ false → distinct (l ++ (x ∷ [])) ≡ true
distinct_last l x h none = distinct_more l x ∙ rw (h, none)

-- and are not where one of them comes again
pub distinct_again : (l : List ℕ) (x : ℕ) (more : List ℕ) → any (eqb x) l ≡ true → distinct (l ++ (x ∷ more)) ≡ false
distinct_again [] x more h = clash false h refl
distinct_again (y ∷ l) x more h =
    cases (eqb x y)
    (λ e. let turned : eqb y x ≡ true = eq-eqb y x (sym (eqb-true x y e)) in
    distinct_cons y (l ++ (x ∷ more)) ∙ rw (any_append (eqb y) l (x ∷ more), turned, or-true (any (eqb y) l)))
    (λ e. distinct_cons y (l ++ (x ∷ more))
    ∙ rw (distinct_again l x more (or_other (eqb x y) (any (eqb x) l) h e)) (and-false (not (any (eqb y) (l ++ (x ∷ more))))))
