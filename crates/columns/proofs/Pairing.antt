-- A loop from the front over the first n of two columns, looking for x in the one beside y in the other. Assumes nothing.
use Rattle.std.proofs.Common.{◌≡◌, refl, sym, ap, ◌∙◌, Bool, false, ◌&&◌, ◌||◌, List, [], ◌∷◌, ℕ, ◌+◌, ◌≤◌, ◌<◌, min, arith, eqb, leb, length, take, drop, get_or, length-take, drop_of_length-le, leb-true, leb-false}
use mathlib.Core.Bool.{or_assoc, or-false}
use Rattle.lists.specs.Tests.{cases}
use Rattle.lists.specs.Loops.{drop_at}
use Rattle.columns.specs.Columns.{beside}

-- the loop has come to place i: x stands beside y where they were hit or do so in what is left
pub record Pairing (column other : List ℕ) (n x y top : ℕ) (hit : Bool) (i : ℕ) : Type 0 where
  pub within : i ≤ top
  pub long : top ≡ min (min n (length column)) (length other)
  pub ahead : beside (take n column) (take n other) x y ≡ hit || beside (drop i (take n column)) (drop i (take n other)) x y

-- where one column ends, nothing stands beside
beside_left : (m : List ℕ) (x y : ℕ) → beside [] m x y ≡ false
unfolding beside
beside_left m x y = refl

beside_right : (l : List ℕ) (x y : ℕ) → beside l [] x y ≡ false
unfolding beside
beside_right [] x y = refl
beside_right (a ∷ l) x y = refl

beside_cons : (x y a b : ℕ) (l m : List ℕ) → beside (a ∷ l) (b ∷ m) x y ≡ (eqb x a && eqb y b) || beside l m x y
unfolding beside
beside_cons x y a b l m = refl

module _ {column other : List ℕ} {n x y top : ℕ} where
  module _ {hit : Bool} {i : ℕ} (s : Pairing column other n x y top hit i) where
    pub pairing_next : i < top → Pairing column other n x y top (hit || (eqb x (get_or column i 0) && eqb y (get_or other i 0))) (i + 1)
    pairing_next h =
        let here : i < length (take n column) = omega (arith, length-take n column) in
        let there : i < length (take n other) = omega (arith, length-take n other) in
        record {
          within = omega arith;
          long = s.long;
          ahead =
              s.ahead
              ∙ ap (λ b. hit || b)
              (rw (drop_at n column i 0 here, drop_at n other i 0 there)
              (beside_cons x y (get_or column i 0) (get_or other i 0) (drop (i + 1) (take n column)) (drop (i + 1) (take n other))))
              ∙ sym (or_assoc hit (eqb x (get_or column i 0) && eqb y (get_or other i 0)) _);
        }

    pub pairing_done : top ≤ i → beside (take n column) (take n other) x y ≡ hit
    pairing_done h =
        let l = take n column in
        let m = take n other in
        s.ahead
        ∙ ap (λ b. hit || b)
        (cases (leb (length l) i)
        (λ e. let past : length l ≤ i = leb-true (length l) i e in rw (drop_of_length-le l past) (beside_left (drop i m) x y))
        (λ e. let past : length m ≤ i = omega (arith, leb-false (length l) i e, length-take n column, length-take n other) in
        rw (drop_of_length-le m past) (beside_right (drop i l) x y)))
        ∙ or-false hit
