-- Lists read at counted places. Assumes nothing.
use Rattle.std.proofs.Common.{◌≡◌, refl, sym, ap, ◌∙◌, List, [], ◌∷◌, ◌++◌, map, ℕ, zero, suc, ◌+◌, ◌-◌, ◌<◌, arith, length, get_or, replicate}
use lib.ListN.{length-map}
use Rattle.lists.specs.Lists.{counted}
use Rattle.lists.specs.Counts.{counted_length}
use Rattle.lists.specs.Fills.{filled_by}
use Rattle.table_showing.specs.Shown.{shown_in}

-- what f makes of the places from i on is what g makes of the list, element by element
pub list_counted : {B : Type 0} (g : B → ℕ) (d : B) (f : ℕ → ℕ) (l : List B) (i : ℕ) → ((b : ℕ) → b < length l → f (i + b) ≡ g (get_or l b d))
    → map f (counted i (length l)) ≡ map g l
list_counted g d f [] i h = refl
list_counted g d f (x ∷ l) i h =
    let here : i ≡ i + 0 = omega arith in
    ap (λ y. y ∷ map f (counted (suc i) (length l))) (ap f here ∙ h 0 (omega arith))
    ∙ ap (λ m. g x ∷ m)
    (list_counted g d f l (suc i) (λ b below. let further : suc i + b ≡ i + suc b = omega arith in ap f further ∙ h (suc b) (omega (arith, below))))

-- counted places in two parts
pub counted_parts : (i m n : ℕ) → counted i (m + n) ≡ counted i m ++ counted (i + m) n
counted_parts i zero n =
    let none : zero + n ≡ n = omega arith in
    let here : i ≡ i + zero = omega arith in
    ap (counted i) none ∙ ap (λ j. counted j n) here
counted_parts i (suc m) n =
    let more : suc m + n ≡ suc (m + n) = omega arith in
    let further : suc i + m ≡ i + suc m = omega arith in
    ap (counted i) more ∙ ap (λ l. i ∷ l) (counted_parts (suc i) m n ∙ ap (λ j. counted (suc i) m ++ counted j n) further)

-- an array that is filled from the front shows what it is filled with
pub filled_shown : (limit n none : ℕ) (f : ℕ → ℕ) (l : List ℕ) → map f (counted 0 n) ≡ l → filled_by limit f n none ≡ shown_in limit none l
filled_shown limit n none f l e =
    let long : n ≡ length l = sym (counted_length 0 n) ∙ sym (length-map (counted 0 n) f) ∙ ap length e in
    ap (λ m. m ++ replicate (limit - n) none) e ∙ ap (λ k. l ++ replicate (limit - k) none) long
