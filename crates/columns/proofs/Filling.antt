-- A loop that fills an array from the front, each place with f of the element that stands there, up to a count. Assumes nothing.
use Rattle.std.proofs.Common.{◌≡◌, refl, sym, ap, ◌∙◌, List, [], ◌∷◌, ◌++◌, map, ℕ, zero, suc, ◌+◌, ◌-◌, ◌≤◌, ◌<◌, min, add-one, arith, leb-true, leb-false, leb, length, take, get_or, set, replicate, length-take, take-suc}
use native.Mathlib.Nat.{sub-zero}
use Rattle.lists.specs.Tests.{cases}
use Rattle.lists.specs.Fills.{put_first}
use Rattle.columns.specs.Columns.{up_to}
use Rattle.columns.specs.Laws.{up_to_all}

map_set : {A B : Type 0} (f : A → B) (l : List A) (i : ℕ) (x : A) → map f (set l i x) ≡ set (map f l) i (f x)
map_set f [] i x = refl
map_set f (y ∷ l) zero x = refl
map_set f (y ∷ l) (suc i) x = ap (λ m. f y ∷ m) (map_set f l i x)

map_replicate : {A B : Type 0} (f : A → B) (n : ℕ) (x : A) → map f (replicate n x) ≡ replicate n (f x)
map_replicate f zero x = refl
map_replicate f (suc n) x = ap (λ m. f x ∷ m) (map_replicate f n x)

-- one element more
up_to_next : {A : Type 0} (none : A) (i : ℕ) (l : List A) (d : A) → i < length l → set (up_to none i l) i (get_or l i d) ≡ up_to none (i + 1) l
unfolding up_to
up_to_next none i l d h =
    let first : length (take i l) ≡ i = omega (arith, length-take i l) in
    put_first (take i l) (length l) i none (get_or l i d) first h
    ∙ ap (λ m. m ++ replicate (length l - (i + 1)) none) (sym (ap (λ k. take k l) (add-one i) ∙ take-suc l i d h))

-- the column holds f of the first i elements of l
pub record Filling {A B : Type 0} (f : A → B) (none : A) (l : List A) (top i : ℕ) (column : List B) : Type 0 where
  pub within : i ≤ top
  pub room : top ≤ length l
  pub filled : column ≡ map f (up_to none i l)

module _ {A B : Type 0} {f : A → B} {none : A} {l : List A} {top : ℕ} where
  pub empty : top ≤ length l → {n : ℕ} → length l ≡ n → Filling f none l top 0 (replicate n (f none))
  unfolding up_to
  empty h same = record { within = omega arith; room = h; filled = rw (← same, sub-zero, map_replicate) }

  module _ {i : ℕ} {column : List B} (s : Filling f none l top i column) where
    pub fill : (d : A) → i < top → Filling f none l top (i + 1) (set column i (f (get_or l i d)))
    fill d h =
        let inside : i < length l = omega (arith, s.room) in
        record {
          within = omega arith;
          room = s.room;
          filled = rw s.filled (sym (map_set f (up_to none i l) i (get_or l i d)) ∙ ap (map f) (up_to_next none i l d inside));
        }

    -- as many as the list has, where the count is above
    pub full : (count : ℕ) → top ≡ min count (length l) → top ≤ i → column ≡ map f (up_to none count l)
    full count bound h =
        cases (leb count (length l))
        (λ e. let same : i ≡ count = omega (arith, s.within, leb-true count (length l) e) in s.filled ∙ ap (λ k. map f (up_to none k l)) same)
        (λ e. let over = leb-false count (length l) e in
        s.filled ∙ ap (map f) (up_to_all none i l (omega (arith, s.within, over)) ∙ sym (up_to_all none count l (omega (arith, over)))))
