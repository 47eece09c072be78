-- Columns filled from the front with what is read of the records that stand, and a path. Assumes nothing.
use Rattle.std.proofs.Common.{◌≡◌, refl, sym, ap, ◌∙◌, List, ◌∷◌, ◌++◌, map, ℕ, zero, suc, ◌+◌, ◌*◌, ◌-◌, ◌≤◌, ◌<◌, min, arith, length, take, drop, get_or, replicate, length-take, length-drop, take-take, take_all}
use mathlib.Core.List.{map-map, map-append, append-nil}
use Rattle.lists.specs.Lists.{counted}
use Rattle.lists.specs.Counts.{counted_at, counted_first}
use Rattle.lists.specs.Fills.{Filling, filling_end}
use Rattle.register.specs.Limits.{path_limit}
use Rattle.register_bytes.specs.Bytes.{number_size, number_in, field_in, records_in}
use Rattle.register_bytes.specs.Laws.{record_at}
use Rattle.columns.specs.Columns.{up_to}

-- the places of a path are filled with its bytes
pub path_filled : (bytes : List ℕ) (at : ℕ) → at + path_limit ≤ length bytes → {i : ℕ} {path : List ℕ}
    → Filling path_limit (λ k. get_or (drop at bytes) k 0) path_limit 0 i path → path_limit ≤ i → path ≡ take path_limit (drop at bytes)
path_filled bytes at room s past =
    filling_end s past
    ∙ append-nil (map (λ k. get_or (drop at bytes) k 0) (counted 0 path_limit))
    ∙ counted_at 0 (drop at bytes) path_limit 0 (omega (arith, room, length-drop at bytes))

map_replicate : {A B : Type 0} (f : A → B) (n : ℕ) (x : A) → map f (replicate n x) ≡ replicate n (f x)
map_replicate f zero x = refl
map_replicate f (suc n) x = ap (λ m. f x ∷ m) (map_replicate f n x)

-- as many of a list as are looked at are those that stand
module _ {A : Type 0} (l : List A) (limit count : ℕ) (long : length l ≡ limit) {top : ℕ} (bound : top ≡ min count limit) where
  pub standing_length : top ≡ length (take count l)
  standing_length = omega (arith, bound, long, length-take count l)

  pub standing_first : take top l ≡ take count l
  standing_first = sym (take-take top count l (omega (arith, bound))) ∙ take_all top (take count l) (omega (arith, standing_length))

-- an array of a list's places is filled with f of what stands of the list
module _ {A B : Type 0} (f : A → B) (none : A) (l : List A) (limit count : ℕ) (long : length l ≡ limit) {top : ℕ} (bound : top ≡ min count limit) where
  -- f of what is read at the places that are filled is f of what stands
  standing_read : map (λ k. f (get_or l k none)) (counted 0 top) ≡ map f (take count l)
  standing_read =
      sym (map-map f (λ k. get_or l k none) (counted 0 top))
      ∙ ap (λ n. map f (map (λ k. get_or l k none) (counted 0 n))) (standing_length l limit count long bound)
      ∙ ap (map f) (counted_first none l count)

  pub standing_filled : {b : B} {i : ℕ} {column : List B} → Filling limit (λ k. f (get_or l k none)) top b i column → top ≤ i
      → column ≡ map f (take count l) ++ replicate (limit - top) b
  standing_filled {b} s past = filling_end s past ∙ ap (λ m. m ++ replicate (limit - top) b) standing_read

  pub column_filled : {i : ℕ} {column : List B} → Filling limit (λ k. f (get_or l k none)) top (f none) i column → top ≤ i → column ≡ map f (up_to none count l)
  unfolding up_to
  column_filled s past =
      let behind : limit - top ≡ length l - count = omega (arith, bound, long) in
      standing_filled s past
      ∙ ap (λ n. map f (take count l) ++ replicate n (f none)) behind
      ∙ ap (λ m. map f (take count l) ++ m) (sym (map_replicate f (length l - count) none))
      ∙ sym (map-append f (take count l) (replicate (length l - count) none))

-- a number of the record at a place of those that stand one behind the other
module _ {A : Type 0} (bytes : List ℕ) (read : ℕ → A) (size first n : ℕ) (d : A) {i : ℕ} (inside : i < n) where
  pub field_read : (f : A → ℕ) (k : ℕ) → f (read (first + i * size)) ≡ field_in bytes (first + i * size) k → {at x : ℕ} → x ≡ number_in number_size at bytes
      → at ≡ first + i * size + k * number_size → x ≡ f (get_or (records_in read size first n) i d)
  field_read f k is e there =
      e ∙ ap (λ m. number_in number_size m bytes) there ∙ sym is ∙ ap f (sym (record_at read size n first i d inside))
