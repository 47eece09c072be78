-- A column filled from the front with a field of each element of a list of its length. Assumes nothing.
use Rattle.std.proofs.Common.{◌≡◌, sym, ap, ◌∙◌, List, [], ◌∷◌, ◌++◌, map, ℕ, ◌+◌, ◌-◌, ◌≤◌, ◌<◌, add-one, arith, length, take, get_or, set, replicate, length-take, take-suc}
use mathlib.Core.List.{map-append}
use lib.ListN.{length-map}
use Rattle.lists.specs.Fills.{put_first}

-- the first i places are filled
pub record Linking {A : Type 0} (f : A → ℕ) (cs : List A) (size i : ℕ) (column : List ℕ) : Type 0 where
  pub within : i ≤ size
  pub long : length cs ≡ size
  pub filled : column ≡ map f (take i cs) ++ replicate (size - i) 0

module _ {A : Type 0} {f : A → ℕ} {cs : List A} {size : ℕ} where
  module _ {i : ℕ} {column : List ℕ} (p : Linking f cs size i column) where
    pub linking_next : (none : A) → i < size → Linking f cs size (i + 1) (set column i (f (get_or cs i none)))
    linking_next none inside =
        let many : length (map f (take i cs)) ≡ i = omega (arith, length-map (take i cs) f, length-take i cs, p.long, inside) in
        record {
          within = omega (arith, inside);
          long = p.long;
          filled =
              ap (λ l. set l i (f (get_or cs i none))) p.filled
              ∙ put_first (map f (take i cs)) size i 0 (f (get_or cs i none)) many inside
              ∙ ap (λ l. l ++ replicate (size - (i + 1)) 0)
              (sym (ap (λ m. map f (take m cs)) (add-one i) ∙ ap (map f) (take-suc cs i none (omega (arith, p.long, inside))) ∙ map-append f (take i cs) (get_or cs i none ∷ [])));
        }
