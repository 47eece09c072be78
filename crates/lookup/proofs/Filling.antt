-- A loop that fills an array of places from the front, each with f of the place. Assumes nothing.
use Rattle.std.proofs.Common.{◌≡◌, ap, ◌∙◌, List, [], ◌∷◌, ◌++◌, map, ℕ, ◌+◌, ◌≤◌, ◌<◌, zero-add, add-one, arith, length, set}
use mathlib.Core.List.{map-append}
use lib.ListN.{length-map}
use Rattle.lists.specs.Counts.{counted_length, counted_last}
use Rattle.lists.specs.Fills.{put_first}
use Rattle.lists.specs.Lists.{counted}
use Rattle.register.specs.Limits.{claim_limit}
use Rattle.lookup.specs.Finding.{tabled}

-- the first i places, of top that are to be filled, hold f of the place
pub record Filling (f : ℕ → ℕ) (top i : ℕ) (places : List ℕ) : Type 0 where
  pub within : i ≤ top
  pub room : top ≤ claim_limit
  pub filled : places ≡ tabled f i

module _ {f : ℕ → ℕ} {top : ℕ} where
  module _ {i : ℕ} {places : List ℕ} (s : Filling f top i places) where
    pub fill : (x : ℕ) → i < top → x ≡ f i → Filling f top (i + 1) (set places i x)
    fill x h e =
        let long : length (map f (counted 0 i)) ≡ i = length-map (counted 0 i) f ∙ counted_length 0 i in
        let more : map f (counted 0 (i + 1)) ≡ map f (counted 0 i) ++ (f i ∷ []) =
        ap (map f) (ap (counted 0) (add-one i) ∙ counted_last 0 i ∙ ap (λ j. counted 0 i ++ (j ∷ [])) (zero-add i)) ∙ map-append f (counted 0 i) (i ∷ []) in
        record {
          within = omega arith;
          room = s.room;
          filled = rw (s.filled, more, e) (put_first (map f (counted 0 i)) claim_limit i claim_limit (f i) long (omega arith));
        }

    pub full : top ≤ i → places ≡ tabled f top
    full h = let same : i ≡ top = omega arith in s.filled ∙ ap (λ n. tabled f n) same
