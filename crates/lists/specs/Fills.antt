-- Laws: An array filled from the front, for any element. Assumes nothing.
use Rattle.std.specs.Prelude.{ℕ, zero, suc, ◌+◌, ◌-◌, ◌<◌, ◌≤◌, ◌≡◌, List, [], ◌∷◌, ◌++◌, map, length, get_or, set, replicate}
use Rattle.std.proofs.Common.{ap, ◌∙◌, append_assoc, zero-add, add-one, arith, length-append}
use Rattle.std.proofs.lemmas.List.{map-append, length-map, length-replicate, set_at}
use Rattle.std.proofs.Math.Nat.{sub-zero}
use Rattle.std.proofs.Math.ListN.{get_or-append}
use Rattle.lists.specs.Lists.{All, counted}
use Rattle.lists.specs.Counts.{counted_length, counted_last, counted_read}

-- a list with the same behind it, up to a length
pub full_length : {A : Type 0} (l : List A) (limit : ℕ) (none : A) → length l ≤ limit → length (l ++ replicate (limit - length l) none) ≡ limit
full_length l limit none few = omega (arith, length-append l (replicate (limit - length l) none), length-replicate (limit - length l) none)

-- what holds of one thing holds of it over and over
pub all_replicate : {A : Type 0} (Q : A → Type 0) (n : ℕ) (a : A) → Q a → All Q (replicate n a)
all_replicate Q zero a h = tt
all_replicate Q (suc n) a h = (h, all_replicate Q n a h)

-- an element is put at the first place behind those that were put
pub put_first : {A : Type 0} (found : List A) (n count : ℕ) (none x : A) → length found ≡ count → count < n →
    set (found ++ replicate (n - count) none) count x ≡ (found ++ (x ∷ [])) ++ replicate (n - (count + 1)) none
put_first found n count none x long inside =
    let one : n - count ≡ suc (n - (count + 1)) = omega arith in
    ap (λ k. set (found ++ replicate k none) count x) one ∙ set_at found none (replicate (n - (count + 1)) none) x count long ∙ rw append_assoc

module _ {A : Type 0} (limit : ℕ) (f : ℕ → A) where
  -- an array of a limit whose first places hold f of the place, and those behind them `none`
  abbrev pub filled_by : ℕ → A → List A
  filled_by top none = map f (counted 0 top) ++ replicate (limit - top) none

  pub filled_length : (top : ℕ) (none : A) → top ≤ limit → length (filled_by top none) ≡ limit
  filled_length top none h =
      length-append (map f (counted 0 top)) (replicate (limit - top) none)
      ∙ rw (length-map (counted 0 top) f, counted_length 0 top, length-replicate) (omega arith)

  pub filled_at : (top : ℕ) (none : A) (i : ℕ) (d : A) → i < top → get_or (filled_by top none) i d ≡ f i
  filled_at top none i d h =
      get_or-append (map f (counted 0 top)) (replicate (limit - top) none) d i (omega (arith, length-map (counted 0 top) f, counted_length 0 top))
      ∙ counted_read f top 0 i d h
      ∙ ap f (zero-add i)

  -- a loop that fills the array has come to place i: of the top places that are to be filled the first i hold f of the place
  pub record Filling (top : ℕ) (none : A) (i : ℕ) (l : List A) : Type 0 where
    pub within : i ≤ top
    pub room : top ≤ limit
    pub filled : l ≡ filled_by i none

module _ {A : Type 0} {limit : ℕ} {f : ℕ → A} {top : ℕ} {none : A} where
  pub filling_start : top ≤ limit → Filling limit f top none 0 (replicate limit none)
  filling_start h = record { within = omega arith; room = h; filled = rw sub-zero }

  module _ {i : ℕ} {l : List A} (s : Filling limit f top none i l) where
    pub filling_next : (x : A) → i < top → x ≡ f i → Filling limit f top none (i + 1) (set l i x)
    filling_next x h e =
        let long : length (map f (counted 0 i)) ≡ i = length-map (counted 0 i) f ∙ counted_length 0 i in
        let more : map f (counted 0 (i + 1)) ≡ map f (counted 0 i) ++ (f i ∷ []) =
        ap (map f) (ap (counted 0) (add-one i) ∙ counted_last 0 i ∙ ap (λ j. counted 0 i ++ (j ∷ [])) (zero-add i)) ∙ map-append f (counted 0 i) (i ∷ []) in
        record {
          within = omega arith;
          room = s.room;
          filled = rw (s.filled, more, e) (put_first (map f (counted 0 i)) limit i none (f i) long (omega arith));
        }

    -- after the loop it is filled
    pub filling_end : top ≤ i → l ≡ filled_by limit f top none
    filling_end h = let same : i ≡ top = omega arith in s.filled ∙ ap (λ n. filled_by limit f n none) same
