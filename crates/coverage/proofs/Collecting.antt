-- A loop that puts the places that pass a test into an array, from the front, and counts them. Assumes nothing.
use Rattle.std.proofs.Common.{◌≡◌, sym, ap, ◌∙◌, Bool, true, false, List, [], ◌∷◌, ◌++◌, ℕ, ◌+◌, ◌-◌, ◌≤◌, ◌<◌, add-one, arith, length, set, replicate, length-append}
use native.Mathlib.Nat.{sub-zero}
use Rattle.lists.specs.Fills.{put_first}
use Rattle.lists.specs.Counts.{counted_last}
use Rattle.lists.specs.Filters.{filter_nil, filter_last, filter_past}
use Rattle.lists.specs.Lists.{counted, filter}

-- the places below i that pass the test
abbrev passed_below : (ℕ → Bool) → ℕ → List ℕ
passed_below p i = filter p (counted 0 i)

-- the loop has come to place i: the array of n holds the count places below i that pass the test, and 0 past them
pub record Collecting (p : ℕ → Bool) (n top i count : ℕ) (places : List ℕ) : Type 0 where
  pub within : i ≤ top
  pub fits : top ≤ n
  pub room : count ≤ i
  pub many : count ≡ length (passed_below p i)
  pub held : places ≡ passed_below p i ++ replicate (n - count) 0

next_place : (i : ℕ) → counted 0 (i + 1) ≡ counted 0 i ++ (i ∷ [])
next_place i = let here : 0 + i ≡ i = omega arith in rw (add-one, counted_last 0 i, here)

module _ {p : ℕ → Bool} {n top : ℕ} where
  pub collecting_start : {places : List ℕ} → top ≤ n → places ≡ replicate n 0 → Collecting p n top 0 0 places
  collecting_start h e =
      record { within = omega arith; fits = h; room = omega arith; many = rw (filter_nil p); held = rw (filter_nil p, sub-zero n) e }

  module _ {i count : ℕ} {places : List ℕ} (s : Collecting p n top i count places) where
    pub collecting_hit : i < top → p i ≡ true → Collecting p n top (i + 1) (count + 1) (set places count i)
    collecting_hit h e =
        let below : count < n = omega arith in
        let one_more : passed_below p (i + 1) ≡ passed_below p i ++ (i ∷ []) = ap (filter p) (next_place i) ∙ filter_last p (counted 0 i) i e in
        record {
          within = omega arith;
          fits = s.fits;
          room = omega arith;
          many = rw one_more (ap (λ m. m + 1) s.many ∙ sym (length-append (passed_below p i) (i ∷ [])));
          held = rw (one_more, s.held) (put_first (passed_below p i) n count 0 i (sym s.many) below);
        }

    pub collecting_miss : i < top → p i ≡ false → Collecting p n top (i + 1) count places
    collecting_miss h e =
        let same : passed_below p (i + 1) ≡ passed_below p i = ap (filter p) (next_place i) ∙ filter_past p (counted 0 i) i e in
        record { within = omega arith; fits = s.fits; room = omega arith; many = rw same s.many; held = rw same s.held }

    -- after the loop: all places below the top that pass the test
    pub collecting_count : top ≤ i → count ≡ length (passed_below p top)
    collecting_count h = let end : i ≡ top = omega arith in rw (← end) s.many

    pub collecting_places : top ≤ i → places ≡ passed_below p top ++ replicate (n - count) 0
    collecting_places h = let end : i ≡ top = omega arith in rw (← end) s.held
