-- The definitions at a place of a path: what one byte more of a walk makes of them. Assumes nothing.
use Rattle.std.proofs.Common.{◌≡◌, refl, ap, ◌∙◌, true, false, ◌&&◌, ◌||◌, cond, List, [], ◌∷◌, ◌++◌, ℕ, suc, ◌+◌, ◌-◌, ◌≤◌, ◌<◌, arith, eqb, ltb, length, take, drop, get_or, replicate, drop_of_length-le, length-drop, take-suc}
use mathlib.Core.Bool.{and-false, or-false}
use Rattle.lists.specs.Tests.{cases}
use Rattle.lists.specs.Loops.{drop_next}
use Rattle.paths.specs.Containment.{slash, dot, climbing, trimmed, starting}
use Rattle.paths.specs.Trimming.{starting_length, trimmed_slash, trimmed_other}
use Rattle.paths.specs.Lent.{paired}
use Rattle.paths.proofs.Dots.{dots_end, dots_slash, dots_byte}

-- ---- climbing, from place i on with d dots before it
module _ (p : List ℕ) (d i : ℕ) (few : d ≤ 3) where
  pub climbing_end : length p ≤ i → climbing (replicate d dot ++ drop i p) ≡ eqb d 2
  climbing_end past = rw (drop_of_length-le p past) (dots_end d few)

  module _ (within : i < length p) where
    pub climbing_slash : get_or p i 0 ≡ slash → climbing (replicate d dot ++ drop i p) ≡ eqb d 2 || climbing (drop (i + 1) p)
    climbing_slash cut = rw (drop_next p i 0 within, cut) (dots_slash d (drop (i + 1) p) few)

    pub climbing_byte : (get_or p i 0 ≡ slash → ⊥) →
        climbing (replicate d dot ++ drop i p) ≡ climbing (replicate (cond (eqb (get_or p i 0) dot && ltb d 3) (d + 1) 3) dot ++ drop (i + 1) p)
    climbing_byte kept = rw (drop_next p i 0 within) (dots_byte d (get_or p i 0) (drop (i + 1) p) few kept)

-- ---- two dots next to each other, from the place before i on
-- one byte, or none, is no two dots
paired_few : (p : List ℕ) → length p ≤ 1 → paired p ≡ false
unfolding paired
paired_few [] few = refl
paired_few (b ∷ []) few = or-false (eqb b dot && false) ∙ and-false (eqb b dot)
paired_few (b ∷ c ∷ p) few = absurd (omega arith)

module _ (p : List ℕ) (i : ℕ) where
  pub paired_end : length p ≤ i → paired (drop (i - 1) p) ≡ false
  paired_end past = paired_few (drop (i - 1) p) (omega (arith, length-drop (i - 1) p))

  pub paired_next : 0 < i → i < length p →
      paired (drop (i - 1) p) ≡ (eqb (get_or p (i - 1) 0) dot && eqb (get_or p i 0) dot) || paired (drop ((i + 1) - 1) p)
  unfolding paired
  paired_next some within =
      let here : (i - 1) + 1 ≡ i = omega arith in
      let there : (i + 1) - 1 ≡ i = omega arith in
      rw (drop_next p (i - 1) 0 (omega arith), here, there, drop_next p i 0 within)

-- ---- starting, from place i on
module _ (o p : List ℕ) where
  -- a shorter path does not start with a longer one
  pub starting_short : length p < length o → starting o p ≡ false
  starting_short short = cases (starting o p) (λ e. absurd (omega (arith, starting_length o p e))) (λ e. e)

module _ (o p : List ℕ) (i : ℕ) where
  pub starting_end : length o ≤ i → starting (drop i o) (drop i p) ≡ true
  unfolding starting
  starting_end past = rw (drop_of_length-le o past)

  pub starting_next : i < length o → i < length p →
      starting (drop i o) (drop i p) ≡ eqb (get_or o i 0) (get_or p i 0) && starting (drop (i + 1) o) (drop (i + 1) p)
  unfolding starting
  starting_next in-o in_p = rw (drop_next o i 0 in-o, drop_next p i 0 in_p)

-- ---- trimming, of the first n bytes
module _ (p : List ℕ) (n : ℕ) (some : 0 < n) (within : n ≤ length p) where
  last : take n p ≡ take (n - 1) p ++ (get_or p (n - 1) 0 ∷ [])
  last =
      let one : n ≡ suc (n - 1) = omega arith in
      ap (λ (k : ℕ). take k p) one ∙ take-suc p (n - 1) 0 (omega arith)

  pub trimmed_last_slash : get_or p (n - 1) 0 ≡ slash → trimmed (take n p) ≡ trimmed (take (n - 1) p)
  trimmed_last_slash cut = rw (last, cut) (trimmed_slash (take (n - 1) p))

  pub trimmed_last_other : (get_or p (n - 1) 0 ≡ slash → ⊥) → trimmed (take n p) ≡ take n p
  trimmed_last_other other = rw last (trimmed_other (take (n - 1) p) (get_or p (n - 1) 0) other)

pub trimmed_none : (p : List ℕ) (n : ℕ) → n ≡ 0 → trimmed (take n p) ≡ take n p
unfolding trimmed
trimmed_none p n none = rw none
