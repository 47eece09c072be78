-- Two lists of numbers compared from the front, place by place. Assumes nothing.
use Rattle.std.proofs.Common.{◌≡◌, true, false, List, ℕ, ◌+◌, ◌≤◌, ◌<◌, length, get_or, drop, ap, eq-eqb, ne_eqb}
use Rattle.std.proofs.Math.ListN.{drop_of_length-le}
use Rattle.lists.specs.Tests.{cases}
use Rattle.lists.specs.Loops.{drop_next}
use Rattle.lists.specs.Lists.{same}
use Rattle.lists.specs.Same.{same_sound}

-- lists of different lengths are not the same
pub same_lengths : (p q : List ℕ) → (length p ≡ length q → ⊥) → same p q ≡ false
same_lengths p q h = cases (same p q) (λ e. absurd (h (ap length (same_sound p q e)))) (λ e. e)

module _ (a b : List ℕ) (i : ℕ) where
  pub same_next : i < length a → i < length b → get_or a i 0 ≡ get_or b i 0 → same (drop i a) (drop i b) ≡ same (drop (i + 1) a) (drop (i + 1) b)
  unfolding same
  same_next h k e = rw (drop_next a i 0 h, drop_next b i 0 k, eq-eqb _ _ e)

  pub same_other : i < length a → i < length b → (get_or a i 0 ≡ get_or b i 0 → ⊥) → same (drop i a) (drop i b) ≡ false
  unfolding same
  same_other h k e = rw (drop_next a i 0 h, drop_next b i 0 k, ne_eqb _ _ e)

  pub same_done : length a ≤ i → length b ≤ i → same (drop i a) (drop i b) ≡ true
  unfolding same
  same_done h k = rw (drop_of_length-le a h, drop_of_length-le b k)
