-- A loop that copies the n bytes of s into a buffer, from place `at` on. Assumes nothing.
use Rattle.std.proofs.Common.{◌≡◌, ap, ◌∙◌, List, ℕ, ◌+◌, ◌≤◌, ◌<◌, add-one, arith, length, get_or, set}
use lib.Seq.{paste, paste-zero, paste-suc, length-paste}

-- the first i of the n bytes of s stand in the buffer from place `at` on, and the rest is as it was
pub record Copying (old : List ℕ) (at : ℕ) (s : List ℕ) (n i : ℕ) (bytes : List ℕ) : Type 0 where
  pub within : i ≤ n
  pub long : length s ≡ n
  pub room : at + n ≤ length old
  pub copied : bytes ≡ paste old at s i

module _ {old : List ℕ} {at : ℕ} {s : List ℕ} {n : ℕ} where
  pub copying_start : length s ≡ n → at + n ≤ length old → Copying old at s n 0 old
  copying_start h k = record { within = omega arith; long = h; room = k; copied = paste-zero old at s }

  module _ {i : ℕ} {bytes : List ℕ} (c : Copying old at s n i bytes) where
    pub copying_length : length bytes ≡ length old
    copying_length = ap length c.copied ∙ length-paste old at s i (omega arith) (omega arith)

    pub copying_next : i < n → Copying old at s n (i + 1) (set bytes (at + i) (get_or s i 0))
    copying_next h =
        record {
          within = omega arith;
          long = c.long;
          room = c.room;
          copied = rw (add-one, c.copied) (paste-suc old at s i 0 (omega arith) (omega arith));
        }

    pub copying_done : n ≤ i → bytes ≡ paste old at s n
    copying_done h = let all : i ≡ n = omega arith in c.copied ∙ ap (paste old at s) all
