-- A loop that enters a claim in the cells of one row, right by right. Assumes nothing.
use Rattle.std.proofs.Common.{◌≡◌, List, ℕ, ◌+◌, ◌*◌, ◌<◌, ◌≤◌, arith, length}
use Rattle.rights.specs.Rights.{right_count, has_right}
use Rattle.register.specs.Limits.{resource_limit}
use Rattle.paper.specs.Cells.{cell_limit, cell_at, first_number, number_after}

-- the claim is entered at the rights before i; `first` is the first number of its length, `mine` its own
pub record Entering (before : List ℕ) (row rights place far first mine i : ℕ) (after : List ℕ) : Type 0 where
  pub least : first ≡ first_number far
  pub own : mine ≡ first_number far + place
  pub room : length before ≡ cell_limit
  pub inside : row < resource_limit
  pub within : i ≤ right_count
  pub long : length after ≡ length before
  pub done : (b : ℕ) → b < i → cell_at after row b ≡ number_after (has_right rights b) far place (cell_at before row b)
  pub ahead : (b : ℕ) → i ≤ b → b < right_count → cell_at after row b ≡ cell_at before row b
  pub elsewhere : (other b : ℕ) → b < right_count → (other ≡ row → ⊥) → cell_at after other b ≡ cell_at before other b

module _ {before : List ℕ} {row rights place far first mine : ℕ} where
  module _ {i : ℕ} {after : List ℕ} (s : Entering before row rights place far first mine i after) where
    module _ (h : i < right_count) where
      pub entering_room : row * right_count + i < length after
      entering_room = omega (arith, h, s.inside, s.long, s.room)
