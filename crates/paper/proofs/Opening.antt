-- A loop that opens the cells of the public resources, row by row. Assumes nothing.
use Rattle.std.proofs.Common.{◌≡◌, List, ℕ, ◌+◌, ◌*◌, ◌<◌, ◌≤◌, arith, length, replicate}
use lib.ListN.{length-replicate}
use Rattle.rights.specs.Rights.{right_count}
use Rattle.register.specs.Limits.{resource_limit}
use Rattle.register.specs.declared.Resources.{Resources}
use Rattle.lookup.specs.Laws.{behind_none}
use Rattle.paper.specs.Cells.{cell_limit, cell_at, resource_at, open_number}

-- the rows before `row` are open where their resources are public; those from it on have nothing
pub record Opening (k : Resources) (row : ℕ) (cells : List ℕ) : Type 0 where
  pub few : k.count ≤ resource_limit
  pub within : row ≤ k.count
  pub long : length cells ≡ cell_limit
  pub opened : (j b : ℕ) → j < row → b < right_count → cell_at cells j b ≡ open_number (resource_at k j) b
  pub ahead : (j b : ℕ) → row ≤ j → b < right_count → cell_at cells j b ≡ 0

pub opening_start : {k : Resources} → k.count ≤ resource_limit → Opening k 0 (replicate cell_limit 0)
opening_start few = record {
  few = few;
  within = omega arith;
  long = length-replicate {A = ℕ} cell_limit 0;
  opened = λ j b h k. absurd (omega (arith, h));
  ahead = λ j b h k. behind_none cell_limit (j * right_count + b) 0;
}
