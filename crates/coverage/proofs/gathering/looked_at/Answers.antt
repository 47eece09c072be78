-- `coverage::gathering::looked_at` meets its contract: the least of the lengths. Assumes nothing.
use Rattle.std.proofs.Common.{arith}
use Rattle.coverage.specs.Gathering.{looked_at}
use Rattle.coverage.proofs.gathering.looked_at.Goals as goal

pub returns : goal.returns
unfolding looked_at
returns c = omega arith
