-- `lending::number_at` meets its contract: the least byte of a number stands first. Assumes nothing.
use Rattle.std.proofs.Common.{arith}
use Rattle.register_bytes.specs.Laws.{number_bytes}
use Rattle.lending.proofs.number_at.Goals as goal

pub returns : goal.returns
returns c = omega (arith, c.from_le_bytes.ensures, number_bytes c.args.at c.args.bytes.now)
