-- `attaching::print_at` meets its contract: below the count, and within the book, the entry at the place is told; from the count on there is none
-- (Placing). Assumes nothing.
use Rattle.std.proofs.Common.{sym, arith}
use Rattle.attaching.proofs.Placing.{print_within, print_past}
use Rattle.attaching.proofs.print_at.Goals as goal

pub returns-then-place-min : goal.returns-then-place-min
returns-then-place-min c = sym (print_within _ _ (omega (arith, c.if-place-min.true, c.min.ensures)))

pub returns : goal.returns
returns c = sym (print_past _ _ (omega (arith, c.if-place-min.false, c.min.ensures)))
