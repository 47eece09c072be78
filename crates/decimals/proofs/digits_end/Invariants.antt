-- What follows the digits from `i` on is what follows those from `at` on.
use Rattle.std.proofs.Common.{◌≡◌, drop}
use Rattle.decimals.specs.Decimals.{after}
use Rattle.decimals.proofs.digits_end.Given as goal

abbrev pub invariant-loop-i : goal.invariant-loop-i
invariant-loop-i l = after (drop l.at l.s) ≡ after (drop l.i l.s)
