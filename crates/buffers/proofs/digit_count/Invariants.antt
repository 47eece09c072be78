-- What was counted and the digits that are left come to the digits of the number.
use Rattle.std.proofs.Common.{◌≤◌, ◌+◌, ◌≡◌, length}
use Rattle.decimals.specs.Decimals.{digits}
use Rattle.buffers.proofs.digit_count.Given as goal

abbrev pub invariant-loop-m : goal.invariant-loop-m
invariant-loop-m l = (l.k + l.m ≤ l.n + 1) × (l.k + length (digits l.m) ≡ 1 + length (digits l.n))

abbrev pub decreases-loop-m : goal.decreases-loop-m
decreases-loop-m l = l.m
