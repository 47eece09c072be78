-- The digits from `i` on, behind the number so far, are worth what those from `at` on are, and the number so far is not above the limit.
use Rattle.std.proofs.Common.{◌≡◌, ◌≤◌, drop}
use Rattle.decimals.specs.Decimals.{digit_run, after, value}
use Rattle.decimals.proofs.scan.Given as goal

abbrev pub invariant-loop-i : goal.invariant-loop-i
invariant-loop-i l =
    (l.n ≤ l.greatest) × (value 0 (digit_run (drop l.at l.s)) ≡ value l.n (digit_run (drop l.i l.s))) × (after (drop l.at l.s) ≡ after (drop l.i l.s))
