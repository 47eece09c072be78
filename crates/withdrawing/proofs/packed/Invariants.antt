-- `withdrawing::packed` meets its contract. The loop's invariant: the claims that stay, of those passed, are at the front, with the zero claim behind
-- them (Packing). Assumes nothing.
use Rattle.std.proofs.Common.{◌≡◌, ◌≤◌, length}
use Rattle.register.specs.Limits.{claim_limit}
use Rattle.withdrawing.proofs.Packing.{Packing}
use Rattle.withdrawing.proofs.packed.Given as goal

abbrev pub invariant-loop-i : goal.invariant-loop-i
invariant-loop-i l =
    (l.i ≤ l.i-end) × (l.i-end ≤ claim_limit) × (length l.list ≡ claim_limit) × Packing l.sheet l.gone l.list l.kept l.i
