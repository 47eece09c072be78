-- The invariant of the loop of `soundness::ranges::expiries_fit`: whether all expiries so far are moments is told (Asking).
use Rattle.std.proofs.Common.{true}
use Rattle.soundness.specs.Judged.{expiry_fits}
use Rattle.soundness.proofs.Asking.{Asked}
use Rattle.soundness.proofs.ranges.expiries_fit.Given as goal

abbrev pub invariant-loop-i : goal.invariant-loop-i
invariant-loop-i l = Asked true (expiry_fits l.expiries l.late) l.n l.i l.fit
