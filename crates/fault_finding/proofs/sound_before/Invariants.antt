-- With `low` claims the register is sound, and not with `high`, which are at most as many as came.
use Rattle.std.proofs.Common.{◌-◌, ◌≤◌}
use Rattle.fault_finding.specs.Asked.{Turning}
use Rattle.fault_finding.proofs.sound_before.Given as goal

abbrev pub invariant-loop-high : goal.invariant-loop-high
invariant-loop-high l = Turning l.version l.a l.o l.sheet l.low l.high × (l.high ≤ l.n)

abbrev pub decreases-loop-high : goal.decreases-loop-high
decreases-loop-high l = l.high - l.low
