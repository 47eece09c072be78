-- The array holds the first `i` bytes, with zeros behind them.
use Rattle.std.proofs.Common.{◌≡◌, ◌-◌, ◌++◌, take, drop, replicate}
use Rattle.json_rules.specs.Members.{id_length}
use Rattle.json_reading.proofs.id_of.Given as goal

abbrev pub invariant-loop-i : goal.invariant-loop-i
invariant-loop-i l = l.id ≡ take l.i (drop l.from l.s) ++ replicate (id_length - l.i) 0
