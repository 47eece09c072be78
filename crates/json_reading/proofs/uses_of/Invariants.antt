-- The array holds the first `i` uses, with zeros behind them.
use Rattle.std.proofs.Common.{◌-◌, ◌≤◌, ◌≡◌, ◌++◌, take, replicate}
use Rattle.actions.specs.Actions.{no_use, use_limit}
use Rattle.json_reading.specs.Answers.{uses_taken}
use Rattle.json_reading.proofs.uses_of.Given as goal

abbrev pub invariant-loop-i : goal.invariant-loop-i
invariant-loop-i l =
    (l.i ≤ l.used) × (l.uses ≡ take l.i (uses_taken l.numbers l.reads l.writes l.executes) ++ replicate (use_limit - l.i) no_use)
