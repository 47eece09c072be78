-- The array is filled from the front, one use read in each turn.
use Rattle.actions.specs.Actions.{no_use, use_limit}
use Rattle.lines.specs.Answers.{state_of}
use Rattle.text_rules.specs.Actions.{read_use}
use Rattle.register_reading.specs.Filling.{Listing}
use Rattle.action_reading.proofs.read_uses.Given as goal

abbrev pub invariant-loop-i : goal.invariant-loop-i
invariant-loop-i l = Listing l.s read_use use_limit no_use (state_of l.s l.initial.cursor) l.used l.uses l.cursor l.i
