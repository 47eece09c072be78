-- The array is filled from the front, one entry read in each turn.
use Rattle.actions.specs.Actions.{govern_limit}
use Rattle.lines.specs.Answers.{state_of}
use Rattle.text_rules.specs.Actions.{read_govern}
use Rattle.register_reading.specs.Filling.{Listing}
use Rattle.action_reading.proofs.read_governs.Given as goal

abbrev pub invariant-loop-i : goal.invariant-loop-i
invariant-loop-i l = Listing l.s read_govern govern_limit 0 (state_of l.s l.initial.cursor) l.governed l.governs l.cursor l.i
