-- The members read so far are kept, and the others follow them from `at` on. The measure is what is left of the text.
use Rattle.std.proofs.Common.{◌-◌, length}
use Rattle.json_reading.proofs.Turns.{Read}
use Rattle.json_reading.proofs.members.read_members.Given as goal

abbrev pub invariant-loop-member : goal.invariant-loop-member
invariant-loop-member l = Read l.s l.begun l.numbers l.draft.seen l.draft.figures l.draft.froms l.draft.lens l.at

abbrev pub decreases-loop-member : goal.decreases-loop-member
decreases-loop-member l = length l.s - l.at
