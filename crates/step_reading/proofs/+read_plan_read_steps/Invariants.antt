-- The levels left and the text left, twice their sum, and one more for steps, fall at each call: a plan has a level less for its steps, and no reading
-- leaves more of the text than there was. The walk over the steps keeps what is found of those left (Walking).
use Rattle.std.proofs.Common.{◌+◌, ◌*◌}
use Rattle.lines.specs.Answers.{state_of}
use Rattle.steps.specs.Shrinking.{remaining}
use Rattle.step_reading.proofs.Walking.{Walking}
use Rattle.step_reading.proofs.+read_plan_read_steps.Given as goal

abbrev pub decreases-read_plan : goal.decreases-read_plan
decreases-read_plan l = 2 * (l.levels + remaining (state_of l.s.now l.p.cursor))

abbrev pub decreases-read_steps : goal.decreases-read_steps
decreases-read_steps l = 2 * (l.levels + remaining (state_of l.s.now l.p.cursor)) + 1

abbrev pub invariant-read_steps-loop-i : goal.invariant-read_steps-loop-i
invariant-read_steps-loop-i l = Walking l.s l.levels l.k l.initial.found l.found l.i
