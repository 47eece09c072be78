-- The invariant of the loop of `columns::hop_count`: the steps up are told from those made, at most as many as the limit, and the chain still above
-- (Walking).
use Rattle.columns.specs.Columns.{places_up, steps_up}
use Rattle.columns.proofs.Walking.{Climbing}
use Rattle.columns.proofs.hop_count.Given as goal

abbrev pub invariant-loop-steps : goal.invariant-loop-steps
invariant-loop-steps l = Climbing l.ups l.steps l.at l.up (steps_up (places_up l.ups l.from))
