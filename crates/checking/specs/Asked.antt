-- Working: The tests of the check by what the gate decides of the one use. It is shaped for the code; what it is in 02's words is `asked_natural` of
-- proofs/Asking.
use Rattle.refusals.specs.declared.Refusal.{Refusal}
use Rattle.std.specs.Prelude.{Bool, cond, eqb, Result, Err, Ok}
use Rattle.refusals.specs.Refusals.{number_of}
use Rattle.refusals.specs.declared.Refusal.TheVariants.{Unsound, Range, Absent}
use Rattle.actions.specs.declared.Decision.{Decision}
use Rattle.actions.specs.declared.Decision.TheVariants.{Permitted, Refused, Stopped}

-- the gate's 1 is theirs, then comes 2, and what the gate still stops is 3
abbrev pub asked_by : Decision → Bool → Result Unit Refusal
asked_by Permitted inside = cond inside (Ok tt) (Err Range)
asked_by Refused inside = cond inside (Ok tt) (Err Range)
asked_by (Stopped why) inside = cond (eqb (number_of why) 1) (Err Unsound) (cond inside (Err Absent) (Err Range))
