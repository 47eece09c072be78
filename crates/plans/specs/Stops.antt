-- Working: What stops a plan, as the code holds it, and by the ids of the actors that are lent. It is what stops it by the register (`halt_natural`).
use Rattle.std.specs.Prelude.{List, [], ◌∷◌, ℕ, suc, Err, Ok}
use Rattle.refusals.specs.Refusals.{outcome_of}
use Rattle.actions.specs.declared.Action.{Action}
use Rattle.gate_rules.specs.Plans.{Halt, runs, halts, halt_on}
use Rattle.gate.specs.Judged.{lent_tests}
use Rattle.plans.specs.declared.Stop.{Stop}

-- the refusal with its position; a plan that runs is accepted, with position 0
abbrev pub stop_of : Halt → Stop
stop_of runs = record { outcome = Ok tt; position = 0 }
stop_of (halts why n) = record { outcome = Err why; position = n }

-- the first action with 2 or 3 by the ids of the first n actors, by its position from i
unfoldable pub halt_by : List ℕ → ℕ → ℕ → List Action → Halt
halt_by names n i [] = runs
halt_by names n i (a ∷ actions) = halt_on (outcome_of (lent_tests names n a)) i (halt_by names n (suc i) actions)
