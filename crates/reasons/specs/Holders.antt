-- Believed: Who may make a use at a moment: in register order, those for whom the action with this one use is permitted.
use Rattle.refusals.specs.declared.Refusal.{Refusal}
use Rattle.std.specs.Prelude.{Bool, not, ◌&&◌, ◌||◌, cond, List, [], ◌∷◌, ◌++◌, map, ℕ, ◌-◌, eqb, leb, ltb, length, replicate, Result}
use Rattle.lists.specs.Lists.{filter}
use Rattle.rights.specs.Rights.{is_right}
use Rattle.register.specs.Limits.{id_limit, moment_end, machine_kind, actor_limit}
use Rattle.register.specs.Register.{actors_of}
use Rattle.register.specs.declared.Actor.{Actor}
use Rattle.register.specs.declared.Register.{Register}
use Rattle.soundness_rules.specs.Sound.{sound}
use Rattle.refusals.specs.Refusals.{Test, outcome_of, is_accepted}
use Rattle.refusals.specs.declared.Refusal.TheVariants.{Unsound, Range}
use Rattle.actions.specs.declared.Usage.{Usage}
use Rattle.gate_rules.specs.Gate.{covers}
use Rattle.reasons.specs.declared.Holders.{Holders}

-- whether the numbers of a use and a moment are in range
abbrev pub ask_fits : Usage → ℕ → Bool
ask_fits u moment = (leb u.resource id_limit && is_right u.right) && ltb moment moment_end

-- the tests of the call: 1, and 2 for the use and the moment
unfoldable pub who_tests : Register → Usage → ℕ → List Test
who_tests r u moment = record { passed = sound r; refusal = Unsound } ∷ record { passed = ask_fits u moment; refusal = Range } ∷ []

-- an actor covers the use and, where it is a machine, has an owner who covers it too
unfoldable pub may_use : Register → ℕ → Usage → Actor → Bool
may_use r moment u a =
    covers r moment a.id u && (not (eqb machine_kind a.kind) || (not (eqb a.owner 0) && covers r moment a.owner u))

-- their ids, in register order; none where the call is refused
unfoldable pub who_may : Register → Usage → ℕ → List ℕ
who_may r u moment =
    cond (is_accepted (outcome_of (who_tests r u moment))) (map (λ a. a.id) (filter (may_use r moment u) (actors_of r.actors))) []

-- the answer: the outcome, the ids with their number, and zeros past them
abbrev pub holders_of : Result Unit Refusal → List ℕ → Holders
holders_of o ids = record { outcome = o; ids = ids ++ replicate (actor_limit - length ids) 0; count = length ids }

unfoldable pub who_held : Register → Usage → ℕ → Holders
who_held r u moment = holders_of (outcome_of (who_tests r u moment)) (who_may r u moment)
