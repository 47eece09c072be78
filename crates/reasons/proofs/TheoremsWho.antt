-- What is proved of who may make a use, and of the answer to why one actor may. Assumes nothing.
use Rattle.std.proofs.Common.{Err, ◌≡◌, true, false, not, ◌&&◌, ◌||◌, [], ℕ, ◌≤◌, eqb, length}
use Rattle.lists.specs.Lists.{any}
use Rattle.register.specs.Limits.{actor_limit, machine_kind}
use Rattle.register.specs.Register.{actors_of, resources_of}
use Rattle.register.specs.declared.Actor.{Actor}
use Rattle.register.specs.declared.Register.{Register}
use Rattle.soundness_rules.specs.Sound.{is_machine}
use Rattle.refusals.specs.Refusals.{outcome_of}
use Rattle.refusals.specs.declared.Refusal.{Refusal}
use Rattle.actions.specs.Actions.{one_use}
use Rattle.actions.specs.declared.Usage.{Usage}
use Rattle.actions.specs.declared.Decision.TheVariants.{Permitted}
use Rattle.gate_rules.specs.Gate.{gate_tests, gated}
use Rattle.reasons.specs.Reasons.{reason_of, is_covering}
use Rattle.reasons.specs.Holders.{may_use, who_may}
use Rattle.reasons.specs.Uses.{why_use, why_on, tells_permitted}
use Rattle.reasons.proofs.UsesLaws as uses
use Rattle.reasons.proofs.Using as answering
use Rattle.reasons.proofs.HoldersLaws as holding

-- 9a. A number is listed exactly where the action of that actor with the one use is permitted: whatever the register, the use, the moment and the number.
pub who_exact : (r : Register) (u : Usage) (moment x : ℕ) → (any (eqb x) (who_may r u moment) ≡ true → (gated r (one_use x u moment)).decision ≡ Permitted)
    × ((gated r (one_use x u moment)).decision ≡ Permitted → any (eqb x) (who_may r u moment) ≡ true)
who_exact r u moment x = (holding.listed_permitted r u moment x, holding.permitted_listed r u moment x)

-- 9b. An actor is listed by its reason and, of a machine, by that of its owner.
pub may_reasons : (r : Register) (u : Usage) (moment : ℕ) (a : Actor) → may_use r moment u a ≡ is_covering (reason_of r moment a.id u)
    && (not (eqb machine_kind a.kind) || (not (eqb a.owner 0) && is_covering (reason_of r moment a.owner u)))
may_reasons = holding.may_reasons

-- 9c. At most 64 are listed.
pub who_most : (r : Register) (u : Usage) (moment : ℕ) → length (who_may r u moment) ≤ actor_limit
who_most = holding.who_most

-- 9d. None is listed for a resource that does not stand.
pub who_absent : (r : Register) (u : Usage) (moment : ℕ) → any (λ o. eqb u.resource o.id) (resources_of r.resources) ≡ false → who_may r u moment ≡ []
who_absent = holding.who_absent

-- 10a. The answer to why of a call that the gate stops has its refusal, and zeros.
pub why_refused : (r : Register) (x : ℕ) (u : Usage) (moment : ℕ) (why : Refusal) → outcome_of (gate_tests r (one_use x u moment)) ≡ Err why
    → why_use r x u moment ≡ why_on (Err why) r x u moment
why_refused = uses.why_refused

-- 10b. What is told permits exactly where the gate permits the action with the one use: whatever the register, the actor, the use and the moment.
pub why_exact : (r : Register) (x : ℕ) (u : Usage) (moment : ℕ)
    → (tells_permitted (is_machine (actors_of r.actors) x) (why_use r x u moment) ≡ true → (gated r (one_use x u moment)).decision ≡ Permitted)
    × ((gated r (one_use x u moment)).decision ≡ Permitted → tells_permitted (is_machine (actors_of r.actors) x) (why_use r x u moment) ≡ true)
why_exact r x u moment = (answering.told_permitted r x u moment, answering.permitted_told r x u moment)
