-- Laws: The answer to why of a call that is stopped and of one that is not, and the owner of a machine of the register. Assumes nothing.
use Rattle.std.specs.Prelude.{◌≡◌, Bool, true, ◌&&◌, ℕ, eqb, Err, Ok}
use Rattle.std.proofs.Math.Path.{ap}
use Rattle.std.proofs.Common.{◌∙◌}
use Rattle.lists.specs.Tests.{and_left, and_both}
use Rattle.register.specs.Limits.{machine_kind}
use Rattle.register.specs.Register.{actors_of}
use Rattle.register.specs.declared.Actor.{Actor}
use Rattle.register.specs.declared.Register.{Register}
use Rattle.soundness_rules.specs.Sound.{sound}
use Rattle.refusals.specs.Refusals.{outcome_of}
use Rattle.refusals.specs.declared.Refusal.{Refusal}
use Rattle.actions.specs.Actions.{one_use}
use Rattle.actions.specs.declared.Usage.{Usage}
use Rattle.gate_rules.specs.Gate.{gate_tests}
use Rattle.gate_rules.specs.Authority.{IsIn}
use Rattle.gate_rules.specs.Places.{place_any, first_found}
use Rattle.reasons.proofs.HoldersLaws.{only}
use Rattle.reasons.specs.Uses.{first_owner, machine_owner, why_use, why_on}

module _ (r : Register) (x : ℕ) (u : Usage) (moment : ℕ) where
  -- in a sound register, of the one machine a with the number x
  pub owner_same : sound r ≡ true → (a : Actor) → IsIn (actors_of r.actors) a → eqb x a.id ≡ true → eqb machine_kind a.kind ≡ true → machine_owner r x ≡ a.owner
  owner_same soundly a at named e =
      let named_machine : Actor → Bool = λ b. eqb x b.id && eqb machine_kind b.kind in
      let found = first_found named_machine (actors_of r.actors)
      (place_any named_machine (actors_of r.actors) a at (and_both (eqb x a.id) (eqb machine_kind a.kind) named e)) in
      ap first_owner found.1.alone
      ∙ ap (λ b. b.owner) (only r u moment x soundly a at named found.0 found.1.place
      (and_left (eqb x found.0.id) (eqb machine_kind found.0.kind) found.1.passes))

  pub why_accepted : outcome_of (gate_tests r (one_use x u moment)) ≡ Ok tt → why_use r x u moment ≡ why_on (Ok tt) r x u moment
  unfolding why_use
  why_accepted e = ap (λ o. why_on o r x u moment) e

  pub why_refused : (why : Refusal) → outcome_of (gate_tests r (one_use x u moment)) ≡ Err why → why_use r x u moment ≡ why_on (Err why) r x u moment
  unfolding why_use
  why_refused why e = ap (λ o. why_on o r x u moment) e
