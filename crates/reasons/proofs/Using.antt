-- The answer to why a use may be made tells of permission what the gate decides. Assumes nothing.
use Rattle.std.proofs.Common.{◌≡◌, refl, sym, ◌∙◌, true, false, ◌&&◌, ◌||◌, not, cond, ℕ, eqb-true, eqb}
use Rattle.lists.specs.Tests.{cases, clash, and_both}
use Rattle.register.specs.Limits.{machine_kind}
use Rattle.register.specs.Register.{actors_of}
use Rattle.register.specs.declared.Actor.{Actor}
use Rattle.register.specs.declared.Register.{Register}
use Rattle.soundness_rules.specs.Sound.{is_machine, sound}
use Rattle.refusals.specs.Refusals.{outcome_of}
use Rattle.refusals.proofs.Laws.{outcome_cases}
use Rattle.actions.specs.Actions.{one_use}
use Rattle.actions.specs.declared.Usage.{Usage}
use Rattle.actions.specs.declared.Decision.TheVariants.{Permitted}
use Rattle.gate_rules.specs.Gate.{gate_tests, gated}
use Rattle.gate_rules.specs.Authority.{IsIn}
use Rattle.gate_rules.specs.Places.{any_place, place_any}
use Rattle.gate_rules.proofs.Laws.{permitted_out, gate_tests_in, gate_tests_out}
use Rattle.reasons.specs.Reasons.{Reason, relying, publicly, not_live, lacking, unheld, reason_of, is_covering, telling, telling_none}
use Rattle.reasons.specs.Holders.{may_use}
use Rattle.reasons.specs.Uses.{machine_owner, why_use, covering_kind, tells_permitted}
use Rattle.reasons.proofs.UsesLaws.{owner_same, why_accepted, why_refused}
use Rattle.reasons.proofs.HoldersLaws.{none_but, may_reasons, may_passed, permitted_may}

kind_covering : (r : Register) (moment : ℕ) (w : Reason) → covering_kind (telling r moment w) ≡ is_covering w
kind_covering r moment (relying c) = refl
kind_covering r moment publicly = refl
kind_covering r moment (not_live c) = refl
kind_covering r moment (lacking c) = refl
kind_covering r moment unheld = refl

module _ (r : Register) (x : ℕ) (u : Usage) (moment : ℕ) where
  owner_covering : (o : ℕ) → covering_kind (cond (eqb o 0) (telling_none 0) (telling r moment (reason_of r moment o u))) ≡ not (eqb o 0) && is_covering (reason_of r moment o u)
  owner_covering o = cases (eqb o 0) (λ e. rw e) (λ e. rw e (kind_covering r moment (reason_of r moment o u)))

  -- in a sound register, of the one actor a with the number x
  module _ (soundly : sound r ≡ true) (a : Actor) (at : IsIn (actors_of r.actors) a) (named : eqb x a.id ≡ true) where
    machine_same : is_machine (actors_of r.actors) x ≡ eqb machine_kind a.kind
    machine_same =
        cases (eqb machine_kind a.kind)
        (λ e. place_any (λ b. eqb x b.id && eqb machine_kind b.kind) (actors_of r.actors) a at (and_both (eqb x a.id) (eqb machine_kind a.kind) named e) ∙ sym e)
        (λ e. none_but r u moment x soundly a at named (λ b. eqb machine_kind b.kind) e ∙ sym e)

    -- what is told is what the actor may
    told_may : covering_kind (telling r moment (reason_of r moment x u)) && (not (is_machine (actors_of r.actors) x)
        || covering_kind (cond (eqb (machine_owner r x) 0) (telling_none 0) (telling r moment (reason_of r moment (machine_owner r x) u)))) ≡ may_use r moment u a
    told_may =
        rw (kind_covering r moment (reason_of r moment x u), machine_same, may_reasons r u moment a, ← eqb-true x a.id named)
        (cases (eqb machine_kind a.kind) (λ e. rw (e, owner_same r x u moment soundly a at named e, owner_covering a.owner)) (λ e. rw e))

  -- what is told permits exactly where the gate does
  pub told_permitted : tells_permitted (is_machine (actors_of r.actors) x) (why_use r x u moment) ≡ true → (gated r (one_use x u moment)).decision ≡ Permitted
  told_permitted h =
      outcome_cases (outcome_of (gate_tests r (one_use x u moment)))
      (λ e. let passed = gate_tests_out r (one_use x u moment) e in
      let found = any_place (λ b. eqb x b.id) (actors_of r.actors) passed.known in
      may_passed r u moment x passed found.0 found.1 found.2
      (sym (told_may passed.soundly found.0 found.1 found.2) ∙ (rw (why_accepted r x u moment e) at h)))
      (λ why e. clash false (rw (why_refused r x u moment why e) at h) refl)

  pub permitted_told : (gated r (one_use x u moment)).decision ≡ Permitted → tells_permitted (is_machine (actors_of r.actors) x) (why_use r x u moment) ≡ true
  permitted_told h =
      let passed = (permitted_out r (one_use x u moment) h).passed in
      let found = any_place (λ b. eqb x b.id) (actors_of r.actors) passed.known in
      rw (why_accepted r x u moment (gate_tests_in r (one_use x u moment) passed))
      (told_may passed.soundly found.0 found.1 found.2 ∙ permitted_may r u moment x h found.0 found.1 found.2)
