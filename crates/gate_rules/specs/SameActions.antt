-- Laws: Actions that are the same get the same violations, tests and verdicts, and stop a list at the same place. Assumes nothing.
use Rattle.std.specs.Prelude.{◌≡◌, Bool, ◌||◌, ℕ, suc, eqb, List, [], ◌∷◌}
use Rattle.std.proofs.Common.{◌∙◌}
use Rattle.std.proofs.Math.Path.{refl, ap}
use Rattle.std.proofs.Math.Bool.{not}
use Rattle.register.specs.declared.Register.{Register}
use Rattle.refusals.specs.Refusals.{outcome_of}
use Rattle.actions.specs.Actions.{SameAction, action_fits}
use Rattle.actions.specs.declared.Action.{Action}
use Rattle.gate_rules.specs.Gate.{violations_of, action_tests}
use Rattle.gate_rules.specs.Plans.{SameActions, judgements, halt_on, first_halt}

same_fits : (a b : Action) → SameAction a b → action_fits a ≡ action_fits b
unfolding action_fits
same_fits a b same = rw (same.uses, same.governs, same.actor, same.flags, same.now, same.used, same.governed)

module _ (r : Register) where
  pub same_violations : (a b : Action) → SameAction a b → violations_of r a ≡ violations_of r b
  unfolding violations_of
  same_violations a b same = rw (same.uses, same.governs, same.actor, same.flags, same.now)

  pub same_action_tests : (a b : Action) → SameAction a b → action_tests r a ≡ action_tests r b
  unfolding action_tests
  same_action_tests a b same = rw (same_fits a b same, same.actor)

  pub same_judgements : (cancelled : Bool) (actions others : List Action) → SameActions actions others
      → judgements r cancelled actions ≡ judgements r cancelled others
  unfolding judgements
  same_judgements cancelled [] [] same = refl
  same_judgements cancelled [] (b ∷ others) same = absurd same
  same_judgements cancelled (a ∷ actions) [] same = absurd same
  same_judgements cancelled (a ∷ actions) (b ∷ others) same =
      rw (same_violations a b same.0, same.0.flags, same_judgements (cancelled || not (eqb b.flags 0)) actions others same.1)

  pub same_halt : (n : ℕ) (actions others : List Action) → SameActions actions others → first_halt r n actions ≡ first_halt r n others
  unfolding first_halt
  same_halt n [] [] same = refl
  same_halt n [] (b ∷ others) same = absurd same
  same_halt n (a ∷ actions) [] same = absurd same
  same_halt n (a ∷ actions) (b ∷ others) same =
      ap (λ tests. halt_on (outcome_of tests) n (first_halt r (suc n) actions)) (same_action_tests a b same.0)
      ∙ ap (λ more. halt_on (outcome_of (action_tests r b)) n more) (same_halt (suc n) actions others same.1)
