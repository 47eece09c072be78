-- Registers that look alike to the actor of every action of a plan get one answer of the plan. Assumes nothing.
use Rattle.std.proofs.Common.{◌≡◌, refl, ap, ◌∙◌, Bool, true, false, not, ◌||◌, List, [], ◌∷◌, ℕ, suc, eqb}
use Rattle.lists.specs.Lists.{All}
use Rattle.register.specs.declared.Register.{Register}
use Rattle.soundness_rules.specs.Sound.{sound}
use Rattle.refusals.specs.Refusals.{outcome_of}
use Rattle.actions.specs.declared.Action.{Action}
use Rattle.actions.specs.declared.Plan.{Plan}
use Rattle.gate_rules.specs.Gate.{action_tests}
use Rattle.gate_rules.specs.Plans.{actions_of, judgements, Halt, runs, halts, halt_on, first_halt, halt_of, held, plan_verdict, planned}
use Rattle.guesses.specs.Alike.{LooksAlike}
use Rattle.guesses.proofs.Blind.{violations_blind, action_tests_blind}

module _ (r s : Register) where
  judgements_blind : (cancelled : Bool) (actions : List Action) → All (λ a. LooksAlike r s a) actions → judgements r cancelled actions ≡ judgements s cancelled actions
  unfolding judgements
  judgements_blind cancelled [] alike = refl
  judgements_blind cancelled (a ∷ actions) alike =
      rw (violations_blind r s a alike.0, judgements_blind (cancelled || not (eqb a.flags 0)) actions alike.1)

  first_halt_blind : (n : ℕ) (actions : List Action) → All (λ a. LooksAlike r s a) actions → first_halt r n actions ≡ first_halt s n actions
  unfolding first_halt
  first_halt_blind n [] alike = refl
  first_halt_blind n (a ∷ actions) alike =
      ap (λ tests. halt_on (outcome_of tests) n (first_halt r (suc n) actions)) (action_tests_blind r s a alike.0)
      ∙ ap (λ more. halt_on (outcome_of (action_tests s a)) n more) (first_halt_blind (suc n) actions alike.1)

  module _ (first_sound : sound r ≡ true) (second_sound : sound s ≡ true) (p : Plan) (alike : All (λ a. LooksAlike r s a) (actions_of p)) where
    halt_blind : halt_of r p ≡ halt_of s p
    unfolding halt_of
    halt_blind = rw (first_sound, second_sound, first_halt_blind 0 (actions_of p) alike)

    plan_verdict_blind : (h : Halt) → plan_verdict h r p ≡ plan_verdict h s p
    plan_verdict_blind runs = ap held (judgements_blind false (actions_of p) alike)
    plan_verdict_blind (halts why n) = refl

    pub plan_blind : planned r p ≡ planned s p
    unfolding planned
    plan_blind = ap (λ h. plan_verdict h r p) halt_blind ∙ plan_verdict_blind (halt_of s p)
