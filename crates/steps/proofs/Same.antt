-- Flat lists of actions that are the same get the same answer. Assumes nothing.
use Rattle.std.proofs.Common.{◌≡◌, refl, ap, false, List, [], ◌∷◌, ℕ, suc, length}
use Rattle.register.specs.declared.Register.{Register}
use Rattle.actions.specs.declared.Action.{Action}
use Rattle.gate_rules.specs.Plans.{SameActions}
use Rattle.gate_rules.specs.SameActions.{same_judgements, same_halt}
use Rattle.steps.specs.Judging.{halt_under, flat_judged}

length_same : (actions others : List Action) → SameActions actions others → length actions ≡ length others
length_same [] [] same = refl
length_same [] (b ∷ others) same = absurd same
length_same (a ∷ actions) [] same = absurd same
length_same (a ∷ actions) (b ∷ others) same = ap suc (length_same actions others same.1)

pub flat_same : (r : Register) (limit : ℕ) (actions others : List Action) → SameActions actions others → flat_judged limit r actions ≡ flat_judged limit r others
unfolding flat_judged halt_under
flat_same r limit actions others same =
    rw (same_judgements r false actions others same, same_halt r 0 actions others same, length_same actions others same)
