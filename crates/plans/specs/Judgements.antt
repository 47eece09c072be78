-- Working: The verdicts on the actions of a plan, by what is lent to each. They are those of the register (`judgements_natural`).
use Rattle.std.specs.Prelude.{Bool, not, ◌||◌, cond, List, [], ◌∷◌, ℕ, zero, suc, eqb}
use Rattle.actions.specs.declared.Action.{Action}
use Rattle.actions.specs.declared.Judgement.{Judgement}
use Rattle.actions.specs.declared.Judgement.TheVariants.{Permitted, Refused, Cancelled}
use Rattle.gate.specs.Judged.{Lent, lent_judged}

-- the verdict by the number of violations
abbrev pub judged_as : ℕ → Judgement
judged_as zero = Permitted
judged_as (suc n) = Refused (suc n)

-- the verdicts in order: every action after the first with a flag set is cancelled
unfoldable pub judgements_by : Lent → Bool → List Action → List Judgement
judgements_by l cancelled [] = []
judgements_by l cancelled (a ∷ actions) =
    cond cancelled Cancelled (judged_as (lent_judged l a).violations.count) ∷ judgements_by l (cancelled || not (eqb a.flags 0)) actions
