-- The verdict on an action by its number of violations, case by case; and the start of the walk for the action that stops a plan. Assumes nothing.
use Rattle.std.specs.Prelude.{◌≡◌, List, ℕ, zero, suc, min, length}
use Rattle.std.proofs.Math.Path.{refl}
use Rattle.actions.specs.declared.Judgement.TheVariants.{Permitted as Agreed, Refused as Denied}
use Rattle.plans.specs.Judgements.{judged_as}
use Rattle.lists.specs.Loops.{start}
use Rattle.actions.specs.Actions.{action_limit}
use Rattle.actions.specs.declared.Plan.{Plan}
use Rattle.plans.specs.Stopping.{Stopping}

-- the verdict by the number of violations
pub agreed_counted : (n : ℕ) → n ≡ 0 → Agreed ≡ judged_as n
agreed_counted n e = rw e

pub denied_counted : (n : ℕ) → (n ≡ 0 → ⊥) → Denied n ≡ judged_as n
denied_counted zero some = absurd (some refl)
denied_counted (suc n) some = refl

-- none before the first action stops the plan
module _ {names : List ℕ} {n : ℕ} {p : Plan} {top : ℕ} where
  pub stopping_start : length p.actions ≡ action_limit → top ≡ min p.count action_limit → Stopping names n p top 0
  stopping_start long h = record { come = start (rw long h) refl }
