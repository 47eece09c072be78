-- Believed: What the theorems say of the answer for a plan text: how it is refused, the steps that an accepted text is of, and when it is the answer of the
-- flat plan call.
use Rattle.std.specs.Prelude.{ℕ, ◌≤◌, ◌<◌, ◌≡◌, List, ◌⊎◌, length, take}
use Rattle.refusals.specs.declared.Refusal.{Refusal}
use Rattle.refusals.specs.declared.Refusal.TheVariants.{Unsound, Absent, Form, Count, TooDeep, TooManyActions}
use Rattle.actions.specs.declared.Action.{Action}
use Rattle.actions.specs.declared.PlanVerdict.{PlanVerdict}
use Rattle.steps.specs.Steps.{Steps, actions_in, plan_text, PlanFits}
use Rattle.steps.specs.Judging.{plan_text_read, verdicts_in}
use Rattle.steps.specs.declared.PlanTextVerdict.{PlanTextVerdict}

-- the refusals that the lines of a plan text have: 19, 20, 22 and 23
abbrev pub OfText : Refusal → Type 0
OfText why = (why ≡ Form) ⊎ ((why ≡ Count) ⊎ ((why ≡ TooDeep) ⊎ (why ≡ TooManyActions)))

-- how a plan text is refused: by a line, by the register, or by an action; never with verdicts
pub data Refusing (why : Refusal) (v : PlanTextVerdict) (actions : List Action) : Type 0 where
  by_line : OfText why → 1 ≤ v.line → v.position ≡ 0 → v.count ≡ 0 → Refusing why v actions
  by_register : why ≡ Unsound → v.line ≡ 0 → v.position ≡ 0 → v.count ≡ 0 → Refusing why v actions
  by_action : why ≡ Absent → v.line ≡ 0 → v.position < length actions → v.count ≡ 0 → Refusing why v actions

-- the steps whose text a text is, and whose actions it gives
pub record PlanTextOf (t : List ℕ) : Type 0 where
  pub steps : Steps
  pub text : t ≡ plan_text steps
  pub fits : PlanFits steps
  pub actions : (plan_text_read t).actions ≡ actions_in steps

-- an answer that is the flat plan call's: outcome, position, count and the verdicts below the count
pub record AsPlanned (v : PlanTextVerdict) (w : PlanVerdict) : Type 0 where
  pub outcome : v.outcome ≡ w.outcome
  pub line : v.line ≡ 0
  pub position : v.position ≡ w.position
  pub count : v.count ≡ w.count
  pub verdicts : verdicts_in v ≡ take w.count w.list
