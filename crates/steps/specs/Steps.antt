-- Believed: The steps of a plan: actions, and whole plans among them. Their actions in reading order, and their text.
use Rattle.std.specs.Prelude.{ℕ, zero, suc, ◌-◌, ◌≤◌, ◌≡◌, true, List, [], ◌∷◌, ◌++◌, length}
use Rattle.lists.specs.Lists.{All}
use Rattle.lists.specs.Bytes.{bytes}
use Rattle.actions.specs.Actions.{SameAction, action_fits}
use Rattle.actions.specs.declared.Action.{Action}
use Rattle.lines.specs.Lines.{action_step_line, plan_step_line}
use Rattle.lines.specs.Reading.{LineForm, count, form_line}
use Rattle.text_rules.specs.Actions.{action_text, ShapedAction}

-- levels, the outermost being 1; steps of one plan; actions in all
abbrev pub level_limit : ℕ
level_limit = 8

abbrev pub step_limit : ℕ
step_limit = 64

abbrev pub text_action_limit : ℕ
text_action_limit = 64

-- the steps of a plan, in order: none, an action and what follows it, a sub-plan of steps and what follows it
pub data Steps : Type 0 where
  no_step : Steps
  action_then : Action → Steps → Steps
  plan_then : Steps → Steps → Steps

-- the actions of steps, in reading order
unfoldable pub actions_in : Steps → List Action
actions_in no_step = []
actions_in (action_then a s) = a ∷ actions_in s
actions_in (plan_then p s) = actions_in p ++ actions_in s

-- how many steps a plan has
unfoldable pub step_count : Steps → ℕ
step_count no_step = 0
step_count (action_then a s) = suc (step_count s)
step_count (plan_then p s) = suc (step_count s)

-- steps under which plans go no deeper than so many levels, none of these plans having more than 64 steps
abbrev pub Nested : ℕ → Steps → Type 0
Nested n no_step = Unit {0}
Nested n (action_then a s) = Nested n s
Nested zero (plan_then p s) = ⊥
Nested (suc n) (plan_then p s) = (step_count p ≤ step_limit) × Nested n p × Nested (suc n) s

-- a plan begins with the count of its steps
abbrev pub plan_key : List ℕ
plan_key = bytes "plan="

abbrev pub plan_form : LineForm
plan_form = count plan_key step_limit

-- the text of steps, and of a plan of them
unfoldable pub steps_text : Steps → List ℕ
steps_text no_step = []
steps_text (action_then a s) = action_step_line ++ (action_text a ++ steps_text s)
steps_text (plan_then p s) = plan_step_line ++ (form_line plan_form (step_count p) ++ (steps_text p ++ steps_text s))

abbrev pub plan_text : Steps → List ℕ
plan_text s = form_line plan_form (step_count s) ++ steps_text s

-- Steps of one shape, with the same actions one by one.
abbrev pub SameSteps : Steps → Steps → Type 0
SameSteps no_step no_step = Unit {0}
SameSteps no_step (action_then b q) = ⊥
SameSteps no_step (plan_then p q) = ⊥
SameSteps (action_then a s) no_step = ⊥
SameSteps (action_then a s) (action_then b q) = SameAction a b × SameSteps s q
SameSteps (action_then a s) (plan_then p q) = ⊥
SameSteps (plan_then o s) no_step = ⊥
SameSteps (plan_then o s) (action_then b q) = ⊥
SameSteps (plan_then o s) (plan_then p q) = SameSteps o p × SameSteps s q

-- Steps that a plan text may hold: 8 levels, the outermost being 1, 64 steps to a plan, 64 actions, each in its ranges. Every action of the program is
-- shaped by its type.
pub record PlanFits (s : Steps) : Type 0 where
  pub size : step_count s ≤ step_limit
  pub nested : Nested (level_limit - 1) s
  pub few : length (actions_in s) ≤ text_action_limit
  pub fine : All (λ a. action_fits a ≡ true) (actions_in s)
  pub shaped : All ShapedAction (actions_in s)
