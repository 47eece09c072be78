-- Believed: A plan text that is open: at each level a count and the steps so far, down to the innermost plan. The theorems of 22 and 23 speak of what
-- follows it.
use Rattle.std.specs.Prelude.{ℕ, zero, suc, ◌+◌, ◌≤◌, ◌<◌, ◌≡◌, true, List, ◌++◌, length}
use Rattle.lists.specs.Lists.{All}
use Rattle.actions.specs.Actions.{action_fits}
use Rattle.actions.specs.declared.Action.{Action}
use Rattle.lines.specs.Lines.{plan_step_line}
use Rattle.lines.specs.Reading.{form_line}
use Rattle.text_rules.specs.Actions.{ShapedAction}
use Rattle.steps.specs.Steps.{Steps, no_step, action_then, plan_then, actions_in, step_count, Nested, step_limit, plan_form, steps_text}

-- how many lines an action has, and steps have
abbrev pub action_line_count : Action → ℕ
action_line_count a = 3 + ((1 + (a.used + a.used)) + (1 + a.governed))

unfoldable pub step_line_count : Steps → ℕ
step_line_count no_step = 0
step_line_count (action_then a s) = 1 + (action_line_count a + step_line_count s)
step_line_count (plan_then p s) = 1 + ((1 + step_line_count p) + step_line_count s)

-- a plan text that is open: a count and the steps read so far, at each level down to the innermost open plan
pub data Open : Type 0 where
  inner : ℕ → Steps → Open
  outer : ℕ → Steps → Open → Open

-- its text, with what follows; its lines; its actions; and the levels left in the innermost plan
abbrev pub open_text : Open → List ℕ → List ℕ
open_text (inner k s) t = form_line plan_form k ++ (steps_text s ++ t)
open_text (outer k s o) t = form_line plan_form k ++ (steps_text s ++ (plan_step_line ++ open_text o t))

abbrev pub open_lines : Open → ℕ
open_lines (inner k s) = 1 + step_line_count s
open_lines (outer k s o) = 1 + step_line_count s + 1 + open_lines o

abbrev pub open_actions : Open → ℕ
open_actions (inner k s) = length (actions_in s)
open_actions (outer k s o) = length (actions_in s) + open_actions o

abbrev pub bottom : ℕ → Open → ℕ
bottom n (inner k s) = n
bottom zero (outer k s o) = 0
bottom (suc n) (outer k s o) = bottom n o

-- each count is at most 64 and above the steps so far, which are within their levels, with actions in their ranges
abbrev pub OpenFits : ℕ → Open → Type 0
OpenFits n (inner k s) = (k ≤ step_limit) × (step_count s < k) × Nested n s × All (λ a. action_fits a ≡ true) (actions_in s) × All ShapedAction (actions_in s)
OpenFits zero (outer k s o) = ⊥
OpenFits (suc n) (outer k s o) =
    (k ≤ step_limit) × (step_count s < k) × Nested (suc n) s × All (λ a. action_fits a ≡ true) (actions_in s) × All ShapedAction (actions_in s) × OpenFits n o
