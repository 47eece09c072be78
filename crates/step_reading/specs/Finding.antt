-- Working: What the code's answers say of a plan text: how a step opens, and where the actions that were read begin. Of a whole text it is what `plan_of`
-- gives (`found_whole`).
use Rattle.std.specs.Prelude.{ℕ, ◌+◌, ◌≤◌, ◌≡◌, true, List, ◌++◌, map, length, take}
use Rattle.actions.specs.declared.Action.{Action}
use Rattle.refusals.specs.declared.Refusal.TheVariants.{Form}
use Rattle.lines.specs.Lines.{action_step, plan_step}
use Rattle.lines.specs.Reading.{going, Read}
use Rattle.lines.specs.Answers.{state_of}
use Rattle.lines.specs.declared.Reading.{Reading}
use Rattle.text_rules.specs.Actions.{read_action}
use Rattle.steps.specs.Steps.{Steps, actions_in, text_action_limit}
use Rattle.steps.specs.Nesting.{Opening, action_next, plan_next, barred}
use Rattle.step_reading.specs.declared.Places.{Places}

-- the answer for the line that opens a step: what the step is, 0 where the reading fails, and where it then stands
abbrev pub Opens : List ℕ → Reading ℕ → Opening → Type 0
Opens s r (action_next st) = (r.value ≡ action_step) × (state_of s r.cursor ≡ st)
Opens s r (plan_next st) = (r.value ≡ plan_step) × (state_of s r.cursor ≡ st)
Opens s r (barred st) = (r.value ≡ 0) × (state_of s r.cursor ≡ st)

-- the action whose lines begin at a position of s
abbrev pub action_at : List ℕ → ℕ → Action
action_at s at = (read_action (state_of s (record { at = at; line = 0; on = true; refusal = Form }))).value

-- the actions that were found, in reading order
unfoldable pub actions_at : List ℕ → Places → List Action
actions_at s p = map (action_at s) (take p.count p.list)

-- what was read of the steps: where the reading stands; and where it goes on, their actions stand behind those before
pub record Finds (s : List ℕ) (p r : Places) (read : Read Steps) : Type 0 where
  pub state : state_of s r.cursor ≡ read.state
  pub room : r.count ≤ text_action_limit
  pub sized : length r.list ≡ text_action_limit
  pub count : (rest : List ℕ) (l : ℕ) → read.state ≡ going rest l → r.count ≡ p.count + length (actions_in read.value)
  pub actions : (rest : List ℕ) (l : ℕ) → read.state ≡ going rest l → actions_at s r ≡ actions_at s p ++ actions_in read.value

-- the same of a whole text
pub record TextFound (s : List ℕ) (r : Places) (read : Read Steps) : Type 0 where
  pub state : state_of s r.cursor ≡ read.state
  pub room : r.count ≤ text_action_limit
  pub count : (rest : List ℕ) (l : ℕ) → read.state ≡ going rest l → r.count ≡ length (actions_in read.value)
  pub actions : (rest : List ℕ) (l : ℕ) → read.state ≡ going rest l → actions_at s r ≡ actions_in read.value
