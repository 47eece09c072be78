-- How many lines a reading that goes on has passed: one to each line, so the line of a refusal is told by the steps before it. Assumes nothing.
use Rattle.std.proofs.Common.{ℕ, zero, suc, ◌+◌, ◌-◌, ◌≡◌, refl, sym, subst, List, [], ◌∷◌, ◌++◌, arith, length}
use Rattle.actions.specs.Actions.{use_limit, govern_limit}
use Rattle.lines.specs.Lines.{Line, line, beyond, fault, action_step_line, plan_step_line}
use Rattle.lines.specs.Reading.{State, going, failed, Read, LineForm, count, taken, read_form, parse_form, above_refusal}
use Rattle.text_rules.specs.Keys.{uses_key, governs_key}
use Rattle.text_rules.specs.Records.{passed, many}
use Rattle.text_rules.specs.Laws.{many_length}
use Rattle.text_rules.specs.Actions.{head_forms, use_forms, read_use, govern_form, read_govern, read_uses, read_governs, read_action}
use Rattle.steps.specs.Steps.{Steps, actions_in, plan_form}
use Rattle.steps.specs.Nesting.{read_steps, read_plan}
use Rattle.steps.specs.Opens.{action_line_count, step_line_count}
use Rattle.steps.specs.Laws.{opened_cases, steps_action, steps_plan, steps_barred, steps_none, plan_counted}

-- a reading that goes on stands k lines further
abbrev pub Ahead : ℕ → State → State → Type 0
Ahead k st (failed why l) = Unit {0}
Ahead k (failed why l) (going u m) = ⊥
Ahead k (going t l) (going u m) = m ≡ l + k

ahead_same : (st : State) → Ahead 0 st st
ahead_same (failed why l) = tt
ahead_same (going t l) = omega arith

ahead_two : (j k : ℕ) (a b c : State) → Ahead j a b → Ahead k b c → Ahead (j + k) a c
ahead_two j k a b (failed why l) h i = tt
ahead_two j k a (failed why l) (going u m) h i = absurd i
ahead_two j k (failed why n) (going t l) (going u m) h i = absurd h
ahead_two j k (going s n) (going t l) (going u m) h i = omega arith

pub form_ahead : (f : LineForm) (st : State) → Ahead 1 st (read_form f st).state
form_ahead f (failed why l) = tt
form_ahead f (going t l) = go (parse_form f t)
  where
    go : (p : Line ℕ) → Ahead 1 (going t l) (taken 0 (above_refusal f) l p).state
    go (line n rest) = refl
    go beyond = tt
    go fault = tt

ahead_by : (j k : ℕ) (a b : State) → j ≡ k → Ahead j a b → Ahead k a b
ahead_by j k a b e h = subst (λ (n : ℕ). Ahead n a b) e h

passed_ahead : (forms : List LineForm) (st : State) → Ahead (length forms) st (passed forms st)
unfolding passed
passed_ahead [] st = ahead_same st
passed_ahead (f ∷ forms) st =
    ahead_by (1 + length forms) (suc (length forms)) st (passed forms (read_form f st).state) (omega arith)
    (ahead_two 1 (length forms) st (read_form f st).state (passed forms (read_form f st).state) (form_ahead f st) (passed_ahead forms (read_form f st).state))

many_one : {A : Type 0} (read : State → Read A) → ((st : State) → Ahead 1 st (read st).state) → (n : ℕ) (st : State) → Ahead n st (many read n st).state
unfolding many
many_one read each zero st = ahead_same st
many_one read each (suc n) st =
    ahead_by (1 + n) (suc n) st (many read n (read st).state).state (omega arith)
    (ahead_two 1 n st (read st).state (many read n (read st).state).state (each st) (many_one read each n (read st).state))

many_two : {A : Type 0} (read : State → Read A) → ((st : State) → Ahead 2 st (read st).state) → (n : ℕ) (st : State) → Ahead (n + n) st (many read n st).state
unfolding many
many_two read each zero st = ahead_same st
many_two read each (suc n) st =
    ahead_by (2 + (n + n)) (suc n + suc n) st (many read n (read st).state).state (omega arith)
    (ahead_two 2 (n + n) st (read st).state (many read n (read st).state).state (each st) (many_two read each n (read st).state))

uses_ahead : (st : State) → Ahead (1 + (length (read_uses st).value + length (read_uses st).value)) st (read_uses st).state
unfolding read_uses
uses_ahead st =
    let counted = read_form (count uses_key use_limit) st in
    let all = many_length read_use counted.value counted.state in
    ahead_two 1 _ st counted.state (many read_use counted.value counted.state).state (form_ahead (count uses_key use_limit) st)
    (ahead_by (counted.value + counted.value) _ counted.state (many read_use counted.value counted.state).state (omega arith)
    (many_two read_use (λ u. passed_ahead use_forms u) counted.value counted.state))

governs_ahead : (st : State) → Ahead (1 + length (read_governs st).value) st (read_governs st).state
unfolding read_governs
governs_ahead st =
    let counted = read_form (count governs_key govern_limit) st in
    let all = many_length read_govern counted.value counted.state in
    ahead_two 1 _ st counted.state (many read_govern counted.value counted.state).state (form_ahead (count governs_key govern_limit) st)
    (ahead_by counted.value _ counted.state (many read_govern counted.value counted.state).state (sym all)
    (many_one read_govern (λ u. form_ahead govern_form u) counted.value counted.state))

pub action_ahead : (st : State) → Ahead (action_line_count (read_action st).value) st (read_action st).state
unfolding read_action
action_ahead st =
    let head = passed head_forms st in
    let uses = read_uses head in
    ahead_two 3 _ st head (read_governs uses.state).state (passed_ahead head_forms st)
    (ahead_two _ _ head uses.state (read_governs uses.state).state (uses_ahead head) (governs_ahead uses.state))

-- after a line of its own
line_ahead : (k : ℕ) (t u : List ℕ) (l : ℕ) (end : State) → Ahead k (going t (l + 1)) end → Ahead (1 + k) (going u l) end
line_ahead k t u l (failed why m) h = tt
line_ahead k t u l (going v m) h = omega arith

module _ (n : ℕ) (plan : ℕ → State → Read Steps) (below : (room : ℕ) (st : State) → Ahead (1 + step_line_count (plan room st).value) st (plan room st).state) where
  pub steps_ahead : (k room : ℕ) (st : State) → Ahead (step_line_count (read_steps plan n k room st).value) st (read_steps plan n k room st).state
  unfolding step_line_count
  steps_ahead zero room st =
      subst (λ (x : Read Steps). Ahead (step_line_count x.value) st x.state) (sym (steps_none plan n room st)) (ahead_same st)
  steps_ahead (suc k) room st =
      opened_cases n room st
      (λ t l at some o.
      let u = going t (l + 1) in
      let one = read_action u in
      let more = read_steps plan n k (room - 1) one.state in
      subst (λ (x : Read Steps). Ahead (step_line_count x.value) st x.state) (sym (steps_action plan n k room st u o))
      (subst (λ (y : State). Ahead (1 + (action_line_count one.value + step_line_count more.value)) y more.state) (sym at)
      (line_ahead _ t (action_step_line ++ t) l more.state
      (ahead_two (action_line_count one.value) (step_line_count more.value) u one.state more.state (action_ahead u) (steps_ahead k (room - 1) one.state)))))
      (λ t l at some o.
      let u = going t (l + 1) in
      let inner = plan room u in
      let left = room - length (actions_in inner.value) in
      let more = read_steps plan n k left inner.state in
      subst (λ (x : Read Steps). Ahead (step_line_count x.value) st x.state) (sym (steps_plan plan n k room st u o))
      (subst (λ (y : State). Ahead (1 + ((1 + step_line_count inner.value) + step_line_count more.value)) y more.state) (sym at)
      (line_ahead _ t (plan_step_line ++ t) l more.state
      (ahead_two (1 + step_line_count inner.value) (step_line_count more.value) u inner.state more.state (below room u) (steps_ahead k left inner.state)))))
      (λ why l o.
      subst (λ (x : Read Steps). Ahead (step_line_count x.value) st x.state) (sym (steps_barred plan n k room st (failed why l) o)) tt)

zero_ahead : (room : ℕ) (st : State) → Ahead (1 + step_line_count (read_plan 0 room st).value) st (read_plan 0 room st).state
unfolding read_plan
zero_ahead room st = tt

pub plan_ahead : (n room : ℕ) (st : State) → Ahead (1 + step_line_count (read_plan n room st).value) st (read_plan n room st).state
plan_ahead zero room st = zero_ahead room st
plan_ahead (suc n) room st =
    let counted = read_form plan_form st in
    subst (λ (x : Read Steps). Ahead (1 + step_line_count x.value) st x.state) (sym (plan_counted n room st))
    (ahead_two 1 _ st counted.state (read_steps (read_plan n) n counted.value room counted.state).state (form_ahead plan_form st)
    (steps_ahead n (read_plan n) (plan_ahead n) counted.value room counted.state))
