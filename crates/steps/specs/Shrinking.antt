-- Laws: The text that is left falls with each line: no reading of steps or of a plan leaves more than there was. Assumes nothing.
use Rattle.std.specs.Prelude.{ℕ, zero, suc, ◌+◌, ◌-◌, ◌≤◌, ◌≡◌, refl, List, ◌++◌, length}
use Rattle.std.proofs.Common.{sym, ap, subst, arith, length-append}
use Rattle.lines.specs.Lines.{action_step_line, plan_step_line}
use Rattle.lines.specs.Reading.{State, going, failed, Read, read_form, form_line}
use Rattle.text_rules.specs.Actions.{read_action, action_text}
use Rattle.text_rules.proofs.Forms.{form_stood}
use Rattle.text_rules.proofs.ActionTexts.{action_stood}
use Rattle.steps.specs.Steps.{Steps, actions_in, plan_form}
use Rattle.steps.specs.Nesting.{read_steps, read_plan}
use Rattle.steps.specs.Laws.{opened_cases, steps_action, steps_plan, steps_barred, steps_none, plan_counted}

-- how much of the text is left; nothing where the reading failed
abbrev pub remaining : State → ℕ
remaining (going t l) = length t
remaining (failed why l) = 0

-- a reading that stood before a text and what it left
left_behind : (st end : State) (text : (rest : List ℕ) (m : ℕ) → end ≡ going rest m → List ℕ) (at : (rest : List ℕ) (m : ℕ) → end ≡ going rest m → ℕ)
    → ((rest : List ℕ) (m : ℕ) (e : end ≡ going rest m) → st ≡ going (text rest m e ++ rest) (at rest m e)) → remaining end ≤ remaining st
left_behind st (failed why l) text at before = omega arith
left_behind st (going rest m) text at before =
    let one = ap remaining (before rest m refl) in
    let sum = length-append (text rest m refl) rest in
    omega arith

pub form_shrinks : (st : State) → remaining (read_form plan_form st).state ≤ remaining st
form_shrinks st =
    left_behind st (read_form plan_form st).state (λ rest m e. form_line plan_form (read_form plan_form st).value) (λ rest m e. (form_stood plan_form st rest m e).at)
    (λ rest m e. (form_stood plan_form st rest m e).before)

pub action_shrinks : (st : State) → remaining (read_action st).state ≤ remaining st
action_shrinks st =
    left_behind st (read_action st).state (λ rest m e. action_text (read_action st).value) (λ rest m e. (action_stood st rest m e).at)
    (λ rest m e. (action_stood st rest m e).before)

-- behind a step's line there is less
pub step_shrinks : (line t : List ℕ) (l m : ℕ) (st : State) → st ≡ going (line ++ t) l → remaining (going t m) ≤ remaining st
step_shrinks line t l m st e = let one = ap remaining e in let sum = length-append line t in omega arith

module _ (n : ℕ) (plan : ℕ → State → Read Steps) (below : (room : ℕ) (st : State) → remaining (plan room st).state ≤ remaining st) where
  steps_shrink : (k room : ℕ) (st : State) → remaining (read_steps plan n k room st).state ≤ remaining st
  steps_shrink zero room st = subst (λ (x : Read Steps). remaining x.state ≤ remaining st) (sym (steps_none plan n room st)) (omega arith)
  steps_shrink (suc k) room st =
      opened_cases n room st
      (λ t l at some o.
      let u = going t (l + 1) in
      let first = step_shrinks action_step_line t l (l + 1) st at in
      let one = action_shrinks u in
      let more = steps_shrink k (room - 1) (read_action u).state in
      subst (λ (x : Read Steps). remaining x.state ≤ remaining st) (sym (steps_action plan n k room st u o)) (omega arith))
      (λ t l at some o.
      let u = going t (l + 1) in
      let first = step_shrinks plan_step_line t l (l + 1) st at in
      let one = below room u in
      let more = steps_shrink k (room - length (actions_in (plan room u).value)) (plan room u).state in
      subst (λ (x : Read Steps). remaining x.state ≤ remaining st) (sym (steps_plan plan n k room st u o)) (omega arith))
      (λ why l o. subst (λ (x : Read Steps). remaining x.state ≤ remaining st) (sym (steps_barred plan n k room st (failed why l) o)) (omega arith))

none_shrinks : (room : ℕ) (st : State) → remaining (read_plan 0 room st).state ≤ remaining st
unfolding read_plan
none_shrinks room st = omega arith

pub plan_shrinks : (n room : ℕ) (st : State) → remaining (read_plan n room st).state ≤ remaining st
plan_shrinks zero room st = none_shrinks room st
plan_shrinks (suc n) room st =
    let counted = read_form plan_form st in
    let first = form_shrinks st in
    let more = steps_shrink n (read_plan n) (plan_shrinks n) counted.value room counted.state in
    subst (λ (x : Read Steps). remaining x.state ≤ remaining st) (sym (plan_counted n room st)) (omega arith)
