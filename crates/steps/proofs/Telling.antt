-- A reading that fails is told by one of the text's refusals, at a line from 1. Assumes nothing.
use Rattle.std.proofs.Common.{ℕ, zero, suc, ◌+◌, ◌-◌, ◌≡◌, refl, sym, subst, List, inl, inr, arith, eqb, length, drop}
use Rattle.lists.specs.Tests.{cases}
use Rattle.refusals.specs.declared.Refusal.TheVariants.{Form, Count, TooDeep, TooManyActions}
use Rattle.lines.specs.Lines.{begins, parse_word, action_step_line, plan_step_line}
use Rattle.lines.specs.Reading.{State, going, failed, Read, read_form}
use Rattle.text_rules.specs.Actions.{read_action}
use Rattle.text_rules.specs.Telling.{Told, form_told, closed_told, action_lines_told}
use Rattle.steps.specs.Steps.{Steps, actions_in, plan_form, level_limit, text_action_limit}
use Rattle.steps.specs.Nesting.{action_next, plan_next, barred, opened, read_steps, read_plan, plan_of}
use Rattle.steps.specs.Laws.{steps_action, steps_plan, steps_barred, steps_none, plan_counted}
use Rattle.steps.specs.Answers.{OfText}

by_form : OfText Form
by_form = inl refl

by_count : OfText Count
by_count = inr (inl refl)

-- a reading that is told stays so
pub opened_told : {A : Type 0} (levels room : ℕ) (st : State) → Told OfText st
    → ((u : State) → Told OfText u → opened levels room st ≡ action_next u → A)
    → ((u : State) → Told OfText u → opened levels room st ≡ plan_next u → A)
    → ((u : State) → Told OfText u → opened levels room st ≡ barred u → A) → A
unfolding opened parse_word
opened_told levels room (failed why l) told f g h = h (failed why l) told refl
opened_told levels room (going t l) told f g h =
    cases (begins action_step_line t)
    (λ e. cases (eqb room 0)
    (λ z. h (failed TooManyActions l) (told, inr (inr (inr refl))) (rw (e, z)))
    (λ z. f (going (drop (length action_step_line) t) (l + 1)) (omega arith) (rw (e, z))))
    (λ e. cases (begins plan_step_line t)
    (λ p. cases (eqb levels 0)
    (λ z. h (failed TooDeep l) (told, inr (inr (inl refl))) (rw (e, p, z)))
    (λ z. g (going (drop (length plan_step_line) t) (l + 1)) (omega arith) (rw (e, p, z))))
    (λ p. h (failed Form l) (told, inl refl) (rw (e, p))))

module _ (n : ℕ) (plan : ℕ → State → Read Steps) (below : (room : ℕ) (st : State) → Told OfText st → Told OfText (plan room st).state) where
  steps_told_lem : (k room : ℕ) (st : State) → Told OfText st → Told OfText (read_steps plan n k room st).state
  steps_told_lem zero room st told = subst (λ (x : Read Steps). Told OfText x.state) (sym (steps_none plan n room st)) told
  steps_told_lem (suc k) room st told =
      opened_told n room st told
      (λ u here o. subst (λ (x : Read Steps). Told OfText x.state) (sym (steps_action plan n k room st u o))
      (steps_told_lem k (room - 1) (read_action u).state (action_lines_told OfText by_form by_count u here)))
      (λ u here o. subst (λ (x : Read Steps). Told OfText x.state) (sym (steps_plan plan n k room st u o))
      (steps_told_lem k (room - length (actions_in (plan room u).value)) (plan room u).state (below room u here)))
      (λ u here o. subst (λ (x : Read Steps). Told OfText x.state) (sym (steps_barred plan n k room st u o)) here)

zero_told : (room : ℕ) (st : State) → Told OfText (read_plan 0 room st).state
unfolding read_plan
zero_told room st = (omega arith, inr (inr (inl refl)))

pub plan_told : (n room : ℕ) (st : State) → Told OfText st → Told OfText (read_plan n room st).state
plan_told zero room st told = zero_told room st
plan_told (suc n) room st told =
    subst (λ (x : Read Steps). Told OfText x.state) (sym (plan_counted n room st))
    (steps_told_lem n (read_plan n) (plan_told n) (read_form plan_form st).value room (read_form plan_form st).state (form_told OfText by_form by_count plan_form by_count st told))

pub text_told : (t : List ℕ) → Told OfText (plan_of t).state
unfolding plan_of
text_told t = closed_told OfText by_form by_count (read_plan level_limit text_action_limit (going t 1)).state (plan_told level_limit text_action_limit (going t 1) (omega arith))
