-- Laws: What opens a step, and what one step more makes of the reading of steps and of a plan. Assumes nothing.
use Rattle.std.specs.Prelude.{ℕ, zero, suc, ◌+◌, ◌-◌, ◌<◌, ◌≡◌, refl, false, List, ◌++◌, eqb, length, drop}
use Rattle.std.proofs.Common.{ap, arith, ne_eqb}
use Rattle.std.proofs.lemmas.Bool.{eqb-false}
use Rattle.std.proofs.Math.Seq.{drop-append_seam}
use Rattle.lists.specs.Tests.{cases}
use Rattle.refusals.specs.declared.Refusal.{Refusal}
use Rattle.refusals.specs.declared.Refusal.TheVariants.{Form, TooDeep, TooManyActions}
use Rattle.lines.specs.Lines.{begins, parse_word, action_step_line, plan_step_line}
use Rattle.lines.proofs.Laws.{begins_append, begins_split}
use Rattle.lines.specs.Reading.{State, going, failed, Read, read_form}
use Rattle.text_rules.specs.Actions.{read_action}
use Rattle.steps.specs.Steps.{Steps, no_step, action_then, plan_then, actions_in, plan_form}
use Rattle.steps.specs.Nesting.{action_next, plan_next, barred, opened, step_followed, read_steps, read_plan}

-- Opening a step.
pub opened_action : (levels room : ℕ) (t : List ℕ) (l : ℕ) → 0 < room → opened levels room (going (action_step_line ++ t) l) ≡ action_next (going t (l + 1))
unfolding opened parse_word
opened_action levels room t l h = rw (begins_append action_step_line t, ne_eqb room 0 (λ e. omega arith), drop-append_seam action_step_line t)

plan_not_action : (t : List ℕ) → begins action_step_line (plan_step_line ++ t) ≡ false
unfolding begins
plan_not_action t = refl

pub opened_plan : (levels room : ℕ) (t : List ℕ) (l : ℕ) → 0 < levels → opened levels room (going (plan_step_line ++ t) l) ≡ plan_next (going t (l + 1))
unfolding opened parse_word
opened_plan levels room t l h = rw (plan_not_action t, begins_append plan_step_line t, ne_eqb levels 0 (λ e. omega arith), drop-append_seam plan_step_line t)

-- no room: 23, and no level: 22, at that line, whatever follows
pub opened_many : (levels : ℕ) (t : List ℕ) (l : ℕ) → opened levels 0 (going (action_step_line ++ t) l) ≡ barred (failed TooManyActions l)
unfolding opened parse_word
opened_many levels t l = rw (begins_append action_step_line t)

pub opened_deep : (room : ℕ) (t : List ℕ) (l : ℕ) → opened 0 room (going (plan_step_line ++ t) l) ≡ barred (failed TooDeep l)
unfolding opened parse_word
opened_deep room t l = rw (plan_not_action t, begins_append plan_step_line t)

-- the three ways that a step opens
pub opened_cases : {A : Type 0} (levels room : ℕ) (st : State)
    → ((t : List ℕ) (l : ℕ) → st ≡ going (action_step_line ++ t) l → 0 < room → opened levels room st ≡ action_next (going t (l + 1)) → A)
    → ((t : List ℕ) (l : ℕ) → st ≡ going (plan_step_line ++ t) l → 0 < levels → opened levels room st ≡ plan_next (going t (l + 1)) → A)
    → ((why : Refusal) (l : ℕ) → opened levels room st ≡ barred (failed why l) → A) → A
unfolding opened parse_word
opened_cases levels room (failed why l) f g h = h why l refl
opened_cases levels room (going t l) f g h =
    cases (begins action_step_line t)
    (λ e. cases (eqb room 0)
    (λ z. h TooManyActions l (rw (e, z)))
    (λ z. let some = eqb-false room 0 z in
    f (drop (length action_step_line) t) l (ap (λ (u : List ℕ). going u l) (begins_split action_step_line t e)) (omega arith) (rw (e, z))))
    (λ e. cases (begins plan_step_line t)
    (λ p. cases (eqb levels 0)
    (λ z. h TooDeep l (rw (e, p, z)))
    (λ z. let some = eqb-false levels 0 z in
    g (drop (length plan_step_line) t) l (ap (λ (u : List ℕ). going u l) (begins_split plan_step_line t p)) (omega arith) (rw (e, p, z))))
    (λ p. h Form l (rw (e, p))))

-- The reading of one step more.
module _ (plan : ℕ → State → Read Steps) (levels k room : ℕ) where
  abbrev pub on_action : State → Read Steps
  on_action u =
      let one = read_action u in
      let more = read_steps plan levels k (room - 1) one.state in
      record { value = action_then one.value more.value; state = more.state }

  abbrev pub on_plan : State → Read Steps
  on_plan u =
      let inner = plan room u in
      let more = read_steps plan levels k (room - length (actions_in inner.value)) inner.state in
      record { value = plan_then inner.value more.value; state = more.state }

  pub steps_action : (st u : State) → opened levels room st ≡ action_next u → read_steps plan levels (suc k) room st ≡ on_action u
  unfolding read_steps step_followed
  steps_action st u e = rw e

  pub steps_plan : (st u : State) → opened levels room st ≡ plan_next u → read_steps plan levels (suc k) room st ≡ on_plan u
  unfolding read_steps step_followed
  steps_plan st u e = rw e

  pub steps_barred : (st u : State) → opened levels room st ≡ barred u → read_steps plan levels (suc k) room st ≡ record { value = no_step; state = u }
  unfolding read_steps step_followed
  steps_barred st u e = rw e

pub steps_none : (plan : ℕ → State → Read Steps) (levels room : ℕ) (st : State) → read_steps plan levels 0 room st ≡ record { value = no_step; state = st }
unfolding read_steps
steps_none plan levels room st = refl

pub plan_counted : (n room : ℕ) (st : State) → read_plan (suc n) room st ≡ read_steps (read_plan n) n (read_form plan_form st).value room (read_form plan_form st).state
unfolding read_plan
plan_counted n room st = refl

-- a reading that failed stays failed, whatever room is left
pub steps_failed : (plan : ℕ → State → Read Steps) (levels k room : ℕ) (why : Refusal) (l : ℕ)
    → read_steps plan levels k room (failed why l) ≡ record { value = no_step; state = failed why l }
unfolding read_steps opened step_followed
steps_failed plan levels zero room why l = refl
steps_failed plan levels (suc k) room why l = refl
