-- How a step opens, by what its line says, and what the code's answer for that line tells of it. Assumes nothing.
use Rattle.std.proofs.Common.{ℕ, ◌+◌, ◌≤◌, ◌<◌, ◌≡◌, refl, sym, ap, subst, ◌∙◌, Bool, true, false, cond, ◌&&◌, ◌||◌, List, arith, eq-eqb, ne_eqb, leb-true, eqb, leb, length, drop}
use Rattle.lists.specs.Tests.{and_left, and_right, clash}
use Rattle.refusals.specs.declared.Refusal.TheVariants.{Form, TooDeep, TooManyActions}
use Rattle.lines.specs.Lines.{Line, line, beyond, fault, action_step, plan_step, action_step_line, plan_step_line, parse_step}
use Rattle.lines.proofs.Laws.{word_read}
use Rattle.lines.specs.Reading.{State, going, failed, taken}
use Rattle.lines.specs.Answers.{FieldSays, state_of, read_step}
use Rattle.lines.specs.declared.Cursor.{Cursor}
use Rattle.lines.specs.declared.Reading.{Reading}
use Rattle.text_rules.proofs.Forms.{failed_going_clash}
use Rattle.steps.specs.Nesting.{action_next, plan_next, barred, opening, opened}
use Rattle.steps.specs.Laws.{opened_cases}
use Rattle.steps.specs.Shrinking.{remaining, step_shrinks}
use Rattle.step_reading.specs.Finding.{Opens}

-- where a cursor stands whose reading goes on
pub record Standing (s : List ℕ) (c : Cursor) (t : List ℕ) (m : ℕ) : Type 0 where
  pub within : c.at ≤ length s
  pub before : drop c.at s ≡ t
  pub number : c.line + 1 ≡ m

pub standing : (s : List ℕ) (c : Cursor) (t : List ℕ) (m : ℕ) → state_of s c ≡ going t m → Standing s c t m
standing s c t m h = go (c.on && (leb c.at (length s) && leb c.line c.at)) refl h
  where
    go : (b : Bool) → c.on && (leb c.at (length s) && leb c.line c.at) ≡ b →
        cond b (going (drop c.at s) (c.line + 1)) (failed c.refusal c.line) ≡ going t m → Standing s c t m
    go true e k = record {
      within = leb-true c.at (length s) (and_left (leb c.at (length s)) (leb c.line c.at) (and_right c.on _ e));
      before = cc;
      number = cc;
    }
    go false e k = failed_going_clash k

-- the line of a step says that it is an action or a plan
step_known : (t rest : List ℕ) (n : ℕ) → parse_step t ≡ line n rest → eqb n action_step || eqb n plan_step ≡ true
step_known t rest n e = (word_read action_step_line action_step plan_step_line plan_step refl n rest t e).1

module _ (s : List ℕ) (levels room : ℕ) (step : Reading ℕ) where
  pub opens_action : (st : State) → FieldSays s step (read_step st) → step.value ≡ action_step → 0 < room → Opens s step (opened levels room st)
  unfolding opened
  opens_action (failed why l) says one some = let none = says.value in absurd (omega arith)
  opens_action (going t l) says one some = go (parse_step t) says
    where
      go : (p : Line ℕ) → FieldSays s step (taken 0 Form l p) → Opens s step (opening levels room l p)
      go (line n rest) told =
          let same : n ≡ action_step = sym told.value ∙ one in rw (eq-eqb n action_step same, ne_eqb room 0 (λ e. omega arith)) (one, told.state)
      go beyond told = let none = told.value in absurd (omega arith)
      go fault told = let none = told.value in absurd (omega arith)

  pub opens_many : (st : State) (d : Cursor) → FieldSays s step (read_step st) → step.value ≡ action_step → room ≡ 0
      → d ≡ record { at = step.cursor.at; line = step.cursor.line; on = false; refusal = TooManyActions }
      → Opens s (record { value = 0; cursor = d }) (opened levels room st)
  unfolding opened
  opens_many (failed why l) d says one full e = let none = says.value in absurd (omega arith)
  opens_many (going t l) d says one full e = go (parse_step t) says
    where
      go : (p : Line ℕ) → FieldSays s step (taken 0 Form l p) → Opens s (record { value = 0; cursor = d }) (opening levels room l p)
      go (line n rest) told =
          let same : n ≡ action_step = sym told.value ∙ one in
          let at = (standing s step.cursor rest (l + 1) told.state).number in
          let here : step.cursor.line ≡ l = omega arith in
          rw (eq-eqb n action_step same, eq-eqb room 0 full, e, here) (refl, refl)
      go beyond told = let none = told.value in absurd (omega arith)
      go fault told = let none = told.value in absurd (omega arith)

  pub opens_deep : (st : State) (d : Cursor) → FieldSays s step (read_step st) → step.value ≡ plan_step → levels ≡ 0
      → d ≡ record { at = step.cursor.at; line = step.cursor.line; on = false; refusal = TooDeep }
      → Opens s (record { value = 0; cursor = d }) (opened levels room st)
  unfolding opened
  opens_deep (failed why l) d says one full e = let none = says.value in absurd (omega arith)
  opens_deep (going t l) d says one full e = go (parse_step t) says
    where
      go : (p : Line ℕ) → FieldSays s step (taken 0 Form l p) → Opens s (record { value = 0; cursor = d }) (opening levels room l p)
      go (line n rest) told =
          let same : n ≡ plan_step = sym told.value ∙ one in
          let at = (standing s step.cursor rest (l + 1) told.state).number in
          let here : step.cursor.line ≡ l = omega arith in
          rw (ne_eqb n action_step (λ k. omega arith), eq-eqb levels 0 full, e, here) (refl, refl)
      go beyond told = let none = told.value in absurd (omega arith)
      go fault told = let none = told.value in absurd (omega arith)

  pub opens_plan : (st : State) → FieldSays s step (read_step st) → step.value ≡ plan_step → (levels ≡ 0 → ⊥) → Opens s step (opened levels room st)
  unfolding opened
  opens_plan (failed why l) says one some = let none = says.value in absurd (omega arith)
  opens_plan (going t l) says one some = go (parse_step t) says
    where
      go : (p : Line ℕ) → FieldSays s step (taken 0 Form l p) → Opens s step (opening levels room l p)
      go (line n rest) told =
          let same : n ≡ plan_step = sym told.value ∙ one in
          rw (ne_eqb n action_step (λ k. omega arith), ne_eqb levels 0 some) (one, told.state)
      go beyond told = let none = told.value in absurd (omega arith)
      go fault told = let none = told.value in absurd (omega arith)

  pub opens_neither : (st : State) → FieldSays s step (read_step st) → (step.value ≡ action_step → ⊥) → (step.value ≡ plan_step → ⊥)
      → Opens s step (opened levels room st)
  unfolding opened
  opens_neither (failed why l) says one other = (says.value, says.state)
  opens_neither (going t l) says one other = go (parse_step t) refl says
    where
      go : (p : Line ℕ) → parse_step t ≡ p → FieldSays s step (taken 0 Form l p) → Opens s step (opening levels room l p)
      go (line n rest) e told =
          let known = step_known t rest n e in
          let first = ne_eqb n action_step (λ k. one (told.value ∙ k)) in
          let second = ne_eqb n plan_step (λ k. other (told.value ∙ k)) in
          clash (eqb n action_step || eqb n plan_step) known (rw (first, second))
      go beyond e told = (told.value, told.state)
      go fault e told = (told.value, told.state)

-- what the answer tells of how the step opens
pub record OpensAction (s : List ℕ) (c : Cursor) (levels room : ℕ) (st : State) : Type 0 where
  pub text : List ℕ
  pub at : ℕ
  pub stands : state_of s c ≡ going text at
  pub next : opened levels room st ≡ action_next (going text at)
  pub some : 0 < room
  pub shrinks : remaining (state_of s c) ≤ remaining st

pub record OpensPlan (s : List ℕ) (c : Cursor) (levels room : ℕ) (st : State) : Type 0 where
  pub next : opened levels room st ≡ plan_next (state_of s c)
  pub some : 0 < levels
  pub shrinks : remaining (state_of s c) ≤ remaining st

module _ (s : List ℕ) (levels room : ℕ) (st : State) (step : Reading ℕ) (opens : Opens s step (opened levels room st)) where
  pub action_opens : step.value ≡ action_step → OpensAction s step.cursor levels room st
  action_opens one =
      opened_cases levels room st
      (λ t l at some o.
      let told = subst (Opens s step) o opens in
      record {
        text = t;
        at = l + 1;
        stands = told.1;
        next = o;
        some = some;
        shrinks = subst (λ x. remaining x ≤ remaining st) (sym told.1) (step_shrinks action_step_line t l (l + 1) st at);
      })
      (λ t l at some o. let told = subst (Opens s step) o opens in let two = told.0 in absurd (omega arith))
      (λ why l o. let told = subst (Opens s step) o opens in let none = told.0 in absurd (omega arith))

  pub plan_opens : step.value ≡ plan_step → OpensPlan s step.cursor levels room st
  plan_opens one =
      opened_cases levels room st
      (λ t l at some o. let told = subst (Opens s step) o opens in let two = told.0 in absurd (omega arith))
      (λ t l at some o.
      let told = subst (Opens s step) o opens in
      record {
        next = o ∙ ap plan_next (sym told.1);
        some = some;
        shrinks = subst (λ x. remaining x ≤ remaining st) (sym told.1) (step_shrinks plan_step_line t l (l + 1) st at);
      })
      (λ why l o. let told = subst (Opens s step) o opens in let none = told.0 in absurd (omega arith))

  pub neither_opens : (step.value ≡ action_step → ⊥) → (step.value ≡ plan_step → ⊥) → opened levels room st ≡ barred (state_of s step.cursor)
  neither_opens one other =
      opened_cases levels room st
      (λ t l at some o. absurd (one (subst (Opens s step) o opens).0))
      (λ t l at some o. absurd (other (subst (Opens s step) o opens).0))
      (λ why l o. o ∙ ap barred (sym (subst (Opens s step) o opens).1))
