-- Reading steps and plans: what was written reads as it was, whatever follows, and where a reading goes on, it stood before the text of what it gives,
-- within the levels and the room. Assumes nothing.
use Rattle.std.proofs.Common.{ℕ, zero, suc, ◌+◌, ◌-◌, ◌≤◌, ◌<◌, ◌≡◌, refl, sym, ap, subst, ◌∙◌, List, [], ◌∷◌, ◌++◌, append_assoc, arith, length, length-append}
use Rattle.lists.specs.Lists.{All}
use Rattle.soundness_rules.proofs.Laws.{ranged_in, ranged_greatest}
use Rattle.actions.specs.declared.Action.{Action}
use Rattle.refusals.specs.declared.Refusal.TheVariants.{TooDeep}
use Rattle.lines.specs.Lines.{action_step_line, plan_step_line}
use Rattle.lines.specs.Reading.{State, going, failed, Read, read_form, form_line}
use Rattle.text_rules.specs.Actions.{read_action, action_text}
use Rattle.text_rules.specs.Things.{ReadsAs, Stood}
use Rattle.text_rules.proofs.Forms.{form_reads, form_stood, failed_going_clash}
use Rattle.text_rules.proofs.ActionTexts.{ReadFine, action_reads, action_stood}
use Rattle.steps.specs.Steps.{Steps, no_step, action_then, plan_then, actions_in, step_count, Nested, step_limit, plan_form, steps_text, plan_text}
use Rattle.steps.specs.Nesting.{read_steps, read_plan}
use Rattle.steps.specs.Laws.{opened_action, opened_plan, opened_cases, on_action, on_plan, steps_action, steps_plan, steps_barred, steps_none, plan_counted}

pub all_left : {A : Type 0} (Q : A → Type 0) (xs ys : List A) → All Q (xs ++ ys) → All Q xs
all_left Q [] ys h = tt
all_left Q (x ∷ xs) ys h = (h.0, all_left Q xs ys h.1)

pub all_right : {A : Type 0} (Q : A → Type 0) (xs ys : List A) → All Q (xs ++ ys) → All Q ys
all_right Q [] ys h = h
all_right Q (x ∷ xs) ys h = all_right Q xs ys h.1

pub all_join : {A : Type 0} (Q : A → Type 0) (xs ys : List A) → All Q xs → All Q ys → All Q (xs ++ ys)
all_join Q [] ys h k = k
all_join Q (x ∷ xs) ys h k = (h.0, all_join Q xs ys h.1 k)

-- the count line of a plan, then its steps
pub counted_reads : (n room : ℕ) (s : Steps) (rest : List ℕ) (l : ℕ) → step_count s ≤ step_limit
    → ((m : ℕ) → ReadsAs (read_steps (read_plan n) n (step_count s) room) (steps_text s ++ rest) m s rest)
    → ReadsAs (read_plan (suc n) room) (form_line plan_form (step_count s) ++ (steps_text s ++ rest)) l s rest
counted_reads n room s rest l few steps =
    let one = form_reads plan_form (step_count s) (steps_text s ++ rest) l (ranged_in 0 step_limit (step_count s) (omega arith) few) in
    let whole = going (form_line plan_form (step_count s) ++ (steps_text s ++ rest)) l in
    let more = steps one.next in
    let e = plan_counted n room whole
    ∙ ap (λ (k : ℕ). read_steps (read_plan n) n k room (read_form plan_form whole).state) one.value
    ∙ ap (λ (st : State). read_steps (read_plan n) n (step_count s) room st) one.state in
    record {
      next = more.next;
      value = ap (λ (x : Read Steps). x.value) e ∙ more.value;
      state = ap (λ (x : Read Steps). x.state) e ∙ more.state;
    }

pub assoc_two : (a b c d : List ℕ) → (a ++ (b ++ c)) ++ d ≡ a ++ (b ++ (c ++ d))
assoc_two a b c d = append_assoc a (b ++ c) d ∙ ap (λ (t : List ℕ). a ++ t) (append_assoc b c d)

pub assoc_three : (a b c d e : List ℕ) → (a ++ (b ++ (c ++ d))) ++ e ≡ a ++ (b ++ (c ++ (d ++ e)))
assoc_three a b c d e = append_assoc a (b ++ (c ++ d)) e ∙ ap (λ (t : List ℕ). a ++ t) (assoc_two b c d e)

pub steps_reads : (s : Steps) (n room : ℕ) (rest : List ℕ) (l : ℕ) → Nested n s → length (actions_in s) ≤ room → All ReadFine (actions_in s)
    → ReadsAs (read_steps (read_plan n) n (step_count s) room) (steps_text s ++ rest) l s rest
unfolding steps_text step_count actions_in
steps_reads no_step n room rest l nested few fine =
    let e = steps_none (read_plan n) n room (going rest l) in
    record { next = l; value = ap (λ (x : Read Steps). x.value) e; state = ap (λ (x : Read Steps). x.state) e }
steps_reads (action_then a s) n room rest l nested few fine =
    let f = read_steps (read_plan n) n (step_count s) (room - 1) in
    let u = going (action_text a ++ (steps_text s ++ rest)) (l + 1) in
    let one = action_reads a (steps_text s ++ rest) (l + 1) fine.0 in
    let more = steps_reads s n (room - 1) rest one.next nested (omega arith) fine.1 in
    let e = ap (λ (t : List ℕ). read_steps (read_plan n) n (suc (step_count s)) room (going t l)) (assoc_two action_step_line (action_text a) (steps_text s) rest)
    ∙ steps_action (read_plan n) n (step_count s) room _ u (opened_action n room (action_text a ++ (steps_text s ++ rest)) l (omega arith)) in
    record {
      next = more.next;
      value = ap (λ (x : Read Steps). x.value) e
          ∙ ap (λ (x : Action). action_then x (f (read_action u).state).value) one.value
          ∙ ap (λ (y : State). action_then a (f y).value) one.state
          ∙ ap (action_then a) more.value;
      state = ap (λ (x : Read Steps). x.state) e ∙ ap (λ (y : State). (f y).state) one.state ∙ more.state;
    }
steps_reads (plan_then p s) zero room rest l nested few fine = absurd nested
steps_reads (plan_then p s) (suc n) room rest l nested few fine =
    let lengths = length-append (actions_in p) (actions_in s) in
    let f : (Steps → State → Read Steps) = λ q y. read_steps (read_plan (suc n)) (suc n) (step_count s) (room - length (actions_in q)) y in
    let t = form_line plan_form (step_count p) ++ (steps_text p ++ (steps_text s ++ rest)) in
    let u = going t (l + 1) in
    let one = counted_reads n room p (steps_text s ++ rest) (l + 1) nested.0
    (λ m. steps_reads p n room (steps_text s ++ rest) m nested.1 (omega arith) (all_left ReadFine (actions_in p) (actions_in s) fine)) in
    let more = steps_reads s (suc n) (room - length (actions_in p)) rest one.next nested.2 (omega arith) (all_right ReadFine (actions_in p) (actions_in s) fine) in
    let e = ap (λ (t : List ℕ). read_steps (read_plan (suc n)) (suc n) (suc (step_count s)) room (going t l))
    (assoc_three plan_step_line (form_line plan_form (step_count p)) (steps_text p) (steps_text s) rest)
    ∙ steps_plan (read_plan (suc n)) (suc n) (step_count s) room _ u (opened_plan (suc n) room t l (omega arith)) in
    record {
      next = more.next;
      value = ap (λ (x : Read Steps). x.value) e
          ∙ ap (λ (q : Steps). plan_then q (f q (read_plan (suc n) room u).state).value) one.value
          ∙ ap (λ (y : State). plan_then p (f p y).value) one.state
          ∙ ap (plan_then p) more.value;
      state = ap (λ (x : Read Steps). x.state) e
          ∙ ap (λ (q : Steps). (f q (read_plan (suc n) room u).state).state) one.value
          ∙ ap (λ (y : State). (f p y).state) one.state
          ∙ more.state;
    }

pub plan_reads : (s : Steps) (n room : ℕ) (rest : List ℕ) (l : ℕ) → step_count s ≤ step_limit → Nested n s → length (actions_in s) ≤ room → All ReadFine (actions_in s)
    → ReadsAs (read_plan (suc n) room) (plan_text s ++ rest) l s rest
plan_reads s n room rest l size nested few fine =
    rw (append_assoc (form_line plan_form (step_count s)) (steps_text s) rest)
    (counted_reads n room s rest l size (λ m. steps_reads s n room rest m nested few fine))

-- The converse.
abbrev pub Within : ℕ → Steps → Type 0
Within zero p = ⊥
Within (suc n) p = (step_count p ≤ step_limit) × Nested n p

nested_sub : (n : ℕ) (p s : Steps) → Within n p → Nested n s → Nested n (plan_then p s)
nested_sub zero p s h k = h
nested_sub (suc n) p s h k = (h.0, h.1, k)

pub record StepsStood (n k room : ℕ) (s : Steps) (st : State) (rest : List ℕ) : Type 0 where
  pub at : ℕ
  pub before : st ≡ going (steps_text s ++ rest) at
  pub nested : Nested n s
  pub count : step_count s ≡ k
  pub few : length (actions_in s) ≤ room
  pub each : All ReadFine (actions_in s)

pub record PlanStood (n room : ℕ) (s : Steps) (st : State) (rest : List ℕ) : Type 0 where
  pub at : ℕ
  pub before : st ≡ going (plan_text s ++ rest) at
  pub within : Within n s
  pub few : length (actions_in s) ≤ room
  pub each : All ReadFine (actions_in s)

stood_none : (n room : ℕ) (st : State) (rest : List ℕ) (m : ℕ) → st ≡ going rest m → StepsStood n 0 room no_step st rest
unfolding steps_text step_count actions_in
stood_none n room st rest m h = record { at = m; before = h; nested = tt; count = refl; few = omega arith; each = tt }

stood_act : (n k room : ℕ) (a : Action) (s : Steps) (t : List ℕ) (l : ℕ) (mid : State) (rest : List ℕ) → 0 < room
    → StepsStood n k (room - 1) s mid rest → ((r : List ℕ) (m : ℕ) → mid ≡ going r m → Stood action_text ReadFine a (going t (l + 1)) r)
    → StepsStood n (suc k) room (action_then a s) (going (action_step_line ++ t) l) rest
unfolding steps_text step_count actions_in
stood_act n k room a s t l mid rest some more first =
    let one = first (steps_text s ++ rest) more.at more.before in
    let same : t ≡ action_text a ++ (steps_text s ++ rest) = let e = one.before in cc in
    let count = more.count in
    let few = more.few in
    record {
      at = l;
      before = ap (λ (u : List ℕ). going u l) (ap (λ (u : List ℕ). action_step_line ++ u) same ∙ sym (assoc_two action_step_line (action_text a) (steps_text s) rest));
      nested = more.nested;
      count = ap suc more.count;
      few = omega arith;
      each = (one.fits, more.each);
    }

stood_sub : (n k room : ℕ) (p s : Steps) (t : List ℕ) (l : ℕ) (mid : State) (rest : List ℕ)
    → StepsStood n k (room - length (actions_in p)) s mid rest → ((r : List ℕ) (m : ℕ) → mid ≡ going r m → PlanStood n room p (going t (l + 1)) r)
    → StepsStood n (suc k) room (plan_then p s) (going (plan_step_line ++ t) l) rest
unfolding steps_text step_count actions_in
stood_sub n k room p s t l mid rest more first =
    let one = first (steps_text s ++ rest) more.at more.before in
    let same : t ≡ plan_text p ++ (steps_text s ++ rest) = let e = one.before in cc in
    let shape : t ≡ form_line plan_form (step_count p) ++ (steps_text p ++ (steps_text s ++ rest)) =
    same ∙ append_assoc (form_line plan_form (step_count p)) (steps_text p) (steps_text s ++ rest) in
    let few = more.few in
    let least = one.few in
    let lengths = length-append (actions_in p) (actions_in s) in
    record {
      at = l;
      before = ap (λ (u : List ℕ). going u l)
          (ap (λ (u : List ℕ). plan_step_line ++ u) shape ∙ sym (assoc_three plan_step_line (form_line plan_form (step_count p)) (steps_text p) (steps_text s) rest));
      nested = nested_sub n p s one.within more.nested;
      count = ap suc more.count;
      few = omega arith;
      each = all_join ReadFine (actions_in p) (actions_in s) one.each more.each;
    }

module _ (n : ℕ) (plan : ℕ → State → Read Steps)
    (below : (room : ℕ) (st : State) (rest : List ℕ) (m : ℕ) → (plan room st).state ≡ going rest m → PlanStood n room (plan room st).value st rest) where
  pub steps_stood : (k room : ℕ) (st : State) (rest : List ℕ) (m : ℕ) → (read_steps plan n k room st).state ≡ going rest m
      → StepsStood n k room (read_steps plan n k room st).value st rest
  steps_stood zero room st rest m h =
      let e = steps_none plan n room st in
      subst (λ (x : Read Steps). StepsStood n 0 room x.value st rest) (sym e) (stood_none n room st rest m (sym (ap (λ (x : Read Steps). x.state) e) ∙ h))
  steps_stood (suc k) room st rest m h =
      opened_cases n room st
      (λ t l at some o.
      let e = steps_action plan n k room st (going t (l + 1)) o in
      let one = read_action (going t (l + 1)) in
      let more = steps_stood k (room - 1) one.state rest m (sym (ap (λ (x : Read Steps). x.state) e) ∙ h) in
      subst (λ (x : Read Steps). StepsStood n (suc k) room x.value st rest) (sym e)
      (subst (λ (y : State). StepsStood n (suc k) room (on_action plan n k room (going t (l + 1))).value y rest) (sym at)
      (stood_act n k room one.value (read_steps plan n k (room - 1) one.state).value t l one.state rest some more
      (λ r i q. action_stood (going t (l + 1)) r i q))))
      (λ t l at some o.
      let e = steps_plan plan n k room st (going t (l + 1)) o in
      let inner = plan room (going t (l + 1)) in
      let left = room - length (actions_in inner.value) in
      let more = steps_stood k left inner.state rest m (sym (ap (λ (x : Read Steps). x.state) e) ∙ h) in
      subst (λ (x : Read Steps). StepsStood n (suc k) room x.value st rest) (sym e)
      (subst (λ (y : State). StepsStood n (suc k) room (on_plan plan n k room (going t (l + 1))).value y rest) (sym at)
      (stood_sub n k room inner.value (read_steps plan n k left inner.state).value t l inner.state rest more
      (λ r i q. below room (going t (l + 1)) r i q))))
      (λ why l o. failed_going_clash (sym (ap (λ (x : Read Steps). x.state) (steps_barred plan n k room st (failed why l) o)) ∙ h))

plan_zero : (room : ℕ) (st : State) → (read_plan 0 room st).state ≡ failed TooDeep 1
unfolding read_plan
plan_zero room st = refl

pub plan_stood : (n room : ℕ) (st : State) (rest : List ℕ) (m : ℕ) → (read_plan n room st).state ≡ going rest m → PlanStood n room (read_plan n room st).value st rest
plan_stood zero room st rest m h = failed_going_clash (sym (plan_zero room st) ∙ h)
plan_stood (suc n) room st rest m h =
    let e = plan_counted n room st in
    let counted = read_form plan_form st in
    let more = steps_stood n (read_plan n) (plan_stood n) counted.value room counted.state rest m (sym (ap (λ (x : Read Steps). x.state) e) ∙ h) in
    let s = (read_steps (read_plan n) n counted.value room counted.state).value in
    let one = form_stood plan_form st (steps_text s ++ rest) more.at more.before in
    let most = ranged_greatest 0 step_limit counted.value one.fits in
    let count = more.count in
    subst (λ (x : Read Steps). PlanStood (suc n) room x.value st rest) (sym e) (record {
      at = one.at;
      before = one.before
          ∙ ap (λ (k : ℕ). going (form_line plan_form k ++ (steps_text s ++ rest)) one.at) (sym more.count)
          ∙ ap (λ (u : List ℕ). going u one.at) (sym (append_assoc (form_line plan_form (step_count s)) (steps_text s) rest));
      within = (omega arith, more.nested);
      few = more.few;
      each = more.each;
    })
