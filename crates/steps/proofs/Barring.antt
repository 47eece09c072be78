-- 22 and 23 at their line, whatever follows: a text that is open, with the steps read so far at each level. Assumes nothing.
use Rattle.std.proofs.Common.{ℕ, zero, suc, ◌+◌, ◌-◌, ◌≤◌, ◌<◌, ◌≡◌, refl, sym, ap, subst, ◌∙◌, true, List, ◌++◌, arith, length, length-append}
use lib.ListN.{length-map}
use Rattle.lists.specs.Lists.{All}
use Rattle.soundness_rules.proofs.Laws.{ranged_in}
use Rattle.register.specs.declared.Register.{Register}
use Rattle.refusals.specs.declared.Refusal.{Refusal}
use Rattle.refusals.specs.declared.Refusal.TheVariants.{TooDeep, TooManyActions}
use Rattle.actions.specs.Actions.{action_fits}
use Rattle.actions.specs.declared.Action.{Action}
use Rattle.lines.specs.Lines.{action_step_line, plan_step_line}
use Rattle.lines.specs.Reading.{State, going, failed, Read, read_form, form_line, closed}
use Rattle.text_rules.specs.Actions.{ShapedAction, read_action, action_text}
use Rattle.text_rules.proofs.Forms.{form_reads}
use Rattle.text_rules.proofs.ActionTexts.{ReadFine, cleaned_action, cleaned_action_same, action_reads}
use Rattle.steps.specs.Steps.{Steps, no_step, action_then, plan_then, actions_in, step_count, Nested, step_limit, text_action_limit, plan_form, steps_text}
use Rattle.steps.specs.Nesting.{barred, opened, read_steps, read_plan, plan_of}
use Rattle.steps.specs.Judging.{plan_text_judged, stopped_plan}
use Rattle.steps.specs.Opens.{action_line_count, step_line_count, Open, inner, outer, open_text, open_lines, open_actions, bottom, OpenFits}
use Rattle.steps.specs.Laws.{opened_action, opened_plan, opened_many, opened_deep, steps_action, steps_plan, steps_barred, steps_failed, plan_counted}
use Rattle.steps.proofs.Reading.{counted_reads, steps_reads, all_left, all_right, assoc_two, assoc_three}
use Rattle.steps.proofs.Cleaning.{clean_steps, clean_count, clean_text, clean_flat, clean_nested, all_clean}
use Rattle.steps.proofs.Ahead.{Ahead, action_ahead, plan_ahead, form_ahead}
use Rattle.steps.proofs.Judged.{failed_judged}

-- where a reading stands exactly behind an action, a count line, a plan
action_next_lem : (a : Action) (rest : List ℕ) (l : ℕ) → ReadFine a → (read_action (going (action_text a ++ rest) l)).state ≡ going rest (l + action_line_count a)
action_next_lem a rest l h =
    let u = going (action_text a ++ rest) l in
    let one = action_reads a rest l h in
    let by : Ahead (action_line_count a) u (going rest one.next) =
    subst (λ (x : Action). Ahead (action_line_count x) u (going rest one.next)) one.value
    (subst (λ (y : State). Ahead (action_line_count (read_action u).value) u y) one.state (action_ahead u)) in
    one.state ∙ ap (going rest) by

count_next : (k : ℕ) (rest : List ℕ) (l : ℕ) → k ≤ step_limit
    → ((read_form plan_form (going (form_line plan_form k ++ rest) l)).value ≡ k) × ((read_form plan_form (going (form_line plan_form k ++ rest) l)).state ≡ going rest (l + 1))
count_next k rest l h =
    let u = going (form_line plan_form k ++ rest) l in
    let one = form_reads plan_form k rest l (ranged_in 0 step_limit k (omega arith) h) in
    let by : Ahead 1 u (going rest one.next) = subst (λ (y : State). Ahead 1 u y) one.state (form_ahead plan_form u) in
    (one.value, one.state ∙ ap (going rest) by)

plan_next_lem : (n room : ℕ) (p : Steps) (rest : List ℕ) (l : ℕ) → step_count p ≤ step_limit → Nested n p → length (actions_in p) ≤ room → All ReadFine (actions_in p)
    → ((read_plan (suc n) room (going (form_line plan_form (step_count p) ++ (steps_text p ++ rest)) l)).value ≡ p)
    × ((read_plan (suc n) room (going (form_line plan_form (step_count p) ++ (steps_text p ++ rest)) l)).state ≡ going rest (l + (1 + step_line_count p)))
plan_next_lem n room p rest l size nested few fine =
    let u = going (form_line plan_form (step_count p) ++ (steps_text p ++ rest)) l in
    let one = counted_reads n room p rest l size (λ m. steps_reads p n room rest m nested few fine) in
    let by : Ahead (1 + step_line_count p) u (going rest one.next) =
    subst (λ (x : Steps). Ahead (1 + step_line_count x) u (going rest one.next)) one.value
    (subst (λ (y : State). Ahead (1 + step_line_count (read_plan (suc n) room u).value) u y) one.state (plan_ahead (suc n) room u)) in
    (one.value, one.state ∙ ap (going rest) by)

-- k steps behind those of s
abbrev extra : Steps → ℕ → ℕ
extra no_step k = k
extra (action_then a s) k = suc (extra s k)
extra (plan_then p s) k = suc (extra s k)

extra_sum : (s : Steps) (k : ℕ) → extra s k ≡ step_count s + k
unfolding step_count
extra_sum no_step k = omega arith
extra_sum (action_then a s) k = let more = extra_sum s k in omega arith
extra_sum (plan_then p s) k = let more = extra_sum s k in omega arith

module _ (k : ℕ) (t : List ℕ) where
  steps_at : (n room room' l l' : ℕ) → room ≡ room' → l ≡ l'
      → (read_steps (read_plan n) n k room (going t l)).state ≡ (read_steps (read_plan n) n k room' (going t l')).state
  steps_at n room room' l l' e f = rw (e, f)

  steps_part : (s : Steps) (n room l : ℕ) → Nested n s → length (actions_in s) ≤ room → All ReadFine (actions_in s)
      → (read_steps (read_plan n) n (extra s k) room (going (steps_text s ++ t) l)).state
      ≡ (read_steps (read_plan n) n k (room - length (actions_in s)) (going t (l + step_line_count s))).state
  unfolding steps_text actions_in step_line_count
  steps_part no_step n room l nested few fine = steps_at n room (room - 0) l (l + 0) (omega arith) (omega arith)
  steps_part (action_then a s) n room l nested few fine =
      let rest = steps_text s ++ t in
      let u = going (action_text a ++ rest) (l + 1) in
      ap (λ (v : List ℕ). (read_steps (read_plan n) n (suc (extra s k)) room (going v l)).state) (assoc_two action_step_line (action_text a) (steps_text s) t)
      ∙ ap (λ (x : Read Steps). x.state)
      (steps_action (read_plan n) n (extra s k) room (going (action_step_line ++ (action_text a ++ rest)) l) u (opened_action n room (action_text a ++ rest) l (omega arith)))
      ∙ ap (λ (y : State). (read_steps (read_plan n) n (extra s k) (room - 1) y).state) (action_next_lem a rest (l + 1) fine.0)
      ∙ steps_part s n (room - 1) (l + 1 + action_line_count a) nested (omega arith) fine.1
      ∙ steps_at n (room - 1 - length (actions_in s)) (room - suc (length (actions_in s))) (l + 1 + action_line_count a + step_line_count s) (l + (1 + (action_line_count a + step_line_count s))) (omega arith) (omega arith)
  steps_part (plan_then p s) zero room l nested few fine = absurd nested
  steps_part (plan_then p s) (suc n) room l nested few fine =
      let lengths = length-append (actions_in p) (actions_in s) in
      let rest = steps_text s ++ t in
      let v = form_line plan_form (step_count p) ++ (steps_text p ++ rest) in
      let u = going v (l + 1) in
      let one = plan_next_lem n room p rest (l + 1) nested.0 nested.1 (omega arith) (all_left ReadFine (actions_in p) (actions_in s) fine) in
      ap (λ (w : List ℕ). (read_steps (read_plan (suc n)) (suc n) (suc (extra s k)) room (going w l)).state)
      (assoc_three plan_step_line (form_line plan_form (step_count p)) (steps_text p) (steps_text s) t)
      ∙ ap (λ (x : Read Steps). x.state) (steps_plan (read_plan (suc n)) (suc n) (extra s k) room (going (plan_step_line ++ v) l) u (opened_plan (suc n) room v l (omega arith)))
      ∙ ap (λ (q : Steps). (read_steps (read_plan (suc n)) (suc n) (extra s k) (room - length (actions_in q)) (read_plan (suc n) room u).state).state) one.0
      ∙ ap (λ (y : State). (read_steps (read_plan (suc n)) (suc n) (extra s k) (room - length (actions_in p)) y).state) one.1
      ∙ steps_part s (suc n) (room - length (actions_in p)) (l + 1 + (1 + step_line_count p)) nested.2 (omega arith) (all_right ReadFine (actions_in p) (actions_in s) fine)
      ∙ steps_at (suc n) (room - length (actions_in p) - length (actions_in s)) (room - length (actions_in p ++ actions_in s)) (l + 1 + (1 + step_line_count p) + step_line_count s)
      (l + (1 + ((1 + step_line_count p) + step_line_count s))) (omega arith) (omega arith)

-- a plan text that is open, its actions as they are read
abbrev OpenRead : ℕ → Open → Type 0
OpenRead n (inner k s) = (k ≤ step_limit) × (step_count s < k) × Nested n s × All ReadFine (actions_in s)
OpenRead zero (outer k s o) = ⊥
OpenRead (suc n) (outer k s o) = (k ≤ step_limit) × (step_count s < k) × Nested (suc n) s × All ReadFine (actions_in s) × OpenRead n o

-- a count line, then steps with one more to come
plan_part : (n room k : ℕ) (s : Steps) (t : List ℕ) (l : ℕ) → k ≤ step_limit → step_count s < k → Nested n s → length (actions_in s) ≤ room → All ReadFine (actions_in s)
    → (read_plan (suc n) room (going (form_line plan_form k ++ (steps_text s ++ t)) l)).state
    ≡ (read_steps (read_plan n) n (suc (k - step_count s - 1)) (room - length (actions_in s)) (going t (l + 1 + step_line_count s))).state
plan_part n room k s t l most less nested few fine =
    let u = going (form_line plan_form k ++ (steps_text s ++ t)) l in
    let one = count_next k (steps_text s ++ t) l most in
    let j = suc (k - step_count s - 1) in
    let sum = extra_sum s j in
    let all : k ≡ extra s j = omega arith in
    ap (λ (x : Read Steps). x.state) (plan_counted n room u)
    ∙ ap (λ (i : ℕ). (read_steps (read_plan n) n i room (read_form plan_form u).state).state) (one.0 ∙ all)
    ∙ ap (λ (y : State). (read_steps (read_plan n) n (extra s j) room y).state) one.1
    ∙ steps_part j t s n room (l + 1) nested few fine

pub open_fails : (o : Open) (n room : ℕ) (why : Refusal) (t : List ℕ) (l : ℕ) → OpenRead n o → open_actions o ≤ room
    → ((m : ℕ) → opened (bottom n o) (room - open_actions o) (going t m) ≡ barred (failed why m))
    → (read_plan (suc n) room (going (open_text o t) l)).state ≡ failed why (l + open_lines o)
open_fails (inner k s) n room why t l h few stop =
    plan_part n room k s t l h.0 h.1 h.2 few h.3
    ∙ ap (λ (x : Read Steps). x.state)
    (steps_barred (read_plan n) n (k - step_count s - 1) (room - length (actions_in s)) (going t (l + 1 + step_line_count s)) (failed why (l + 1 + step_line_count s)) (stop (l + 1 + step_line_count s)))
    ∙ ap (failed why) (omega arith)
open_fails (outer k s o) zero room why t l h few stop = absurd h
open_fails (outer k s o) (suc n) room why t l h few stop =
    let j = k - step_count s - 1 in
    let left = room - length (actions_in s) in
    let m = l + 1 + step_line_count s in
    let u = going (open_text o t) (m + 1) in
    let sums : left - open_actions o ≡ room - (length (actions_in s) + open_actions o) = omega arith in
    let ih = open_fails o n left why t (m + 1) h.4 (omega arith)
    (λ i. ap (λ (x : ℕ). opened (bottom n o) x (going t i)) sums ∙ stop i) in
    plan_part (suc n) room k s (plan_step_line ++ open_text o t) l h.0 h.1 h.2 (omega arith) h.3
    ∙ ap (λ (x : Read Steps). x.state) (steps_plan (read_plan (suc n)) (suc n) j left (going (plan_step_line ++ open_text o t) m) u (opened_plan (suc n) left (open_text o t) m (omega arith)))
    ∙ ap (λ (y : State). (read_steps (read_plan (suc n)) (suc n) j (left - length (actions_in (read_plan (suc n) left u).value)) y).state) ih
    ∙ ap (λ (x : Read Steps). x.state)
    (steps_failed (read_plan (suc n)) (suc n) j (left - length (actions_in (read_plan (suc n) left u).value)) why (m + 1 + open_lines o))
    ∙ ap (failed why) (omega arith)

text_fails : (o : Open) (why : Refusal) (t : List ℕ) → OpenRead 7 o → open_actions o ≤ text_action_limit
    → ((m : ℕ) → opened (bottom 7 o) (text_action_limit - open_actions o) (going t m) ≡ barred (failed why m))
    → (plan_of (open_text o t)).state ≡ failed why (1 + open_lines o)
unfolding plan_of
text_fails o why t h few stop = ap closed (open_fails o 7 text_action_limit why t 1 h few stop)

-- an open plan text with zeros past the counts of its actions: the same text, lines, actions and levels, and as it is read
clean_open : Open → Open
clean_open (inner k s) = inner k (clean_steps s)
clean_open (outer k s o) = outer k (clean_steps s) (clean_open o)

clean_open_text : (o : Open) (t : List ℕ) → open_text (clean_open o) t ≡ open_text o t
unfolding clean_open
clean_open_text (inner k s) t = ap (λ (u : List ℕ). form_line plan_form k ++ (u ++ t)) (clean_text s)
clean_open_text (outer k s o) t =
    ap (λ (u : List ℕ). form_line plan_form k ++ (u ++ (plan_step_line ++ open_text (clean_open o) t))) (clean_text s)
    ∙ ap (λ (u : List ℕ). form_line plan_form k ++ (steps_text s ++ (plan_step_line ++ u))) (clean_open_text o t)

clean_lines : (s : Steps) → All (λ a. action_fits a ≡ true) (actions_in s) → All ShapedAction (actions_in s) → step_line_count (clean_steps s) ≡ step_line_count s
unfolding clean_steps actions_in step_line_count
clean_lines no_step h k = refl
clean_lines (action_then a s) h k =
    let same = cleaned_action_same a h.0 k.0 in
    omega (arith, same.used, same.governed, clean_lines s h.1 k.1)
clean_lines (plan_then p s) h k =
    omega (
      arith,
      clean_lines p (all_left (λ a. action_fits a ≡ true) (actions_in p) (actions_in s) h) (all_left ShapedAction (actions_in p) (actions_in s) k),
      clean_lines s (all_right (λ a. action_fits a ≡ true) (actions_in p) (actions_in s) h) (all_right ShapedAction (actions_in p) (actions_in s) k),
    )

clean_open_lines : (o : Open) (n : ℕ) → OpenFits n o → open_lines (clean_open o) ≡ open_lines o
unfolding clean_open
clean_open_lines (inner k s) n h = omega (arith, clean_lines s h.3 h.4)
clean_open_lines (outer k s o) zero h = absurd h
clean_open_lines (outer k s o) (suc n) h = omega (arith, clean_lines s h.3 h.4, clean_open_lines o n h.5)

clean_length : (s : Steps) → length (actions_in (clean_steps s)) ≡ length (actions_in s)
clean_length s = ap length (clean_flat s) ∙ length-map (actions_in s) cleaned_action

clean_open_actions : (o : Open) → open_actions (clean_open o) ≡ open_actions o
unfolding clean_open
clean_open_actions (inner k s) = clean_length s
clean_open_actions (outer k s o) = omega (arith, clean_length s, clean_open_actions o)

clean_bottom : (n : ℕ) (o : Open) → bottom n (clean_open o) ≡ bottom n o
unfolding clean_open
clean_bottom n (inner k s) = refl
clean_bottom zero (outer k s o) = refl
clean_bottom (suc n) (outer k s o) = clean_bottom n o

clean_fine : (s : Steps) → All (λ a. action_fits a ≡ true) (actions_in s) → All ShapedAction (actions_in s) → All ReadFine (actions_in (clean_steps s))
clean_fine s h k = subst (All ReadFine) (sym (clean_flat s)) (all_clean (actions_in s) h k)

clean_open_lem : (o : Open) (n : ℕ) → OpenFits n o → OpenRead n (clean_open o)
unfolding clean_open
clean_open_lem (inner k s) n h = (h.0, subst (λ (j : ℕ). j < k) (sym (clean_count s)) h.1, clean_nested n s h.2, clean_fine s h.3 h.4)
clean_open_lem (outer k s o) zero h = absurd h
clean_open_lem (outer k s o) (suc n) h =
    (h.0, subst (λ (j : ℕ). j < k) (sym (clean_count s)) h.1, clean_nested (suc n) s h.2, clean_fine s h.3 h.4, clean_open_lem o n h.5)

-- the refusal at the line behind the open steps
open_refused : (r : Register) (o : Open) (why : Refusal) (t : List ℕ) → OpenFits 7 o → open_actions o ≤ text_action_limit
    → ((m : ℕ) → opened (bottom 7 o) (text_action_limit - open_actions o) (going t m) ≡ barred (failed why m))
    → plan_text_judged r (open_text o t) ≡ stopped_plan why (1 + open_lines o) 0
open_refused r o why t h few stop =
    let same = clean_open_actions o in
    let stop' : (m : ℕ) → opened (bottom 7 (clean_open o)) (text_action_limit - open_actions (clean_open o)) (going t m) ≡ barred (failed why m) =
    λ m. ap (λ (x : ℕ). opened x (text_action_limit - open_actions (clean_open o)) (going t m)) (clean_bottom 7 o)
    ∙ ap (λ (x : ℕ). opened (bottom 7 o) (text_action_limit - x) (going t m)) same ∙ stop m in
    failed_judged r (open_text o t) why (1 + open_lines o)
    (ap (λ (u : List ℕ). (plan_of u).state) (sym (clean_open_text o t))
    ∙ text_fails (clean_open o) why t (clean_open_lem o 7 h) (omega arith) stop'
    ∙ ap (λ (l : ℕ). failed why (1 + l)) (clean_open_lines o 7 h))

-- a sub-plan that would open level 9
pub deep_refused : (r : Register) (o : Open) (t : List ℕ) → OpenFits 7 o → open_actions o ≤ text_action_limit → bottom 7 o ≡ 0
    → plan_text_judged r (open_text o (plan_step_line ++ t)) ≡ stopped_plan TooDeep (1 + open_lines o) 0
deep_refused r o t h few none_left =
    open_refused r o TooDeep (plan_step_line ++ t) h few
    (λ m. ap (λ (x : ℕ). opened x (text_action_limit - open_actions o) (going (plan_step_line ++ t) m)) none_left ∙ opened_deep (text_action_limit - open_actions o) t m)

-- the 65th action
pub many_refused : (r : Register) (o : Open) (t : List ℕ) → OpenFits 7 o → open_actions o ≡ text_action_limit
    → plan_text_judged r (open_text o (action_step_line ++ t)) ≡ stopped_plan TooManyActions (1 + open_lines o) 0
many_refused r o t h full =
    let gone : text_action_limit - open_actions o ≡ 0 = omega arith in
    open_refused r o TooManyActions (action_step_line ++ t) h (omega arith)
    (λ m. ap (λ (x : ℕ). opened (bottom 7 o) x (going (action_step_line ++ t) m)) gone ∙ opened_many (bottom 7 o) t m)
