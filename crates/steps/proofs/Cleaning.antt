-- Steps with zeros past the counts of their actions: the same steps, with the same text, and what their text reads as. Assumes nothing.
use Rattle.std.proofs.Common.{ℕ, zero, suc, ◌≤◌, ◌≡◌, refl, sym, ap, subst, ◌∙◌, true, List, [], ◌∷◌, ◌++◌, map}
use mathlib.Core.List.{map-append}
use Rattle.lists.specs.Lists.{All}
use Rattle.actions.specs.Actions.{action_fits}
use Rattle.actions.specs.declared.Action.{Action}
use Rattle.lines.specs.Lines.{action_step_line, plan_step_line}
use Rattle.lines.specs.Reading.{form_line}
use Rattle.text_rules.specs.Actions.{ShapedAction, action_text}
use Rattle.text_rules.proofs.ActionTexts.{ReadFine, cleaned_action, cleaned_action_text, cleaned_action_same, cleaned_action_fine}
use Rattle.gate_rules.specs.Plans.{SameActions}
use Rattle.steps.specs.Steps.{Steps, no_step, action_then, plan_then, actions_in, step_count, Nested, step_limit, plan_form, steps_text, plan_text}

unfoldable pub clean_steps : Steps → Steps
clean_steps no_step = no_step
clean_steps (action_then a s) = action_then (cleaned_action a) (clean_steps s)
clean_steps (plan_then p s) = plan_then (clean_steps p) (clean_steps s)

pub clean_count : (s : Steps) → step_count (clean_steps s) ≡ step_count s
unfolding clean_steps step_count
clean_count no_step = refl
clean_count (action_then a s) = ap suc (clean_count s)
clean_count (plan_then p s) = ap suc (clean_count s)

pub clean_text : (s : Steps) → steps_text (clean_steps s) ≡ steps_text s
unfolding clean_steps steps_text
clean_text no_step = refl
clean_text (action_then a s) =
    ap (λ (t : List ℕ). action_step_line ++ (t ++ steps_text (clean_steps s))) (cleaned_action_text a)
    ∙ ap (λ (t : List ℕ). action_step_line ++ (action_text a ++ t)) (clean_text s)
clean_text (plan_then p s) =
    ap (λ (k : ℕ). plan_step_line ++ (form_line plan_form k ++ (steps_text (clean_steps p) ++ steps_text (clean_steps s)))) (clean_count p)
    ∙ ap (λ (t : List ℕ). plan_step_line ++ (form_line plan_form (step_count p) ++ (t ++ steps_text (clean_steps s)))) (clean_text p)
    ∙ ap (λ (t : List ℕ). plan_step_line ++ (form_line plan_form (step_count p) ++ (steps_text p ++ t))) (clean_text s)

pub clean_plan_text : (s : Steps) → plan_text (clean_steps s) ≡ plan_text s
clean_plan_text s =
    ap (λ (k : ℕ). form_line plan_form k ++ steps_text (clean_steps s)) (clean_count s) ∙ ap (λ (t : List ℕ). form_line plan_form (step_count s) ++ t) (clean_text s)

pub clean_flat : (s : Steps) → actions_in (clean_steps s) ≡ map cleaned_action (actions_in s)
unfolding clean_steps actions_in
clean_flat no_step = refl
clean_flat (action_then a s) = ap (λ (l : List Action). cleaned_action a ∷ l) (clean_flat s)
clean_flat (plan_then p s) =
    ap (λ (l : List Action). l ++ actions_in (clean_steps s)) (clean_flat p) ∙ ap (λ (l : List Action). map cleaned_action (actions_in p) ++ l) (clean_flat s)
    ∙ sym (map-append cleaned_action (actions_in p) (actions_in s))

pub clean_nested : (n : ℕ) (s : Steps) → Nested n s → Nested n (clean_steps s)
unfolding clean_steps
clean_nested n no_step h = tt
clean_nested n (action_then a s) h = clean_nested n s h
clean_nested zero (plan_then p s) h = h
clean_nested (suc n) (plan_then p s) h =
    (subst (λ (k : ℕ). k ≤ step_limit) (sym (clean_count p)) h.0, clean_nested n p h.1, clean_nested (suc n) s h.2)

pub all_clean : (l : List Action) → All (λ a. action_fits a ≡ true) l → All ShapedAction l → All ReadFine (map cleaned_action l)
all_clean [] h k = tt
all_clean (a ∷ l) h k = (cleaned_action_fine a h.0 k.0, all_clean l h.1 k.1)

pub clean_same : (l : List Action) → All (λ a. action_fits a ≡ true) l → All ShapedAction l → SameActions (map cleaned_action l) l
clean_same [] h k = tt
clean_same (a ∷ l) h k = (cleaned_action_same a h.0 k.0, clean_same l h.1 k.1)
