-- Steps that are the same have one text, and steps with one text are the same. Assumes nothing.
use Rattle.std.proofs.Common.{ℕ, suc, ◌≡◌, refl, sym, ap, subst, ◌∙◌, true, List, ◌++◌}
use Rattle.lists.specs.Lists.{All}
use Rattle.actions.specs.Actions.{action_fits}
use Rattle.lines.specs.Lines.{action_step_line, plan_step_line}
use Rattle.lines.specs.Reading.{form_line}
use Rattle.text_rules.specs.Actions.{ShapedAction, action_text}
use Rattle.text_rules.proofs.ActionTexts.{cleaned_action_same, same_action_sym, same_action_trans, same_action_text}
use Rattle.steps.specs.Steps.{Steps, no_step, action_then, plan_then, actions_in, step_count, plan_form, steps_text, plan_text, SameSteps, PlanFits}
use Rattle.steps.specs.Nesting.{plan_of}
use Rattle.steps.proofs.Reading.{all_left, all_right}
use Rattle.steps.proofs.Cleaning.{clean_steps}
use Rattle.steps.proofs.Judged.{written_plan}

same_steps_sym : (s q : Steps) → SameSteps s q → SameSteps q s
same_steps_sym no_step no_step h = tt
same_steps_sym no_step (action_then b q) h = h
same_steps_sym no_step (plan_then p q) h = h
same_steps_sym (action_then a s) no_step h = h
same_steps_sym (action_then a s) (action_then b q) h = (same_action_sym a b h.0, same_steps_sym s q h.1)
same_steps_sym (action_then a s) (plan_then p q) h = h
same_steps_sym (plan_then o s) no_step h = h
same_steps_sym (plan_then o s) (action_then b q) h = h
same_steps_sym (plan_then o s) (plan_then p q) h = (same_steps_sym o p h.0, same_steps_sym s q h.1)

same_steps_trans : (s q u : Steps) → SameSteps s q → SameSteps q u → SameSteps s u
same_steps_trans no_step no_step u h k = k
same_steps_trans no_step (action_then b q) u h k = absurd h
same_steps_trans no_step (plan_then p q) u h k = absurd h
same_steps_trans (action_then a s) no_step u h k = absurd h
same_steps_trans (action_then a s) (plan_then p q) u h k = absurd h
same_steps_trans (action_then a s) (action_then b q) no_step h k = k
same_steps_trans (action_then a s) (action_then b q) (plan_then p u) h k = k
same_steps_trans (action_then a s) (action_then b q) (action_then c u) h k = (same_action_trans a b c h.0 k.0, same_steps_trans s q u h.1 k.1)
same_steps_trans (plan_then o s) no_step u h k = absurd h
same_steps_trans (plan_then o s) (action_then b q) u h k = absurd h
same_steps_trans (plan_then o s) (plan_then p q) no_step h k = k
same_steps_trans (plan_then o s) (plan_then p q) (action_then c u) h k = k
same_steps_trans (plan_then o s) (plan_then p q) (plan_then i u) h k = (same_steps_trans o p i h.0 k.0, same_steps_trans s q u h.1 k.1)

clean_steps_same : (s : Steps) → All (λ a. action_fits a ≡ true) (actions_in s) → All ShapedAction (actions_in s) → SameSteps (clean_steps s) s
unfolding clean_steps actions_in
clean_steps_same no_step h k = tt
clean_steps_same (action_then a s) h k = (cleaned_action_same a h.0 k.0, clean_steps_same s h.1 k.1)
clean_steps_same (plan_then p s) h k = (
  clean_steps_same p (all_left (λ a. action_fits a ≡ true) (actions_in p) (actions_in s) h) (all_left ShapedAction (actions_in p) (actions_in s) k),
  clean_steps_same s (all_right (λ a. action_fits a ≡ true) (actions_in p) (actions_in s) h) (all_right ShapedAction (actions_in p) (actions_in s) k),
)

-- reading what was written gives the same steps
pub plan_read_written : (s : Steps) → PlanFits s → SameSteps (plan_of (plan_text s)).value s
plan_read_written s h =
    subst (λ (x : Steps). SameSteps x s) (sym (written_plan s h).value) (clean_steps_same s h.fine h.shaped)

pub plan_one_text : (s q : Steps) → PlanFits s → PlanFits q → plan_text s ≡ plan_text q → SameSteps s q
plan_one_text s q h k e =
    same_steps_trans s (plan_of (plan_text q)).value q
    (subst (λ (t : List ℕ). SameSteps s (plan_of t).value) e (same_steps_sym (plan_of (plan_text s)).value s (plan_read_written s h)))
    (plan_read_written q k)

same_count : (s q : Steps) → SameSteps s q → step_count s ≡ step_count q
unfolding step_count
same_count no_step no_step h = refl
same_count no_step (action_then b q) h = absurd h
same_count no_step (plan_then p q) h = absurd h
same_count (action_then a s) no_step h = absurd h
same_count (action_then a s) (action_then b q) h = ap suc (same_count s q h.1)
same_count (action_then a s) (plan_then p q) h = absurd h
same_count (plan_then o s) no_step h = absurd h
same_count (plan_then o s) (action_then b q) h = absurd h
same_count (plan_then o s) (plan_then p q) h = ap suc (same_count s q h.1)

same_text : (s q : Steps) → SameSteps s q → steps_text s ≡ steps_text q
unfolding steps_text
same_text no_step no_step h = refl
same_text no_step (action_then b q) h = absurd h
same_text no_step (plan_then p q) h = absurd h
same_text (action_then a s) no_step h = absurd h
same_text (action_then a s) (action_then b q) h =
    ap (λ (t : List ℕ). action_step_line ++ (t ++ steps_text s)) (same_action_text a b h.0) ∙ ap (λ (t : List ℕ). action_step_line ++ (action_text b ++ t)) (same_text s q h.1)
same_text (action_then a s) (plan_then p q) h = absurd h
same_text (plan_then o s) no_step h = absurd h
same_text (plan_then o s) (action_then b q) h = absurd h
same_text (plan_then o s) (plan_then p q) h =
    ap (λ (k : ℕ). plan_step_line ++ (form_line plan_form k ++ (steps_text o ++ steps_text s))) (same_count o p h.0)
    ∙ ap (λ (t : List ℕ). plan_step_line ++ (form_line plan_form (step_count p) ++ (t ++ steps_text s))) (same_text o p h.0)
    ∙ ap (λ (t : List ℕ). plan_step_line ++ (form_line plan_form (step_count p) ++ (steps_text p ++ t))) (same_text s q h.1)

pub one_plan_text : (s q : Steps) → SameSteps s q → plan_text s ≡ plan_text q
one_plan_text s q h =
    ap (λ (k : ℕ). form_line plan_form k ++ steps_text s) (same_count s q h) ∙ ap (λ (t : List ℕ). form_line plan_form (step_count q) ++ t) (same_text s q h)
