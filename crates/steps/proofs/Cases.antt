-- Plan texts read and answered on small and on full ones: counts, levels, room for actions, order, and the text before the register. All by computing.
-- Assumes nothing.
use Rattle.std.proofs.Common.{◌≡◌, refl, false, cond, List, [], ◌∷◌, ◌++◌, map, ℕ, zero, suc, eqb}
use Prim.Native.Char.{code}
use Prim.Native.String.{String, [] as end, ◌∷◌ as ◌then◌}
use Rattle.register.specs.declared.Register.{Register}
use Rattle.soundness_rules.specs.Sound.{sound}
use Rattle.refusals.specs.declared.Refusal.TheVariants.{Unsound, Form, Count, TooDeep, TooManyActions}
use Rattle.decimals.specs.Decimals.{after, value, canonical, parse, digit_run}
use Rattle.lines.specs.Lines.{begins, ended, parse_limited, at_least, parse_word}
use Rattle.lines.specs.Reading.{going, failed}
use Rattle.text_rules.specs.Records.{values, passed, many}
use Rattle.text_rules.specs.Actions.{read_uses, read_governs, read_action}
use Rattle.steps.specs.Steps.{no_step, actions_in}
use Rattle.steps.specs.Nesting.{opened, step_followed, read_steps, read_plan, plan_of}
use Rattle.steps.specs.Judging.{stopped_plan, halt_under, flat_judged, plan_text_judged}

-- the bytes of lines, split by spaces, each with its LF
abbrev lined : String → List ℕ
lined end = 10 ∷ []
lined (c then s) = cond (eqb (code c) 32) 10 (code c) ∷ lined s

-- a text so many times
abbrev times : ℕ → List ℕ → List ℕ
times zero t = []
times (suc n) t = t ++ times n t

-- an empty plan; 64 steps are a count, 65 are too many at line 1, whatever the register; without LF, with a zero in front, and with a second plan
-- behind it there is no plan
plan_none : plan_of (lined "plan=0") ≡ record { value = no_step; state = going [] 2 }
unfolding plan_of read_plan read_steps parse_limited at_least begins ended parse canonical digit_run after value
plan_none = refl

plan_counts :
    ((plan_of (lined "plan=64")).state ≡ failed Form 2)
    × ((plan_of (lined "plan=65")).state ≡ failed Count 1)
    × ((plan_of (lined "plan=00")).state ≡ failed Form 1)
    × ((plan_of (lined "plan=0 plan=0")).state ≡ failed Form 2)
unfolding plan_of read_plan read_steps opened step_followed parse_limited at_least begins ended parse canonical digit_run after value parse_word
plan_counts = (refl, refl, refl, refl)

-- the text comes before the register, and the register before the actions
count_before_register : (r : Register) → plan_text_judged r (lined "plan=65") ≡ stopped_plan Count 1 0
unfolding plan_text_judged plan_of read_plan read_steps opened step_followed parse_limited at_least begins ended parse canonical digit_run after value parse_word
count_before_register r = refl

unsound_told : (r : Register) → sound r ≡ false → plan_text_judged r (lined "plan=0") ≡ stopped_plan Unsound 0 0
unfolding plan_text_judged plan_of read_plan read_steps flat_judged halt_under parse_limited at_least begins ended parse canonical digit_run after value
unsound_told r unsound = rw unsound

-- level 8 may hold an empty plan, and none that opens level 9
level_eight : (plan_of (times 7 (lined "plan=1 step=plan") ++ lined "plan=0")).state ≡ going [] 16
unfolding plan_of read_plan read_steps opened step_followed parse_limited at_least begins ended parse canonical digit_run after value parse_word
level_eight = refl

level_nine : (plan_of (times 8 (lined "plan=1 step=plan") ++ lined "plan=0")).state ≡ failed TooDeep 16
unfolding plan_of read_plan read_steps opened step_followed parse_limited at_least begins ended parse canonical digit_run after value parse_word
level_nine = refl

-- an action with nothing in it, in 6 lines with its step's
abbrev step : List ℕ
step = lined "step=action now=0 actor=0 flags=0 uses=0 governs=0"

-- a sub-plan's actions come where it stands
reading_order : map (λ a. a.now) (actions_in (plan_of (lined "plan=2 step=plan plan=1 step=action now=1 actor=0 flags=0 uses=0 governs=0" ++
    lined "step=action now=2 actor=0 flags=0 uses=0 governs=0")).value) ≡ 1 ∷ 2 ∷ []
unfolding plan_of read_plan read_steps opened step_followed actions_in read_action read_uses read_governs values passed many parse_limited at_least begins ended parse canonical digit_run after value parse_word
reading_order = refl

-- 64 actions in a sub-plan, and the 65th behind it, at line 388; an empty plan may follow them
action_sixty_five : (plan_of (lined "plan=2 step=plan plan=64" ++ (times 64 step ++ lined "step=action"))).state ≡ failed TooManyActions 388
unfolding plan_of read_plan read_steps opened step_followed actions_in read_action read_uses read_governs values passed many parse_limited at_least begins ended parse canonical digit_run after value parse_word
action_sixty_five = refl

plan_behind_all : (plan_of (lined "plan=2 step=plan plan=64" ++ (times 64 step ++ lined "step=plan plan=0"))).state ≡ going [] 390
unfolding plan_of read_plan read_steps opened step_followed actions_in read_action read_uses read_governs values passed many parse_limited at_least begins ended parse canonical digit_run after value parse_word
plan_behind_all = refl
