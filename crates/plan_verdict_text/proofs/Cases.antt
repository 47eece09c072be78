-- What is printed of plan texts by the register of case R of 01 and by small ones: judged, and refused with 1, 3, 19, 20 and 22. Computed. Assumes nothing.
use Rattle.std.proofs.Common.{ℕ, ◌≡◌, refl, List, []}
use Rattle.lists.specs.Lists.{dropping, same, distinct}
use Rattle.paths.specs.Containment.{components, climbing, trimmed, starting, contained}
use Rattle.rights.specs.Rights.{has_right, has_rights, bars_machine}
use Rattle.register.specs.Chain.{chain, root_granted, circling}
use Rattle.soundness_rules.specs.Sound.{actor_fits, resource_fits, claim_fits, names_stand, root_kept, drawn_from, machine_may, over_chain, drawn, fresh, alone, over, acceptable, sound_claims, each_stored, sound_actors, sound_resources, within_limits, sound}
use Rattle.refusals.specs.Refusals.{outcome_of}
use Rattle.actions.specs.Actions.{action_fits}
use Rattle.gate_rules.specs.Gate.{public_read, contains, covering, covers, is_ownerless, owner_lacks, first_of, flags_set, governed, use_violation, use_violations, violations_of, action_tests}
use Rattle.gate_rules.specs.Plans.{judgements, first_halt}
use Rattle.decimals.specs.Decimals.{digits, digits_with, after, value, canonical, parse, digit_run}
use Rattle.lines.specs.Lines.{begins, ended, parse_limited, at_least, decimal_line, parse_word, path_on, parse_scope}
use Rattle.text_rules.specs.Records.{values, passed, many, texts}
use Rattle.text_rules.specs.Registers.{read_actors, read_resources, read_claims, register_from, register_read}
use Rattle.text_rules.specs.Actions.{read_uses, read_governs, read_action}
use Rattle.text_rules.proofs.Cases.{lined, case_text}
use Rattle.steps.specs.Steps.{actions_in}
use Rattle.steps.specs.Nesting.{opened, step_followed, read_steps, read_plan, plan_of}
use Rattle.steps.specs.Judging.{halt_under, flat_judged, plan_text_judged}
use Rattle.plan_verdict_text.specs.PlanPrinted.{verdicts_text, plan_stopped_text, place_text, plan_answer_text, plan_printed}

-- an action that is permitted, one with two flags that machine 2 may not do, both in a sub-plan, and one behind it that the flags cancel
plan_printed_in_R : plan_printed case_text (
    lined "plan=2 step=plan plan=2 step=action now=1999 actor=2 flags=0 uses=1 use=10 right=0 governs=0 step=action now=1999 actor=2 flags=513 uses=0 governs=2 govern=7 govern=8 step=action now=1999 actor=2 flags=0 uses=0 governs=0")
    ≡ lined "plan=judged verdicts=3 verdict=permitted verdict=refused violations=4 verdict=cancelled"
unfolding plan_printed plan_answer_text verdicts_text texts decimal_line digits digits_with register_read register_from read_actors read_resources read_claims each_stored read_action read_uses read_governs values passed many parse_limited at_least begins ended parse canonical digit_run after value parse_word parse_scope path_on plan_text_judged flat_judged halt_under first_halt judgements plan_of read_plan read_steps opened step_followed actions_in action_tests outcome_of action_fits violations_of flags_set dropping is_ownerless governed use_violations use_violation covers covering public_read contains owner_lacks first_of contained climbing components same trimmed starting sound within_limits sound_actors sound_resources sound_claims acceptable alone over fresh drawn over_chain machine_may drawn_from root_kept names_stand claim_fits resource_fits actor_fits distinct chain circling root_granted has_right has_rights bars_machine
plan_printed_in_R = refl

abbrev nobody : List ℕ
nobody = lined "register=1 actors=0 resources=0 claims=0"

-- the register first: 19, 20 and 1 of it name no line, whatever is wrong with the plan
plan_printed_register :
    (plan_printed [] [] ≡ lined "plan=stopped refusal=19")
    × (plan_printed (lined "register=1 actors=65") [] ≡ lined "plan=stopped refusal=20")
    × (plan_printed (lined "register=1 actors=1 actor=1 kind=human owner=1 resources=0 claims=0") (lined "plan=65") ≡ lined "plan=stopped refusal=1")
unfolding plan_printed plan_stopped_text decimal_line digits digits_with register_read register_from read_actors read_resources read_claims each_stored values passed many parse_limited at_least begins ended parse canonical digit_run after value parse_word sound within_limits sound_actors actor_fits distinct
plan_printed_register = (refl, refl, refl)

-- then the plan: no verdicts of no actions; 19, 20 and 22 at their lines; 3 at its position
plan_printed_stopped :
    (plan_printed nobody (lined "plan=0") ≡ lined "plan=judged verdicts=0")
    × (plan_printed nobody [] ≡ lined "plan=stopped refusal=19 line=1")
    × (plan_printed nobody (lined "plan=65") ≡ lined "plan=stopped refusal=20 line=1")
    × (plan_printed nobody (lined "plan=1 step=plan plan=1 step=plan plan=1 step=plan plan=1 step=plan plan=1 step=plan plan=1 step=plan plan=1 step=plan plan=1 step=plan plan=0")
    ≡ lined "plan=stopped refusal=22 line=16")
    × (plan_printed nobody (lined "plan=1 step=action now=0 actor=2 flags=0 uses=0 governs=0") ≡ lined "plan=stopped refusal=3 position=0")
unfolding plan_printed plan_answer_text verdicts_text plan_stopped_text place_text texts decimal_line digits digits_with register_read register_from read_actors read_resources read_claims each_stored read_action read_uses read_governs values passed many parse_limited at_least begins ended parse canonical digit_run after value parse_word plan_text_judged flat_judged halt_under first_halt judgements plan_of read_plan read_steps opened step_followed actions_in action_tests outcome_of action_fits sound within_limits sound_actors sound_resources sound_claims distinct has_right
plan_printed_stopped = (refl, refl, refl, refl, refl)
