-- What is printed of case R of 01, and of small texts that are refused with 1, 3, 19 and 20; and by the JSON program with 2, 19 and 20. Computed.
-- Assumes nothing.
use Rattle.std.proofs.Common.{ℕ, ◌≡◌, refl, List, [], ◌∷◌, map}
use Rattle.lists.specs.Lists.{dropping, same, distinct}
use Rattle.paths.specs.Containment.{components, climbing, trimmed, starting, contained}
use Rattle.rights.specs.Rights.{has_right, has_rights, bars_machine}
use Rattle.register.specs.Chain.{chain, root_granted, circling}
use Rattle.soundness_rules.specs.Sound.{actor_fits, resource_fits, claim_fits, names_stand, root_kept, drawn_from, machine_may, over_chain, drawn, fresh, alone, over, acceptable, sound_claims, each_stored, sound_actors, sound_resources, within_limits, sound}
use Rattle.refusals.specs.Refusals.{outcome_of}
use Rattle.actions.specs.Actions.{action_fits}
use Rattle.gate_rules.specs.Gate.{public_read, contains, covering, covers, is_ownerless, owner_lacks, first_of, flags_set, governed, use_violation, use_violations, violations_of, action_tests, gate_tests, gated}
use Rattle.decimals.specs.Decimals.{digits, digits_with, after, value, canonical, parse, digit_run}
use Rattle.lines.specs.Lines.{begins, ended, parse_limited, at_least, decimal_line, parse_word, path_on, parse_scope}
use Rattle.text_rules.specs.Records.{values, passed, many, texts}
use Rattle.text_rules.specs.Registers.{read_actors, read_resources, read_claims, register_from, register_read}
use Rattle.text_rules.specs.Actions.{read_uses, read_governs, read_action, action_of, action_read}
use Rattle.text_rules.proofs.Cases.{lined, case_text, action_case}
use Rattle.verdict_printing.specs.Printed.{pair_text, list_text, stopped_text, verdict_text, printed, json_printed}

-- 01's action is refused; without its second use it is permitted; with two flags and nothing covered, each violation has its pair
printed_in_R : map (printed case_text) (
    action_case
    ∷ lined "now=1999 actor=2 flags=0 uses=1 use=10 right=0 governs=0"
    ∷ lined "now=1999 actor=2 flags=513 uses=0 governs=2 govern=7 govern=8"
    ∷ [])
    ≡ lined "verdict=refused violations=1 violation=4 at=1"
    ∷ lined "verdict=permitted violations=0"
    ∷ lined "verdict=refused violations=4 violation=1 at=0 violation=1 at=9 violation=3 at=0 violation=3 at=1"
    ∷ []
unfolding printed verdict_text list_text pair_text stopped_text texts decimal_line digits digits_with register_read register_from read_actors read_resources read_claims each_stored action_read action_of read_action read_uses read_governs values passed many parse_limited at_least begins ended parse canonical digit_run after value parse_word parse_scope path_on gated gate_tests action_tests outcome_of action_fits violations_of flags_set dropping is_ownerless governed use_violations use_violation covers covering public_read contains owner_lacks first_of contained climbing components same trimmed starting sound within_limits sound_actors sound_resources sound_claims acceptable alone over fresh drawn over_chain machine_may drawn_from root_kept names_stand claim_fits resource_fits actor_fits distinct chain circling root_granted has_right has_rights bars_machine
printed_in_R = refl

abbrev nobody : List ℕ
nobody = lined "register=1 actors=0 resources=0 claims=0"

-- 1: a human with an owner; 3: an actor that does not stand; 19: nothing at all, in either text; 20: more uses than there may be
printed_stopped :
    (printed (lined "register=1 actors=1 actor=1 kind=human owner=1 resources=0 claims=0") action_case ≡ lined "verdict=stopped refusal=1")
    × (printed nobody action_case ≡ lined "verdict=stopped refusal=3")
    × (printed [] [] ≡ lined "verdict=stopped refusal=19")
    × (printed nobody [] ≡ lined "verdict=stopped refusal=19")
    × (printed nobody (lined "now=0 actor=2 flags=0 uses=33") ≡ lined "verdict=stopped refusal=20")
unfolding printed verdict_text stopped_text decimal_line digits digits_with register_read register_from read_actors read_resources read_claims each_stored action_read action_of read_action read_uses read_governs values passed many parse_limited at_least begins ended parse canonical digit_run after value parse_word parse_scope path_on gated gate_tests action_tests outcome_of action_fits sound within_limits sound_actors sound_resources sound_claims actor_fits resource_fits distinct has_right
printed_stopped = (refl, refl, refl, refl, refl)

-- the first refusal is printed: a register that is refused with 20, whatever is wrong with the action
printed_first : printed (lined "register=1 actors=65") [] ≡ lined "verdict=stopped refusal=20"
unfolding printed stopped_text decimal_line digits digits_with register_read register_from read_actors read_resources read_claims each_stored values passed many parse_limited at_least begins ended parse canonical digit_run after value
printed_first = refl

-- the register, then the clock, before the JSON action: 20 before a clock that is none; 19 of no clock and of a line behind it; 2 of a moment past its
-- limit
json_printed_stopped :
    (json_printed (lined "register=1 actors=65") [] [] ≡ lined "verdict=stopped refusal=20")
    × (json_printed nobody [] [] ≡ lined "verdict=stopped refusal=19")
    × (json_printed nobody (lined "now=0 now=0") [] ≡ lined "verdict=stopped refusal=19")
    × (json_printed nobody (lined "now=4294967296") [] ≡ lined "verdict=stopped refusal=2")
unfolding json_printed stopped_text decimal_line digits digits_with register_read register_from read_actors read_resources read_claims each_stored values passed many parse_limited at_least begins ended parse canonical digit_run after value sound within_limits sound_actors sound_resources sound_claims distinct
json_printed_stopped = (refl, refl, refl, refl)
