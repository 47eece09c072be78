-- The texts of both versions on small values: a register of version 2 is read and written, and what has the wrong version or the
-- wrong left is refused at its line. Computed. Assumes nothing.
use Rattle.std.proofs.Common.{Ok, ℕ, ◌≡◌, refl, List, [], ◌∷◌, ◌++◌, map, replicate}
use Rattle.lists.specs.Lists.{distinct}
use Rattle.register.specs.Chain.{chain, root_granted, circling}
use Rattle.register.specs.declared.Register.{Register}
use Rattle.rights.specs.Rights.{has_right, has_rights, bars_machine}
use Rattle.soundness_rules.specs.Sound.{actor_fits, resource_fits, claim_fits, names_stand, root_kept, drawn_from, machine_may, over_chain, drawn, fresh, alone, over, acceptable, sound_claims, sound_actors, sound_resources, within_limits, sound, each_stored}
use Rattle.refusals.specs.declared.Refusal.TheVariants.{Unsound, Form}
use Rattle.decimals.specs.Decimals.{digits, digits_with, after, value, canonical, parse, digit_run}
use Rattle.lines.specs.Lines.{begins, ended, parse_limited, at_least, decimal_line, parse_word, word_line, path_on, parse_scope, scope_line}
use Rattle.text_rules.specs.Records.{values, passed, lines_text, many, texts}
use Rattle.text_rules.specs.Registers.{read_actors, read_resources, read_claims, register_from, register_text, register_read}
use Rattle.register.specs.Register.{no_claim}
use Rattle.text_rules.proofs.Cases.{lined, unended, claim, case_r, refused_at}

-- case R of 01 as version 2 writes it
abbrev case_two : Register
case_two = record {
  actors = case_r.actors;
  resources = case_r.resources;
  claims = record { list = claim 1 0 1 1 10 19 1000 9 0 ∷ claim 2 1 1 2 10 1 600 0 2000 ∷ replicate 254 no_claim; count = 2 };
  version = 2;
}

abbrev text_two : List ℕ
text_two = lined "register=2 actors=2 actor=1 kind=human owner=0 actor=2 kind=machine owner=1 resources=1 resource=10 public=0 keeper=1 scope=site/a claims=2 claim=1 parent=0 grantor=1 holder=1 resource=10 rights=19 weight=1000 left=9 expiry=0 claim=2 parent=1 grantor=1 holder=2 resource=10 rights=1 weight=600 left=0 expiry=2000"

two_read : register_read text_two ≡ record { register = case_two; outcome = Ok tt; line = 0 }
unfolding register_read register_from read_actors read_resources read_claims values passed many parse_limited at_least begins ended parse canonical digit_run after value parse_word parse_scope path_on sound within_limits sound_actors sound_resources sound_claims acceptable alone over fresh drawn over_chain machine_may drawn_from root_kept names_stand claim_fits resource_fits actor_fits each_stored distinct chain circling root_granted has_right has_rights bars_machine
two_read = refl

two_written : register_text case_two ≡ text_two
unfolding register_text lines_text texts decimal_line word_line scope_line digits digits_with
two_written = refl

-- what stands in the first line of an empty register
abbrev headed : List ℕ → List ℕ
headed line = line ++ lined " actors=0 resources=0 claims=0"

-- versions: 1 and 2, and no other; none is a leading zero's, and without LF it is no line
versions_read : map (λ line. (register_read (headed line)).outcome) (unended "register=1" ∷ unended "register=2" ∷ []) ≡ (Ok tt) ∷ (Ok tt) ∷ []
unfolding register_read register_from read_actors read_resources read_claims values passed many parse_limited at_least begins ended parse canonical digit_run after value parse_word parse_scope path_on sound within_limits sound_actors sound_resources sound_claims acceptable alone over fresh drawn over_chain machine_may drawn_from root_kept names_stand claim_fits resource_fits actor_fits each_stored distinct chain circling root_granted has_right has_rights bars_machine
versions_read = refl

versions_refused : map register_read (
    headed (unended "register=0")
    ∷ headed (unended "register=3")
    ∷ headed (unended "register=02")
    ∷ headed (unended "register=12")
    ∷ headed (unended "register=")
    ∷ unended "register=2"
    ∷ [])
    ≡ replicate 6 (refused_at Form 1)
unfolding register_read register_from read_actors read_resources read_claims values passed many parse_limited at_least begins ended parse canonical digit_run after value parse_word parse_scope path_on sound within_limits sound_actors sound_resources sound_claims acceptable alone over fresh drawn over_chain machine_may drawn_from root_kept names_stand claim_fits resource_fits actor_fits each_stored distinct chain circling root_granted has_right has_rights bars_machine
versions_refused = refl

-- a root of version 1 and of version 2 with these lines behind its weight
abbrev ending : List ℕ → List ℕ → List ℕ
ending version lines =
    version ++ (unended " actors=1 actor=1 kind=human owner=0 resources=1 resource=10 public=0 keeper=1 scope=a claims=1 claim=1 parent=0 grantor=1 holder=1 resource=10 rights=19 weight=1000 " ++ lines)

-- `left` in version 2 alone, from 0 to 16, between `weight` and `expiry`
left_read : map (λ t. (register_read t).outcome) (
    ending (unended "register=1") (lined "expiry=0")
    ∷ ending (unended "register=2") (lined "left=0 expiry=0")
    ∷ ending (unended "register=2") (lined "left=16 expiry=0")
    ∷ [])
    ≡ replicate 3 (Ok tt)
unfolding register_read register_from read_actors read_resources read_claims values passed many parse_limited at_least begins ended parse canonical digit_run after value parse_word parse_scope path_on sound within_limits sound_actors sound_resources sound_claims acceptable alone over fresh drawn over_chain machine_may drawn_from root_kept names_stand claim_fits resource_fits actor_fits each_stored distinct chain circling root_granted has_right has_rights bars_machine
left_read = refl

left_refused : map register_read (
    ending (unended "register=1") (lined "left=16 expiry=0")
    ∷ ending (unended "register=2") (lined "expiry=0")
    ∷ ending (unended "register=2") (lined "left=17 expiry=0")
    ∷ ending (unended "register=2") (lined "left=016 expiry=0")
    ∷ ending (unended "register=2") (lined "left= expiry=0")
    ∷ ending (unended "register=2") (lined "expiry=0 left=16")
    ∷ [])
    ≡ replicate 6 (refused_at Form 19)
unfolding register_read register_from read_actors read_resources read_claims values passed many parse_limited at_least begins ended parse canonical digit_run after value parse_word parse_scope path_on sound within_limits sound_actors sound_resources sound_claims acceptable alone over fresh drawn over_chain machine_may drawn_from root_kept names_stand claim_fits resource_fits actor_fits each_stored distinct chain circling root_granted has_right has_rights bars_machine
left_refused = refl

-- a left that is not below the parent's makes the register unsound
left_unsound : register_read (lined "register=2 actors=2 actor=1 kind=human owner=0 actor=2 kind=machine owner=1 resources=1 resource=10 public=0 keeper=1 scope=site/a claims=2 claim=1 parent=0 grantor=1 holder=1 resource=10 rights=19 weight=1000 left=9 expiry=0 claim=2 parent=1 grantor=1 holder=2 resource=10 rights=1 weight=600 left=9 expiry=2000")
    ≡ refused_at Unsound 0
unfolding register_read register_from read_actors read_resources read_claims values passed many parse_limited at_least begins ended parse canonical digit_run after value parse_word parse_scope path_on sound within_limits sound_actors sound_resources sound_claims acceptable alone over fresh drawn over_chain machine_may drawn_from root_kept names_stand claim_fits resource_fits actor_fits each_stored distinct chain circling root_granted has_right has_rights bars_machine
left_unsound = refl
