-- The texts on small values: case R of 01 is read and written, as a register and as an action, and damaged texts are refused with their
-- number at their line. Computed. Assumes nothing.
use Rattle.std.proofs.Common.{Err, Ok, ℕ, ◌≡◌, refl, cond, List, [], ◌∷◌, ◌++◌, map, eqb, replicate}
use Prim.Native.Char.{code}
use Prim.Native.String.{String, [] as end, ◌∷◌ as ◌then◌}
use Rattle.lists.specs.Lists.{distinct}
use Rattle.register.specs.Register.{no_actor, no_resource, no_claim, empty_register}
use Rattle.register.specs.Chain.{chain, root_granted, circling}
use Rattle.register.specs.declared.Actor.{Actor}
use Rattle.register.specs.declared.Resource.{Resource}
use Rattle.register.specs.declared.Claim.{Claim}
use Rattle.register.specs.declared.Register.{Register}
use Rattle.rights.specs.Rights.{has_right, has_rights, bars_machine}
use Rattle.soundness_rules.specs.Sound.{actor_fits, resource_fits, claim_fits, names_stand, root_kept, drawn_from, machine_may, over_chain, drawn, fresh, alone, over, acceptable, sound_claims, sound_actors, sound_resources, within_limits, sound, each_stored}
use Rattle.actions.specs.declared.Usage.{Usage}
use Rattle.actions.specs.declared.Action.{Action}
use Rattle.refusals.specs.declared.Refusal.{Refusal}
use Rattle.refusals.specs.declared.Refusal.TheVariants.{Unsound, Form, Count}
use Rattle.decimals.specs.Decimals.{digits, digits_with, after, value, canonical, parse, digit_run}
use Rattle.lines.specs.Lines.{begins, ended, parse_limited, at_least, decimal_line, parse_word, word_line, path_on, parse_scope, scope_line}
use Rattle.text_rules.specs.FirstLines.{first_lines}
use Rattle.text_rules.specs.Records.{values, passed, lines_text, many, texts}
use Rattle.text_rules.specs.Registers.{read_actors, read_resources, read_claims, register_from, register_text, register_read}
use Rattle.actions.specs.Actions.{no_use, no_action}
use Rattle.text_rules.specs.Actions.{read_uses, read_governs, read_action, action_of, action_text, action_read}
use Rattle.text_rules.specs.declared.RegisterRead.{RegisterRead}
use Rattle.text_rules.specs.declared.ActionRead.{ActionRead}

-- the bytes of a text written as 01 writes it: one line per item, split by spaces; and as it stands, with no LF at its end
abbrev pub lined : String → List ℕ
lined end = 10 ∷ []
lined (c then s) = cond (eqb (code c) 32) 10 (code c) ∷ lined s

abbrev pub unended : String → List ℕ
unended end = []
unended (c then s) = cond (eqb (code c) 32) 10 (code c) ∷ unended s

-- case R of 01
abbrev actor : ℕ → ℕ → ℕ → Actor
actor id kind owner = record { id = id; kind = kind; owner = owner }

abbrev pub claim : ℕ → ℕ → ℕ → ℕ → ℕ → ℕ → ℕ → ℕ → ℕ → Claim
claim id parent grantor holder resource rights weight left expiry =
    record { id = id; parent = parent; grantor = grantor; holder = holder; resource = resource; rights = rights; weight = weight; left = left; expiry = expiry }

abbrev site : Resource
site = record { id = 10; public = 0; keeper = 1; len = 6; path = 115 ∷ 105 ∷ 116 ∷ 101 ∷ 47 ∷ 97 ∷ replicate 58 0 }

-- its claims hold 16 less their hops as left, which the text does not tell
abbrev pub case_r : Register
case_r = record {
  actors = record { list = actor 1 1 0 ∷ actor 2 2 1 ∷ replicate 62 no_actor; count = 2 };
  resources = record { list = site ∷ replicate 63 no_resource; count = 1 };
  claims = record { list = claim 1 0 1 1 10 19 1000 16 0 ∷ claim 2 1 1 2 10 1 600 15 2000 ∷ replicate 254 no_claim; count = 2 };
  version = 1;
}

abbrev pub case_text : List ℕ
case_text = lined "register=1 actors=2 actor=1 kind=human owner=0 actor=2 kind=machine owner=1 resources=1 resource=10 public=0 keeper=1 scope=site/a claims=2 claim=1 parent=0 grantor=1 holder=1 resource=10 rights=19 weight=1000 expiry=0 claim=2 parent=1 grantor=1 holder=2 resource=10 rights=1 weight=600 expiry=2000"

register_case_read : register_read case_text ≡ record { register = case_r; outcome = Ok tt; line = 0 }
unfolding register_read register_from read_actors read_resources read_claims values passed many parse_limited at_least begins ended parse canonical digit_run after value parse_word parse_scope path_on sound within_limits sound_actors sound_resources sound_claims acceptable alone over fresh drawn over_chain machine_may drawn_from root_kept names_stand claim_fits resource_fits actor_fits each_stored distinct chain circling root_granted has_right has_rights bars_machine
register_case_read = refl

register_case_written : register_text case_r ≡ case_text
unfolding register_text lines_text texts decimal_line word_line scope_line digits digits_with
register_case_written = refl

-- a reading refused for a reason at a line
abbrev pub refused_at : Refusal → ℕ → RegisterRead
refused_at why l = record { register = empty_register; outcome = Err why; line = l }

-- the first failing line decides between 19 and 20
register_case_refused : map register_read (
    -- nothing, another version, and a text that ends before its lines do
    []
    ∷ lined "register=3 actors=0 resources=0 claims=0"
    ∷ lined "register=1 actors=0 resources=0"
    -- a count above its limit, of any length; without LF it is no line, and with a leading zero no decimal
    ∷ lined "register=1 actors=65"
    ∷ unended "register=1 actors=65"
    ∷ lined "register=1 actors=99999999999999999999"
    ∷ lined "register=1 actors=065"
    -- a number with a leading zero, one above its range, another kind, one below its range, a path of 65 bytes
    ∷ lined "register=1 actors=1 actor=01 kind=human owner=0 resources=0 claims=0"
    ∷ lined "register=1 actors=1 actor=1 kind=human owner=65536 resources=0 claims=0"
    ∷ lined "register=1 actors=1 actor=1 kind=humane owner=0 resources=0 claims=0"
    ∷ lined "register=1 actors=2 actor=1 kind=human owner=0 actor=2 kind=machine owner=1 resources=1 resource=10 public=0 keeper=0 scope=site/a claims=0"
    ∷ (unended "register=1 actors=0 resources=1 resource=10 public=0 keeper=1 scope=" ++ (replicate 65 97 ++ lined " claims=0"))
    -- trailing bytes, a count line among them
    ∷ (case_text ++ (10 ∷ []))
    ∷ (case_text ++ lined "claims=999")
    ∷ [])
    ≡ (refused_at Form 1 ∷ refused_at Form 1 ∷ refused_at Form 4
    ∷ refused_at Count 2 ∷ refused_at Form 2 ∷ refused_at Count 2 ∷ refused_at Form 2
    ∷ refused_at Form 3 ∷ refused_at Form 5 ∷ refused_at Form 4 ∷ refused_at Form 12 ∷ refused_at Form 7
    ∷ refused_at Form 31 ∷ refused_at Form 31 ∷ [])
unfolding register_read register_from read_actors read_resources read_claims values passed many parse_limited at_least begins ended parse canonical digit_run after value parse_word parse_scope path_on sound within_limits sound_actors sound_resources sound_claims acceptable alone over fresh drawn over_chain machine_may drawn_from root_kept names_stand claim_fits resource_fits actor_fits each_stored distinct chain circling root_granted has_right has_rights bars_machine
register_case_refused = refl

-- soundness comes last, with line 0: a human's owner is 0, and a keeper stands
register_case_unsound : map register_read (
    lined "register=1 actors=2 actor=1 kind=human owner=1 actor=2 kind=machine owner=1 resources=0 claims=0"
    ∷ lined "register=1 actors=1 actor=1 kind=human owner=0 resources=1 resource=10 public=0 keeper=9 scope=site/a claims=0"
    ∷ [])
    ≡ (refused_at Unsound 0 ∷ refused_at Unsound 0 ∷ [])
unfolding register_read register_from read_actors read_resources read_claims values passed many parse_limited at_least begins ended parse canonical digit_run after value parse_word parse_scope path_on sound within_limits sound_actors sound_resources sound_claims acceptable alone over fresh drawn over_chain machine_may drawn_from root_kept names_stand claim_fits resource_fits actor_fits each_stored distinct chain circling root_granted has_right has_rights bars_machine
register_case_unsound = refl

-- the action of case R
abbrev usage : ℕ → ℕ → Usage
usage resource right = record { resource = resource; right = right }

abbrev action_r : Action
action_r = record {
  actor = 2;
  flags = 0;
  now = 1999;
  uses = usage 10 0 ∷ usage 10 1 ∷ replicate 30 no_use;
  used = 2;
  governs = replicate 8 0;
  governed = 0;
}

abbrev pub action_case : List ℕ
action_case = lined "now=1999 actor=2 flags=0 uses=2 use=10 right=0 use=10 right=1 governs=0"

action_case_read : action_read action_case ≡ record { action = action_r; outcome = Ok tt; line = 0 }
unfolding action_read action_of read_action read_uses read_governs values passed many parse_limited at_least begins ended parse canonical digit_run after value
action_case_read = refl

action_case_written : action_text action_r ≡ action_case
unfolding action_text lines_text texts decimal_line digits digits_with
action_case_written = refl

abbrev action_refused_at : Refusal → ℕ → ActionRead
action_refused_at why l = record { action = no_action; outcome = Err why; line = l }

-- the numbers out of their ranges, the counts above their limits, an entry that is not there, a trailing byte
action_case_refused : map action_read (
    lined "now=4294967296 actor=2 flags=0 uses=0 governs=0"
    ∷ lined "now=0 actor=65536 flags=0 uses=0 governs=0"
    ∷ lined "now=0 actor=2 flags=1024 uses=0 governs=0"
    ∷ lined "now=0 actor=2 flags=0 uses=33"
    ∷ lined "now=0 actor=2 flags=0 uses=1 use=10 right=17 governs=0"
    ∷ lined "now=0 actor=2 flags=0 uses=0 governs=9"
    ∷ lined "now=0 actor=2 flags=0 uses=0 governs=1"
    ∷ (action_case ++ (48 ∷ []))
    ∷ [])
    ≡ (action_refused_at Form 1 ∷ action_refused_at Form 2 ∷ action_refused_at Form 3 ∷ action_refused_at Count 4 ∷ action_refused_at Form 6
    ∷ action_refused_at Count 5 ∷ action_refused_at Form 6 ∷ action_refused_at Form 10 ∷ [])
unfolding action_read action_of read_action read_uses read_governs values passed many parse_limited at_least begins ended parse canonical digit_run after value
action_case_refused = refl

-- no line, two of three, all and more than there are; a last line without its LF; an empty line
first_lines_told : map (λ n. first_lines n (lined "ab c d")) (0 ∷ 2 ∷ 3 ∷ 4 ∷ []) ≡ ([] ∷ lined "ab c" ∷ lined "ab c d" ∷ lined "ab c d" ∷ [])
unfolding first_lines
first_lines_told = refl

first_lines_unended : map (λ n. first_lines n (unended "ab c d")) (1 ∷ 2 ∷ 3 ∷ []) ≡ (lined "ab" ∷ lined "ab c" ∷ unended "ab c d" ∷ [])
unfolding first_lines
first_lines_unended = refl

first_lines_empty : map (λ n. first_lines n (10 ∷ 10 ∷ 97 ∷ [])) (1 ∷ 2 ∷ []) ≡ ((10 ∷ []) ∷ (10 ∷ 10 ∷ []) ∷ [])
unfolding first_lines
first_lines_empty = refl
