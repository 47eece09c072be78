-- The definitions of the builder's JSON on small texts, yes and no, computed. Assumes nothing.
use Rattle.std.proofs.Common.{Ok, ℕ, ◌≡◌, refl, true, List, [], ◌∷◌, ◌++◌, replicate}
use Rattle.lists.specs.Bytes.{bytes}
use Rattle.lists.specs.Lists.{dropping, same, distinct}
use Rattle.decimals.specs.Decimals.{digits, digits_with, after, value, canonical, parse, digit_run}
use Rattle.actions.specs.Actions.{no_use, govern_limit}
use Rattle.actions.specs.declared.Usage.{Usage}
use Rattle.actions.specs.declared.Action.{Action}
use Rattle.refusals.specs.declared.Refusal.TheVariants.{Range, JsonForm}
use Rattle.json_tokens.specs.Tokens.{unblanked, quoted, closing, leading, tokens_with, tokens}
use Rattle.json_tokens.specs.Spelling.{spelled, spelled_all}
use Rattle.json_rules.specs.Names.{key_names, kind_names, flag_names, place_of}
use Rattle.json_rules.specs.Members.{take_number, items_with, items, take_numbers, take_setting, is_full_set, take_settings, is_id_text, id_length, take_value, take_member, members_of}
use Rattle.json_rules.specs.Actions.{flags_below, uses_in, is_full, action_in, unread, json_read, resources_with, members_from, commaed, number_tokens, value_tokens, member_tokens, object_tokens, json_text, member_value}
use Rattle.json_rules.specs.Orders.{ordered}
use Rattle.json_rules.specs.declared.JsonRead.{JsonRead}
use Rattle.json_rules.proofs.Naming as naming

-- the names of a group differ
names_apart : (naming.apart key_names ≡ true) × (naming.apart kind_names ≡ true) × (naming.apart flag_names ≡ true)
names_apart = (naming.keys_apart, naming.kinds_apart, naming.flags_apart)

-- 002's page, section 7, as printed: refused, for `agent-id` is no number; with numbers it is taken
abbrev printed_with : List ℕ → List ℕ → List ℕ
printed_with actor resource =
    bytes "{\n  \"id\": \"action-uuid\",\n  \"actor\": \""
    ++ (actor
    ++ (bytes "\",\n  \"capability_kind\": \"WRITE\",\n  \"resources_read\": [],\n  \"resources_write\": [\""
    ++ (resource
    ++ (bytes "\"],\n  \"resources_execute\": [],\n  \"flags\": {\n    \"increases_machine_sovereignty\": false,\n"
    ++ (bytes "    \"resists_human_correction\": false,\n    \"bypasses_verifier\": false,\n    \"weakens_verifier\": false,\n"
    ++ (bytes "    \"disables_corrigibility\": false,\n    \"machine_coalition_dominion\": false,\n    \"coerces\": false,\n"
    ++ (bytes "    \"deceives\": false,\n    \"self_modification_weakens_verifier\": false,\n"
    ++ bytes "    \"machine_coalition_reduces_freedom\": false\n  },\n  \"trust_domain\": \"default\",\n  \"delegation_depth\": 0\n}\n")))))))

-- one use of a right; and case R's action
abbrev use_of : ℕ → ℕ → Usage
use_of n b = record { resource = n; right = b }

abbrev action_of : ℕ → ℕ → ℕ → List Usage → ℕ → Action
action_of actor flags moment uses used = record {
  actor = actor;
  flags = flags;
  now = moment;
  uses = uses;
  used = used;
  governs = replicate govern_limit 0;
  governed = 0;
}

abbrev case_r : Action
case_r = action_of 2 0 1999 (use_of 10 0 ∷ use_of 10 1 ∷ replicate 30 no_use) 2

-- case R's page as it is written: some flags, and what stands behind them
abbrev page_with : List ℕ → List ℕ → List ℕ
page_with flags behind =
    bytes "{\"id\":\"\",\"actor\":\"2\",\"capability_kind\":\"READ\",\"resources_read\":[\"10\"],\"resources_write\":[\"10\"],\"resources_execute\":[],"
    ++ (bytes "\"flags\":{" ++ (flags ++ (bytes "}" ++ behind)))

abbrev nine_flags : List ℕ
nine_flags =
    bytes "\"increases_machine_sovereignty\":false,\"resists_human_correction\":false,\"bypasses_verifier\":false,\"weakens_verifier\":false,"
    ++ (bytes "\"disables_corrigibility\":false,\"machine_coalition_dominion\":false,\"coerces\":false,\"deceives\":false,"
    ++ bytes "\"self_modification_weakens_verifier\":false")

abbrev ten_flags : List ℕ
ten_flags = nine_flags ++ bytes ",\"machine_coalition_reduces_freedom\":false"

abbrev case_rText : List ℕ
case_rText = page_with ten_flags (bytes ",\"trust_domain\":\"default\",\"delegation_depth\":0}")

abbrev case_rRead : JsonRead
case_rRead = record { action = case_r; outcome = Ok tt; kind = 0; len = 0; id = replicate id_length 0 }

case_r_written : json_text case_r [] 0 ≡ case_rText
unfolding json_text members_from resources_with object_tokens member_tokens value_tokens number_tokens commaed spelled_all spelled digits digits_with
case_r_written = refl

readings :
    (json_read (printed_with (bytes "agent-id") (bytes "resource-id")) 1999 ≡ unread JsonForm)
    × (json_read (printed_with (bytes "65535") (bytes "7")) 1999
    ≡ record {
      action = action_of 65535 0 1999 (use_of 7 1 ∷ replicate 31 no_use) 1;
      outcome = Ok tt;
      kind = 1;
      len = 11;
      id = bytes "action-uuid" ++ replicate 53 0;
    })
    × (json_read case_rText 1999 ≡ case_rRead)
    × (json_read case_rText 4294967296 ≡ unread Range)
    -- the last two keys may be missing, each by itself
    × (json_read (page_with ten_flags (bytes "}")) 1999 ≡ case_rRead)
    × (json_read (page_with ten_flags (bytes ",\"delegation_depth\":0}")) 1999 ≡ case_rRead)
    -- and have one value
    × (json_read (page_with ten_flags (bytes ",\"trust_domain\":\"research\"}")) 1999 ≡ unread JsonForm)
    × (json_read (page_with ten_flags (bytes ",\"delegation_depth\":\"0\"}")) 1999 ≡ unread JsonForm)
    -- a key twice, another optional key twice, a key that is none
    × (json_read (page_with ten_flags (bytes ",\"actor\":\"2\"}")) 1999 ≡ unread JsonForm)
    × (json_read (page_with ten_flags (bytes ",\"delegation_depth\":0,\"delegation_depth\":0}")) 1999 ≡ unread JsonForm)
    × (json_read (page_with ten_flags (bytes ",\"now\":\"1999\"}")) 1999 ≡ unread JsonForm)
    -- a flag missing; one twice
    × (json_read (page_with nine_flags (bytes "}")) 1999 ≡ unread JsonForm)
    × (json_read (page_with (ten_flags ++ bytes ",\"coerces\":false") (bytes "}")) 1999 ≡ unread JsonForm)
    -- bytes behind the last brace, a comma before it, and no text at all
    × (json_read (case_rText ++ bytes "0") 1999 ≡ unread JsonForm)
    × (json_read (page_with ten_flags (bytes ",}")) 1999 ≡ unread JsonForm)
    × (json_read [] 1999 ≡ unread JsonForm)
unfolding json_read tokens tokens_with leading unblanked quoted closing same members_of items items_with take_member take_value take_number take_numbers
    take_setting take_settings is_full_set distinct is_id_text parse digit_run after value canonical place_of member_value uses_in is_full action_in flags_below
readings = (refl, refl, refl, refl, refl, refl, refl, refl, refl, refl, refl, refl, refl, refl, refl, refl)

-- the last flag alone is 512
abbrev last_flag : List ℕ
last_flag = nine_flags ++ bytes ",\"machine_coalition_reduces_freedom\":true"

last_flag_lem : (json_read (page_with last_flag (bytes "}")) 1999).action.flags ≡ 512
unfolding json_read tokens tokens_with leading unblanked quoted closing same members_of items items_with take_member take_value take_number take_numbers
    take_setting take_settings is_full_set distinct is_id_text parse digit_run after value canonical place_of member_value uses_in is_full action_in flags_below
last_flag_lem = refl

-- uses of right 1, 0, 2 and 0: reads, then writes, then executes, each in their order
order : ordered (use_of 1 1 ∷ use_of 2 0 ∷ use_of 3 2 ∷ use_of 4 0 ∷ []) ≡ use_of 2 0 ∷ use_of 4 0 ∷ use_of 1 1 ∷ use_of 3 2 ∷ []
unfolding ordered dropping
order = refl
