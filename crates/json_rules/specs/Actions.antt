-- Believed: The builder's JSON actions, in the words of 02's T-04: how a text is read as an action, and what the text of an action is.
use Rattle.std.specs.Prelude.{ℕ, zero, suc, ◌+◌, ◌-◌, ◌/◌, ◌%◌, ◌^◌, List, [], ◌∷◌, ◌++◌, map, Bool, cond, ◌&&◌, length, get_or, replicate, eqb, leb, ltb, Err, Ok}
use Rattle.lists.specs.Lists.{any, every, ands, counted, distinct}
use Rattle.register.specs.Limits.{moment_end}
use Rattle.rights.specs.Rights.{is_right}
use Rattle.decimals.specs.Decimals.{digits}
use Rattle.actions.specs.Actions.{no_use, use_limit, govern_limit, flag_count, uses_of, action_fits, no_action}
use Rattle.actions.specs.declared.Usage.{Usage}
use Rattle.actions.specs.declared.Action.{Action}
use Rattle.refusals.specs.declared.Refusal.{Refusal}
use Rattle.refusals.specs.declared.Refusal.TheVariants.{Range, JsonForm, JsonLacks}
use Rattle.buffers.specs.Buffers.{put}
use Rattle.buffers.specs.declared.Written.{Written}
use Rattle.buffers.specs.Delivery.{delivered, unwritten}
use Rattle.json_tokens.specs.Tokens.{Token, mark, text, tokens, opens_object, closes_object, opens_list, closes_list, colon, comma, zero_mark, true_mark, false_mark}
use Rattle.json_tokens.specs.Spelling.{spelled_all}
use Rattle.json_rules.specs.Names.{key_names, kind_names, flag_names, default_domain, id_place, actor_place, kind_place, read_place, write_place, execute_place, flags_place, domain_place, depth_place}
use Rattle.json_rules.specs.Members.{Setting, Value, letters, figure, figures, settings, Member, Taken, missed, members_of, among_all, is_id_text, id_length, taking}
use Rattle.json_rules.specs.declared.JsonRead.{JsonRead}

-- Reading.

-- what a key holds among some members, where it is one of them
unfoldable pub member_value : ℕ → List Member → Value
member_value k [] = figure 0
member_value k (m ∷ ms) = let more = member_value k ms in cond (eqb k m.key) m.value more

abbrev pub as_letters : Value → List ℕ
as_letters (letters x) = x
as_letters (figure n) = []
as_letters (figures ns) = []
as_letters (settings ss) = []

abbrev pub as_figure : Value → ℕ
as_figure (letters x) = 0
as_figure (figure n) = n
as_figure (figures ns) = 0
as_figure (settings ss) = 0

abbrev pub as_figures : Value → List ℕ
as_figures (letters x) = []
as_figures (figure n) = []
as_figures (figures ns) = ns
as_figures (settings ss) = []

abbrev pub as_settings : Value → List Setting
as_settings (letters x) = []
as_settings (figure n) = []
as_settings (figures ns) = []
as_settings (settings ss) = ss

-- whether a flag is set among some settings
abbrev pub set_among : List Setting → ℕ → Bool
set_among ss i = any (λ s. eqb i s.flag && s.set) ss

-- flag i is bit i, whichever order the flags come in
unfoldable pub flags_below : ℕ → List Setting → ℕ
flags_below zero ss = 0
flags_below (suc i) ss = flags_below i ss + cond (set_among ss i) (2 ^ i) 0

abbrev pub flags_of : List Setting → ℕ
flags_of ss = flags_below flag_count ss

-- each resource used with a right
abbrev pub used_with : ℕ → List ℕ → List Usage
used_with b ns = map (λ n. record { resource = n; right = b }) ns

-- reads, writes and executes become uses of rights 0, 1 and 2, in that order
unfoldable pub uses_in : List Member → List Usage
uses_in ms =
    used_with 0 (as_figures (member_value read_place ms))
    ++ (used_with 1 (as_figures (member_value write_place ms)) ++ used_with 2 (as_figures (member_value execute_place ms)))

-- each key once; the first seven are there, the last two may be missing; up to 32 uses
unfoldable pub is_full : List Member → Bool
is_full ms = ands (
    distinct (map (λ m. m.key) ms)
    ∷ among_all (counted 0 domain_place) (map (λ m. m.key) ms)
    ∷ leb (length (uses_in ms)) use_limit
    ∷ [])

-- the action of some members at a moment: nothing is governed, and zeros stand behind the uses
unfoldable pub action_in : ℕ → List Member → Action
action_in moment ms = record {
  actor = as_figure (member_value actor_place ms);
  flags = flags_of (as_settings (member_value flags_place ms));
  now = moment;
  uses = uses_in ms ++ replicate (use_limit - length (uses_in ms)) no_use;
  used = length (uses_in ms);
  governs = replicate govern_limit 0;
  governed = 0;
}

-- zeros behind an id
abbrev pub held_id : List ℕ → List ℕ
held_id x = x ++ replicate (id_length - length x) 0

-- a refused reading: the action of zeros, no id, and READ
abbrev pub unread : Refusal → JsonRead
unread why = record { action = no_action; outcome = Err why; kind = 0; len = 0; id = replicate id_length 0 }

abbrev pub read_whole : ℕ → List Member → JsonRead
read_whole moment ms = record {
  action = action_in moment ms;
  outcome = Ok tt;
  kind = as_figure (member_value kind_place ms);
  len = length (as_letters (member_value id_place ms));
  id = held_id (as_letters (member_value id_place ms));
}

abbrev pub read_members : ℕ → Taken (List Member) → JsonRead
read_members moment (taking ms ts) = cond (is_full ms) (read_whole moment ms) (unread JsonForm)
read_members moment missed = unread JsonForm

-- the reading of a text at a moment: 2 for the clock, then 24
unfoldable pub json_read : List ℕ → ℕ → JsonRead
json_read t moment = cond (ltb moment moment_end) (read_members moment (members_of (tokens t))) (unread Range)

-- Writing.

-- the resources used with a right, in their order
unfoldable pub resources_with : ℕ → List Usage → List ℕ
resources_with b [] = []
resources_with b (u ∷ us) = let more = resources_with b us in cond (eqb u.right b) (u.resource ∷ more) more

-- whether flag i is set
abbrev pub is_set : ℕ → ℕ → Bool
is_set flags i = eqb (flags / 2 ^ i % 2) 1

abbrev pub settings_from : ℕ → List Setting
settings_from flags = map (λ i. record { flag = i; set = is_set flags i }) (counted 0 flag_count)

-- all keys in 002's order
unfoldable pub members_from : Action → List ℕ → ℕ → List Member
members_from a id kind =
    record { key = id_place; value = letters id }
    ∷ record { key = actor_place; value = figure a.actor }
    ∷ record { key = kind_place; value = figure kind }
    ∷ record { key = read_place; value = figures (resources_with 0 (uses_of a)) }
    ∷ record { key = write_place; value = figures (resources_with 1 (uses_of a)) }
    ∷ record { key = execute_place; value = figures (resources_with 2 (uses_of a)) }
    ∷ record { key = flags_place; value = settings (settings_from a.flags) }
    ∷ record { key = domain_place; value = letters default_domain }
    ∷ record { key = depth_place; value = figure 0 }
    ∷ []

-- the tokens of things with commas between them
unfoldable pub commaed : List (List Token) → List Token
commaed [] = []
commaed (ts ∷ []) = ts
commaed (ts ∷ us ∷ more) = ts ++ (mark comma ∷ commaed (us ∷ more))

-- the tokens of what a key holds: the numbers of the actor and of the resources as texts, the kind by its name, the depth as a number
abbrev pub setting_tokens : Setting → List Token
setting_tokens s = text (get_or flag_names s.flag []) ∷ mark colon ∷ mark (cond s.set true_mark false_mark) ∷ []

unfoldable pub number_tokens : ℕ → ℕ → List Token
number_tokens k n =
    cond (eqb k actor_place) (text (digits n) ∷ []) (cond (eqb k kind_place) (text (get_or kind_names n []) ∷ []) (mark zero_mark ∷ []))

unfoldable pub value_tokens : ℕ → Value → List Token
value_tokens k (letters x) = text x ∷ []
value_tokens k (figure n) = number_tokens k n
value_tokens k (figures ns) = mark opens_list ∷ (commaed (map (λ n. text (digits n) ∷ []) ns) ++ (mark closes_list ∷ []))
value_tokens k (settings ss) = mark opens_object ∷ (commaed (map setting_tokens ss) ++ (mark closes_object ∷ []))

unfoldable pub member_tokens : Member → List Token
member_tokens m = text (get_or key_names m.key []) ∷ mark colon ∷ value_tokens m.key m.value

unfoldable pub object_tokens : List Member → List Token
object_tokens ms = mark opens_object ∷ (commaed (map member_tokens ms) ++ (mark closes_object ∷ []))

-- the text of an action with its id and kind: no spaces
unfoldable pub json_text : Action → List ℕ → ℕ → List ℕ
json_text a id kind = spelled_all (object_tokens (members_from a id kind))

-- the action, the id and the kind are in range
unfoldable pub json_fits : Action → List ℕ → ℕ → Bool
json_fits a id kind = action_fits a && (is_id_text id && is_right kind)

-- the form has a place for all of it: no right above 2, nothing governed
unfoldable pub json_holds : Action → Bool
json_holds a = every (λ u. leb u.right 2) (uses_of a) && eqb a.governed 0

-- Writing tests 2, then 25, then 21.
unfoldable pub json_written : Action → List ℕ → ℕ → List ℕ → Written
json_written a id kind old =
    cond (json_fits a id kind) (cond (json_holds a) (delivered (json_text a id kind) old) (unwritten JsonLacks)) (unwritten Range)

-- past the text the buffer keeps its bytes; refused, all of them
unfoldable pub json_buffer : Action → List ℕ → ℕ → List ℕ → List ℕ
json_buffer a id kind old = cond (json_fits a id kind && json_holds a) (put 0 (json_text a id kind) old) old

-- no text is longer
abbrev pub json_limit : ℕ
json_limit = 807
