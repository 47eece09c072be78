-- Working: The text of an action in the builder's form as the pieces that the code puts one behind the other. `pieces_natural` of proofs/Laws leads
-- back to `json_text`.
use Rattle.std.specs.Prelude.{ℕ, zero, suc, List, [], ◌∷◌, ◌++◌, Bool, true, false, cond, eqb, get_or}
use Rattle.decimals.specs.Decimals.{digits}
use Rattle.actions.specs.Actions.{flag_count, uses_of}
use Rattle.actions.specs.declared.Usage.{Usage}
use Rattle.actions.specs.declared.Action.{Action}
use Rattle.json_tokens.specs.Tokens.{opens_object, closes_object, opens_list, closes_list, colon, comma, quote, zero_mark, true_word, false_word}
use Rattle.json_rules.specs.Names.{key_names, kind_names, flag_names, default_domain, id_place, actor_place, kind_place, read_place, write_place, execute_place, flags_place, domain_place, depth_place}
use Rattle.json_rules.specs.Actions.{is_set}

-- a name in quotes with its colon, behind a mark
abbrev pub name_text : List ℕ → List ℕ
name_text x = quote ∷ (x ++ (quote ∷ colon ∷ []))

-- a key behind a comma
abbrev pub key_text : ℕ → List ℕ
key_text k = comma ∷ name_text (get_or key_names k [])

-- a kind's name
abbrev pub kind_text : ℕ → List ℕ
kind_text kind = get_or kind_names kind []

-- the mark before a resource's number, with a comma before it where it is not the first
abbrev pub opening_text : Bool → List ℕ
opening_text first = cond first (quote ∷ []) (comma ∷ quote ∷ [])

-- a resource's number in quotes
unfoldable pub resource_entry : Bool → ℕ → List ℕ
resource_entry first n = opening_text first ++ (digits n ++ (quote ∷ []))

-- the resources used with a right, the first of them with or without a comma
unfoldable pub resources_from : Bool → ℕ → List Usage → List ℕ
resources_from first b [] = []
resources_from first b (u ∷ us) =
    let taken = resource_entry first u.resource ++ resources_from false b us in
    let more = resources_from first b us in
    cond (eqb u.right b) taken more

abbrev pub resources_text : ℕ → List Usage → List ℕ
resources_text b us = resources_from true b us

-- whether a flag is set, behind what leads to it
abbrev pub setting_text : List ℕ → ℕ → ℕ → List ℕ
setting_text name flags i = name ++ cond (is_set flags i) true_word false_word

-- a flag's name, behind a comma where it is not the first
abbrev pub flag_text : ℕ → List ℕ
flag_text zero = name_text (get_or flag_names 0 [])
flag_text (suc i) = comma ∷ name_text (get_or flag_names (suc i) [])

-- the n flags from i on
unfoldable pub flags_from : ℕ → ℕ → ℕ → List ℕ
flags_from flags i zero = []
flags_from flags i (suc n) = setting_text (flag_text i) flags i ++ flags_from flags (suc i) n

abbrev pub flags_text : ℕ → List ℕ
flags_text flags = flags_from flags 0 flag_count

-- what leads to each value, and what ends the text
abbrev pub id_lead : List ℕ
id_lead = opens_object ∷ (name_text (get_or key_names id_place []) ++ (quote ∷ []))

abbrev pub actor_lead : List ℕ
actor_lead = quote ∷ (key_text actor_place ++ (quote ∷ []))

abbrev pub kind_lead : List ℕ
kind_lead = quote ∷ (key_text kind_place ++ (quote ∷ []))

abbrev pub read_lead : List ℕ
read_lead = quote ∷ (key_text read_place ++ (opens_list ∷ []))

abbrev pub write_lead : List ℕ
write_lead = closes_list ∷ (key_text write_place ++ (opens_list ∷ []))

abbrev pub execute_lead : List ℕ
execute_lead = closes_list ∷ (key_text execute_place ++ (opens_list ∷ []))

abbrev pub flags_lead : List ℕ
flags_lead = closes_list ∷ (key_text flags_place ++ (opens_object ∷ []))

abbrev pub ending : List ℕ
ending =
    closes_object ∷ (key_text domain_place ++ (quote ∷ (default_domain ++ (quote ∷ (key_text depth_place ++ (zero_mark ∷ closes_object ∷ []))))))

-- up to the resources that are read, and from them on
unfoldable pub head_text : ℕ → List ℕ → ℕ → List ℕ
head_text actor id kind = id_lead ++ (id ++ (actor_lead ++ (digits actor ++ (kind_lead ++ (kind_text kind ++ read_lead)))))

unfoldable pub tail_text : Action → List ℕ
tail_text a =
    resources_text 0 (uses_of a)
    ++ (write_lead
    ++ (resources_text 1 (uses_of a) ++ (execute_lead ++ (resources_text 2 (uses_of a) ++ (flags_lead ++ (flags_text a.flags ++ ending))))))
