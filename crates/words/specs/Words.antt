-- Believed: words for the numbers of the calls: a table to each, by place from 0, and the text of every number that the table has not. Assumes nothing.
use Rattle.std.specs.Prelude.{ℕ, List, [], ◌∷◌, get_or}
use Rattle.lists.specs.Bytes.{bytes}
use Rattle.json_rules.specs.Names.{kind_names, flag_names}

-- the refusals, in 01's and 02's words: the text at place n is that of number n; 0 is no refusal
abbrev pub unknown_refusal : List ℕ
unknown_refusal = bytes "unknown refusal"

abbrev pub refusal_texts : List (List ℕ)
refusal_texts =
    bytes "not refused"
    ∷ bytes "register not sound"
    ∷ bytes "field or count of the call out of range"
    ∷ bytes "grantor, holder, resource, revoker, caller or acting actor not in the register"
    ∷ bytes "claim id already stands"
    ∷ bytes "256 claims stand"
    ∷ bytes "root grant by anyone but the keeper"
    ∷ bytes "grantor is a machine without owner"
    ∷ bytes "grantor is a machine and right 13, 15 or 16 is asked"
    ∷ bytes "parent does not stand"
    ∷ bytes "parent not held by the grantor, or on another resource"
    ∷ bytes "parent, or a claim above it, not live at the moment"
    ∷ bytes "parent lacks DELEGATE"
    ∷ bytes "a right the parent lacks"
    ∷ bytes "weight above the parent's"
    ∷ bytes "more than 16 hops, or left not below the parent's"
    ∷ bytes "circle: the holder holds a claim higher on the chain, or granted its root"
    ∷ bytes "claim to revoke does not stand"
    ∷ bytes "revoker is no grantor on that claim's chain, or caller is not the keeper or not human"
    ∷ bytes "text not of the form"
    ∷ bytes "a count line above its limit"
    ∷ bytes "buffer too short for the text"
    ∷ bytes "plan deeper than 8 levels"
    ∷ bytes "more than 64 actions in a plan text"
    ∷ bytes "JSON action of another form, with a number out of range or with more than 32 uses"
    ∷ bytes "a right above 2 or a governed entry, for which a JSON action has no place"
    ∷ bytes "no single grant by one of the signers would permit the use"
    ∷ bytes "action not permitted"
    ∷ bytes "no fingerprint is attached to the resource's number"
    ∷ bytes "64 entries stand, and none of the resource's number"
    ∷ bytes "book with more than 64 entries or with two for one number"
    ∷ bytes "an earlier record of the list has the id"
    ∷ bytes "owner of a human, or owner who is no human of the register"
    ∷ bytes "keeper who is no human of the register"
    ∷ []

abbrev pub refusal_text : ℕ → List ℕ
refusal_text number = get_or refusal_texts number unknown_refusal

-- the kinds of violation, from 1 on
abbrev pub unknown_violation : List ℕ
unknown_violation = bytes "unknown violation"

abbrev pub violation_texts : List (List ℕ)
violation_texts =
    unknown_violation
    ∷ bytes "flag set"
    ∷ bytes "machine without owner"
    ∷ bytes "machine that governs"
    ∷ bytes "use that the actor does not cover"
    ∷ bytes "use that the machine's owner does not cover"
    ∷ []

abbrev pub violation_text : ℕ → List ℕ
violation_text kind = get_or violation_texts kind unknown_violation

-- the rights, by the names that the builder's form has for them
abbrev pub unknown_right : List ℕ
unknown_right = bytes "unknown right"

abbrev pub right_name : ℕ → List ℕ
right_name right = get_or kind_names right unknown_right

-- the flags, likewise
abbrev pub unknown_flag : List ℕ
unknown_flag = bytes "unknown flag"

abbrev pub flag_name : ℕ → List ℕ
flag_name flag = get_or flag_names flag unknown_flag

-- no text of a number is longer
abbrev pub word_limit : ℕ
word_limit = 128
