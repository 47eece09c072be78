-- Believed: A JSON text of the builder's form as its list of members, each with its key's own value. Keys may come in any order; blanks are gone with
-- the tokens.
use Rattle.std.specs.Prelude.{ℕ, zero, suc, List, [], ◌∷◌, map, Bool, true, false, not, cond, ◌&&◌, ◌||◌, length, eqb, leb, ltb}
use Rattle.lists.specs.Lists.{any, every, counted, same, distinct}
use Rattle.register.specs.Limits.{id_limit}
use Rattle.rights.specs.Rights.{right_count}
use Rattle.actions.specs.Actions.{use_limit, flag_count}
use Rattle.decimals.specs.Decimals.{Parsed, got, large, bad, parse}
use Rattle.json_tokens.specs.Tokens.{Token, mark, text, no_token, opens_object, closes_object, opens_list, closes_list, colon, comma, zero_mark, true_mark, false_mark, quote}
use Rattle.json_rules.specs.Names.{key_names, kind_names, flag_names, default_domain, place_of, id_place, actor_place, kind_place, read_place, write_place, execute_place, flags_place, domain_place, depth_place}

-- a flag and whether it is set
pub record Setting : Type 0 where
  pub flag : ℕ
  pub set : Bool

-- what a key holds: a text; a number; a list of numbers; the flags
pub data Value : Type 0 where
  letters : List ℕ → Value
  figure : ℕ → Value
  figures : List ℕ → Value
  settings : List Setting → Value

-- a key, by its place among the nine, and what it holds
pub record Member : Type 0 where
  pub key : ℕ
  pub value : Value

-- what some tokens begin with, and the tokens behind it; or nothing of that kind
pub data Taken (A : Type 0) : Type 0 where
  taking : A → List Token → Taken A
  missed : Taken A

-- what stands behind a mark
abbrev pub past : {A : Type 0} → ℕ → (List Token → Taken A) → List Token → Taken A
past b more [] = missed
past b more (mark c ∷ ts) = cond (eqb c b) (more ts) missed
past b more (text x ∷ ts) = missed
past b more (no_token ∷ ts) = missed

-- what is made of what was taken, where it may stand
abbrev pub made : {A B : Type 0} → (A → Bool) → (A → B) → Taken A → Taken B
made fits make (taking a ts) = cond (fits a) (taking (make a) ts) missed
made fits make missed = missed

-- a text
abbrev pub take_text : List Token → Taken (List ℕ)
take_text [] = missed
take_text (mark b ∷ ts) = missed
take_text (text x ∷ ts) = taking x ts
take_text (no_token ∷ ts) = missed

-- one of our decimals, up to 65,535, and nothing else
abbrev pub is_exact : Parsed → Bool
is_exact (got n []) = true
is_exact (got n (b ∷ rest)) = false
is_exact (large rest) = false
is_exact bad = false

abbrev pub exact_of : Parsed → ℕ
exact_of (got n rest) = n
exact_of (large rest) = 0
exact_of bad = 0

-- a text that holds a number
unfoldable pub take_number : List Token → Taken ℕ
take_number ts = made (λ x. is_exact (parse id_limit x)) (λ x. exact_of (parse id_limit x)) (take_text ts)

-- an item is followed by a comma and more, or by the closing mark
abbrev pub led_by : {A : Type 0} → A → Taken (List A) → Taken (List A)
led_by a (taking more ts) = taking (a ∷ more) ts
led_by a missed = missed

abbrev pub separated : {A : Type 0} → ℕ → (List Token → Taken (List A)) → A → List Token → Taken (List A)
separated close more a [] = missed
separated close more a (mark b ∷ ts) = cond (eqb b comma) (led_by a (more ts)) (cond (eqb b close) (taking (a ∷ []) ts) missed)
separated close more a (text x ∷ ts) = missed
separated close more a (no_token ∷ ts) = missed

abbrev pub further : {A : Type 0} → ℕ → (List Token → Taken (List A)) → Taken A → Taken (List A)
further close more (taking a ts) = separated close more a ts
further close more missed = missed

-- items up to the closing mark, with commas between them; with fuel
unfoldable pub items_with : {A : Type 0} → (List Token → Taken A) → ℕ → ℕ → List Token → Taken (List A)
items_with item close zero ts = missed
items_with item close (suc f) ts = further close (items_with item close f) (item ts)

-- one item or more: each takes a token at least
unfoldable pub items : {A : Type 0} → (List Token → Taken A) → ℕ → List Token → Taken (List A)
items item close ts = items_with item close (length ts) ts

-- nothing, or items
abbrev pub any_items : {A : Type 0} → (List Token → Taken A) → ℕ → List Token → Taken (List A)
any_items item close [] = missed
any_items item close (mark b ∷ ts) = cond (eqb b close) (taking [] ts) (items item close (mark b ∷ ts))
any_items item close (text x ∷ ts) = items item close (text x ∷ ts)
any_items item close (no_token ∷ ts) = missed

-- a list of numbers
unfoldable pub take_numbers : List Token → Taken (List ℕ)
take_numbers ts = past opens_list (any_items take_number closes_list) ts

-- `true` or `false`
abbrev pub take_word : List Token → Taken Bool
take_word [] = missed
take_word (mark b ∷ ts) = cond (eqb b true_mark) (taking true ts) (cond (eqb b false_mark) (taking false ts) missed)
take_word (text x ∷ ts) = missed
take_word (no_token ∷ ts) = missed

-- behind a name: a colon, and what it holds
abbrev pub named : {A : Type 0} → List (List ℕ) → (ℕ → List Token → Taken A) → Taken (List ℕ) → Taken A
named names more (taking x ts) = past colon (more (place_of names x)) ts
named names more missed = missed

-- a flag's name, a colon, and whether it is set
abbrev pub take_set : ℕ → List Token → Taken Setting
take_set i ts = made (λ on. ltb i flag_count) (λ on. record { flag = i; set = on }) (take_word ts)

unfoldable pub take_setting : List Token → Taken Setting
take_setting ts = named flag_names take_set (take_text ts)

-- each of these numbers is among some others
abbrev pub among_all : List ℕ → List ℕ → Bool
among_all wanted ks = every (λ k. any (eqb k) ks) wanted

-- the ten flags, each once
unfoldable pub is_full_set : List Setting → Bool
is_full_set ss = distinct (map (λ s. s.flag) ss) && among_all (counted 0 flag_count) (map (λ s. s.flag) ss)

unfoldable pub take_settings : List Token → Taken (List Setting)
take_settings ts = made is_full_set (λ ss. ss) (past opens_object (any_items take_setting closes_object) ts)

-- an id: up to 64 bytes 0x20 to 0x7E without quote or backslash
abbrev pub id_length : ℕ
id_length = 64

abbrev pub is_id_byte : ℕ → Bool
is_id_byte b = (leb 32 b && leb b 126) && not (eqb b quote || eqb b 92)

unfoldable pub is_id_text : List ℕ → Bool
is_id_text x = leb (length x) id_length && every is_id_byte x

-- the number 0
abbrev pub take_zero : List Token → Taken Value
take_zero ts = past zero_mark (λ rest. taking (figure 0) rest) ts

-- what a key holds: each key has its own values
unfoldable pub take_value : ℕ → List Token → Taken Value
take_value k ts =
    cond (eqb k id_place) (made is_id_text letters (take_text ts))
    (cond (eqb k actor_place) (made (λ n. true) figure (take_number ts))
    (cond (eqb k kind_place) (made (λ x. ltb (place_of kind_names x) right_count) (λ x. figure (place_of kind_names x)) (take_text ts))
    (cond (eqb k read_place || (eqb k write_place || eqb k execute_place)) (made (λ ns. leb (length ns) use_limit) figures (take_numbers ts))
    (cond (eqb k flags_place) (made (λ ss. true) settings (take_settings ts))
    (cond (eqb k domain_place) (made (same default_domain) letters (take_text ts))
    (cond (eqb k depth_place) (take_zero ts) missed))))))

-- a key, a colon, and what it holds
abbrev pub take_held : ℕ → List Token → Taken Member
take_held k ts = made (λ v. true) (λ v. record { key = k; value = v }) (take_value k ts)

unfoldable pub take_member : List Token → Taken Member
take_member ts = named key_names take_held (take_text ts)

-- the members of an object; nothing follows it
abbrev pub sole : {A : Type 0} → Taken A → Taken A
sole (taking a []) = taking a []
sole (taking a (k ∷ ts)) = missed
sole missed = missed

unfoldable pub members_of : List Token → Taken (List Member)
members_of ts = sole (past opens_object (any_items take_member closes_object) ts)
