-- What is written as tokens is taken again, whatever follows it. Assumes nothing.
use Rattle.std.proofs.Common.{ℕ, ◌≤◌, ◌≡◌, refl, sym, ap, ◌∙◌, true, false, cond, List, [], ◌∷◌, ◌++◌, map, append_assoc, append-nil, eq-eqb, eqb-true, ltb-true, leb-true, le-leb, eqb, leb, ltb, length, get_or}
use Rattle.lists.specs.Tests.{cases}
use Rattle.lists.specs.Lists.{every, All, same}
use Rattle.lists.specs.Each.{every_all}
use Rattle.register.specs.Limits.{id_limit}
use Rattle.rights.specs.Rights.{right_count, is_right}
use Rattle.actions.specs.Actions.{use_limit, flag_count}
use Rattle.decimals.specs.Decimals.{digits, parse, got}
use Rattle.decimals.specs.Laws.{parse_digits}
use Rattle.decimals.specs.Answers.{starts}
use Rattle.json_tokens.specs.Tokens.{Token, mark, text, comma, colon, opens_list, closes_list, opens_object, closes_object, true_mark, false_mark}
use Rattle.json_rules.specs.Names.{key_names, flag_names, default_domain, id_place, actor_place, kind_place, flags_place, domain_place, depth_place}
use Rattle.json_rules.specs.Members.{Setting, Value, letters, figure, figures, settings, Member, Taken, taking, items, any_items, take_number, take_numbers, take_setting, take_settings, take_value, take_member, members_of, is_id_text, is_full_set}
use Rattle.json_rules.specs.Actions.{commaed, setting_tokens, number_tokens, value_tokens, member_tokens, object_tokens}
use Rattle.json_rules.specs.Items.{Shrinks, items_step, number_shrinks, setting_shrinks, member_shrinks}
use Rattle.json_rules.specs.Fitting.{value_fits, MemberFits}
use Rattle.json_rules.proofs.Naming.{key_place, kind_place_lem, flag_place}
use Rattle.json_rules.proofs.Holding.{is_listed, listed_cases, value_cases, key_below}

-- things that begin with a text and are taken one by one are taken as items
module _ {A : Type 0} (item : List Token → Taken A) (close : ℕ) (shrinks : Shrinks item) (other : eqb close comma ≡ false)
    (name : A → List ℕ) (behind : A → List Token) (P : A → Type 0)
    (taken : (a : A) (rest : List Token) → P a → item (text (name a) ∷ (behind a ++ rest)) ≡ taking a rest) where
  items_written : (a : A) (l : List A) (rest : List Token) → P a → All P l
      → items item close (commaed (map (λ a. text (name a) ∷ behind a) (a ∷ l)) ++ (mark close ∷ rest)) ≡ taking (a ∷ l) rest
  unfolding commaed
  items_written a [] rest h k =
      items_step item close shrinks (text (name a) ∷ (behind a ++ (mark close ∷ rest))) ∙ rw (taken a (mark close ∷ rest) h, other, eq-eqb close close refl)
  items_written a (b ∷ l) rest h k =
      let more = commaed (map (λ a. text (name a) ∷ behind a) (b ∷ l)) in
      ap (λ ts. items item close (text (name a) ∷ ts)) (append_assoc (behind a) (mark comma ∷ more) (mark close ∷ rest))
      ∙ items_step item close shrinks (text (name a) ∷ (behind a ++ (mark comma ∷ (more ++ (mark close ∷ rest)))))
      ∙ rw (taken a (mark comma ∷ (more ++ (mark close ∷ rest))) h, items_written b l rest k.0 k.1)

  any_items_written : (l : List A) (rest : List Token) → All P l
      → any_items item close (commaed (map (λ a. text (name a) ∷ behind a) l) ++ (mark close ∷ rest)) ≡ taking l rest
  unfolding commaed
  any_items_written [] rest h = rw (eq-eqb close close refl)
  any_items_written (a ∷ []) rest h = items_written a [] rest h.0 h.1
  any_items_written (a ∷ b ∷ l) rest h = items_written a (b ∷ l) rest h.0 h.1

parsed_digits : (n : ℕ) → n ≤ id_limit → parse id_limit (digits n) ≡ got n []
unfolding starts
parsed_digits n h = ap (parse id_limit) (sym (append-nil (digits n))) ∙ parse_digits id_limit n [] refl ∙ rw (le-leb n id_limit h)

number_taken : (n : ℕ) (rest : List Token) → leb n id_limit ≡ true → take_number (text (digits n) ∷ rest) ≡ taking n rest
unfolding take_number
number_taken n rest h = rw (parsed_digits n (leb-true n id_limit h))

setting_taken : (s : Setting) (rest : List Token) → ltb s.flag flag_count ≡ true → take_setting (setting_tokens s ++ rest) ≡ taking s rest
unfolding take_setting
setting_taken s rest h =
    rw (flag_place s.flag (ltb-true s.flag flag_count h), h) (cases s.set (λ on. rw on (cc)) (λ off. rw off (cc)))

numbers_taken : (ns : List ℕ) (rest : List Token) → every (λ n. leb n id_limit) ns ≡ true
    → take_numbers (mark opens_list ∷ (commaed (map (λ n. text (digits n) ∷ []) ns) ++ (mark closes_list ∷ rest))) ≡ taking ns rest
unfolding take_numbers
numbers_taken ns rest h =
    any_items_written take_number closes_list number_shrinks refl digits (λ n. []) (λ n. leb n id_limit ≡ true) number_taken ns rest
    (every_all (λ n. leb n id_limit) ns h)

settings_taken : (ss : List Setting) (rest : List Token) → is_full_set ss ≡ true → every (λ s. ltb s.flag flag_count) ss ≡ true
    → take_settings (mark opens_object ∷ (commaed (map setting_tokens ss) ++ (mark closes_object ∷ rest))) ≡ taking ss rest
unfolding take_settings
settings_taken ss rest full h =
    let inside = any_items_written take_setting closes_object setting_shrinks refl (λ s. get_or flag_names s.flag [])
    (λ s. mark colon ∷ mark (cond s.set true_mark false_mark) ∷ []) (λ s. ltb s.flag flag_count ≡ true) setting_taken ss rest
    (every_all (λ s. ltb s.flag flag_count) ss h) in
    rw (inside, full)

-- each key takes its own values
id_taken_lem : (x : List ℕ) (rest : List Token) → is_id_text x ≡ true → take_value id_place (text x ∷ rest) ≡ taking (letters x) rest
unfolding take_value
id_taken_lem x rest h = rw h

domain_taken : (x : List ℕ) (rest : List Token) → same default_domain x ≡ true → take_value domain_place (text x ∷ rest) ≡ taking (letters x) rest
unfolding take_value
domain_taken x rest h = rw h

actor_taken : (n : ℕ) (rest : List Token) → leb n id_limit ≡ true → take_value actor_place (number_tokens actor_place n ++ rest) ≡ taking (figure n) rest
unfolding take_value number_tokens
actor_taken n rest h = rw (number_taken n rest h)

kind_taken : (n : ℕ) (rest : List Token) → is_right n ≡ true → take_value kind_place (number_tokens kind_place n ++ rest) ≡ taking (figure n) rest
unfolding take_value number_tokens
kind_taken n rest h = rw (kind_place_lem n (ltb-true n right_count h), h)

depth_taken : (n : ℕ) (rest : List Token) → eqb n 0 ≡ true → take_value depth_place (number_tokens depth_place n ++ rest) ≡ taking (figure n) rest
unfolding take_value number_tokens
depth_taken n rest h = rw (eqb-true n 0 h)

resources_taken : (k : ℕ) (ns : List ℕ) (rest : List Token) → is_listed k ≡ true → leb (length ns) use_limit ≡ true
    → every (λ n. leb n id_limit) ns ≡ true → take_value k (value_tokens k (figures ns) ++ rest) ≡ taking (figures ns) rest
unfolding take_value value_tokens
resources_taken k ns rest place few fit =
    let numbers = commaed (map (λ n. text (digits n) ∷ []) ns) in
    let whole : (numbers ++ (mark closes_list ∷ [])) ++ rest ≡ numbers ++ (mark closes_list ∷ rest) = append_assoc numbers (mark closes_list ∷ []) rest in
    let step : take_numbers (mark opens_list ∷ ((numbers ++ (mark closes_list ∷ [])) ++ rest)) ≡ taking ns rest = rw whole (numbers_taken ns rest fit) in
    listed_cases (λ k. take_value k (value_tokens k (figures ns) ++ rest) ≡ taking (figures ns) rest) (rw (step, few)) (rw (step, few)) (rw (step, few)) k place

flags_taken : (ss : List Setting) (rest : List Token) → is_full_set ss ≡ true → every (λ s. ltb s.flag flag_count) ss ≡ true
    → take_value flags_place (value_tokens flags_place (settings ss) ++ rest) ≡ taking (settings ss) rest
unfolding take_value value_tokens
flags_taken ss rest full fit = rw (append_assoc (commaed (map setting_tokens ss)) (mark closes_object ∷ []) rest, settings_taken ss rest full fit)

-- what a key may hold is taken
value_taken : (k : ℕ) (v : Value) (rest : List Token) → value_fits k v ≡ true → take_value k (value_tokens k v ++ rest) ≡ taking v rest
unfolding value_tokens
value_taken k v rest =
    value_cases (λ k v. take_value k (value_tokens k v ++ rest) ≡ taking v rest) (λ x. id_taken_lem x rest) (λ x. domain_taken x rest)
    (λ n. actor_taken n rest) (λ n. kind_taken n rest) (λ n. depth_taken n rest) (λ k ns. resources_taken k ns rest) (λ ss. flags_taken ss rest) k v

member_taken : (m : Member) (rest : List Token) → MemberFits m → take_member (member_tokens m ++ rest) ≡ taking m rest
unfolding take_member member_tokens
member_taken m rest h = rw (key_place m.key (key_below m.key m.value h), value_taken m.key m.value rest h)

-- the members of an object are its own
pub members_taken : (ms : List Member) → All MemberFits ms → members_of (object_tokens ms) ≡ taking ms []
unfolding members_of object_tokens member_tokens
members_taken ms h =
    rw (any_items_written take_member closes_object member_shrinks refl (λ m. get_or key_names m.key []) (λ m. mark colon ∷ value_tokens m.key m.value)
    MemberFits member_taken ms [] h)
