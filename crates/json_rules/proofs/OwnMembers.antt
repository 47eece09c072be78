-- What a key takes is written as its tokens, and the key may hold it; so the members of some tokens are those whose tokens they are.
-- Assumes nothing.
use Rattle.std.proofs.Common.{ℕ, ◌≡◌, refl, sym, ap, ◌∙◌, true, ◌&&◌, List, [], ◌∷◌, ◌++◌, map, append_assoc, eqb-true, ltb-true, eqb, leb, ltb, length, get_or}
use Rattle.lists.specs.Tests.{cases, and_both}
use Rattle.lists.specs.Lists.{every, All, same}
use Rattle.lists.specs.Each.{all_every}
use Rattle.register.specs.Limits.{id_limit}
use Rattle.rights.specs.Rights.{right_count, is_right}
use Rattle.actions.specs.Actions.{use_limit, flag_count}
use Rattle.decimals.specs.Decimals.{digits}
use Rattle.json_tokens.specs.Tokens.{Token, mark, text, colon, opens_list, closes_list, opens_object, closes_object, zero_mark}
use Rattle.json_rules.specs.Names.{key_names, kind_names, place_of, default_domain, id_place, actor_place, kind_place, flags_place, domain_place, depth_place}
use Rattle.json_rules.specs.Members.{Setting, Value, letters, figure, figures, settings, Member, Taken, taking, missed, past, made, any_items, take_text, take_number, take_numbers, take_setting, take_settings, take_zero, take_value, take_held, take_member, sole, members_of, is_id_text, is_full_set}
use Rattle.json_rules.specs.Actions.{commaed, setting_tokens, number_tokens, value_tokens, member_tokens, object_tokens}
use Rattle.json_rules.specs.Items.{missed_took}
use Rattle.json_rules.specs.Fitting.{value_fits, MemberFits}
use Rattle.json_rules.proofs.Naming.{placed_name}
use Rattle.json_rules.proofs.Holding.{is_listed, key_below}
use Rattle.json_rules.proofs.Own.{text_own, made_own, past_own, named_own, number_own, setting_own, any_items_own}

closed_own : (shown rest : List Token) (close : ℕ) → shown ++ (mark close ∷ rest) ≡ (shown ++ (mark close ∷ [])) ++ rest
closed_own shown rest close = sym (append_assoc shown (mark close ∷ []) rest)

numbers_own : (k : ℕ) (ts : List Token) (ns : List ℕ) (rest : List Token) → take_numbers ts ≡ taking ns rest
    → (ts ≡ value_tokens k (figures ns) ++ rest) × (every (λ n. leb n id_limit) ns ≡ true)
unfolding take_numbers value_tokens
numbers_own k ts ns rest e =
    let read = past_own opens_list (any_items take_number closes_list) ts ns rest e in
    let inside = any_items_own take_number closes_list (λ n. text (digits n) ∷ []) (λ n. leb n id_limit ≡ true) number_own read.0 ns rest read.2 in (
      read.1 ∙ ap (λ us. mark opens_list ∷ us) (inside.0 ∙ closed_own (commaed (map (λ n. text (digits n) ∷ []) ns)) rest closes_list),
      all_every (λ n. leb n id_limit) ns inside.1,
    )

settings_own : (k : ℕ) (ts : List Token) (ss : List Setting) (rest : List Token) → take_settings ts ≡ taking ss rest
    → (ts ≡ value_tokens k (settings ss) ++ rest) × (is_full_set ss && every (λ s. ltb s.flag flag_count) ss ≡ true)
unfolding take_settings value_tokens
settings_own k ts ss rest e =
    let full = made_own is_full_set (λ ss. ss) (past opens_object (any_items take_setting closes_object) ts) ss rest e in
    let read = past_own opens_object (any_items take_setting closes_object) ts ss rest (full.taken ∙ ap (λ ss. taking ss rest) full.whole) in
    let inside = any_items_own take_setting closes_object setting_tokens (λ s. ltb s.flag flag_count ≡ true) setting_own read.0 ss rest read.2 in (
      read.1 ∙ ap (λ us. mark opens_object ∷ us) (inside.0 ∙ closed_own (commaed (map setting_tokens ss)) rest closes_object),
      and_both (is_full_set ss) (every (λ s. ltb s.flag flag_count) ss) (ap is_full_set (sym full.whole) ∙ full.fit)
          (all_every (λ s. ltb s.flag flag_count) ss inside.1),
    )

-- what a key takes is written as its tokens, and the key may hold it
abbrev ValueOwn : ℕ → List Token → Value → List Token → Type 0
ValueOwn k ts v rest = (ts ≡ value_tokens k v ++ rest) × (value_fits k v ≡ true)

id_own : (ts : List Token) (v : Value) (rest : List Token) → made is_id_text letters (take_text ts) ≡ taking v rest → ValueOwn id_place ts v rest
unfolding value_tokens value_fits
id_own ts v rest e =
    let read = made_own is_id_text letters (take_text ts) v rest e in
    rw (← read.whole) (text_own ts read.of rest read.taken, rw read.fit)

domain_own : (ts : List Token) (v : Value) (rest : List Token) → made (same default_domain) letters (take_text ts) ≡ taking v rest → ValueOwn domain_place ts v rest
unfolding value_tokens value_fits
domain_own ts v rest e =
    let read = made_own (same default_domain) letters (take_text ts) v rest e in
    rw (← read.whole) (text_own ts read.of rest read.taken, rw read.fit)

actor_own : (ts : List Token) (v : Value) (rest : List Token) → made (λ n. true) figure (take_number ts) ≡ taking v rest → ValueOwn actor_place ts v rest
unfolding value_tokens value_fits number_tokens
actor_own ts v rest e =
    let read = made_own (λ n. true) figure (take_number ts) v rest e in
    let number = number_own ts read.of rest read.taken in
    rw (← read.whole) (number.0, rw number.1)

kind_own : (ts : List Token) (v : Value) (rest : List Token)
    → made (λ x. is_right (place_of kind_names x)) (λ x. figure (place_of kind_names x)) (take_text ts) ≡ taking v rest → ValueOwn kind_place ts v rest
unfolding value_tokens value_fits number_tokens
kind_own ts v rest e =
    let read = made_own (λ x. is_right (place_of kind_names x)) (λ x. figure (place_of kind_names x)) (take_text ts) v rest e in
    let name = placed_name kind_names read.of (ltb-true (place_of kind_names read.of) right_count read.fit) in
    rw (← read.whole) (text_own ts read.of rest read.taken ∙ ap (λ x. text x ∷ rest) (sym name), rw read.fit)

resources_own : (k : ℕ) (ts : List Token) (v : Value) (rest : List Token) → is_listed k ≡ true
    → made (λ ns. leb (length ns) use_limit) figures (take_numbers ts) ≡ taking v rest → ValueOwn k ts v rest
unfolding value_fits
resources_own k ts v rest place e =
    let read = made_own (λ ns. leb (length ns) use_limit) figures (take_numbers ts) v rest e in
    let numbers = numbers_own k ts read.of rest read.taken in
    rw (← read.whole) (numbers.0, rw (place, read.fit) numbers.1)

flags_own : (ts : List Token) (v : Value) (rest : List Token) → made (λ ss. true) settings (take_settings ts) ≡ taking v rest → ValueOwn flags_place ts v rest
unfolding value_fits
flags_own ts v rest e =
    let read = made_own (λ ss. true) settings (take_settings ts) v rest e in
    let set = settings_own flags_place ts read.of rest read.taken in
    rw (← read.whole) (set.0, set.1)

depth_own : (ts : List Token) (v : Value) (rest : List Token) → take_zero ts ≡ taking v rest → ValueOwn depth_place ts v rest
unfolding value_tokens value_fits number_tokens
depth_own ts v rest e =
    let read = past_own zero_mark (λ us. taking (figure 0) us) ts v rest e in
    let what : taking (figure 0) read.0 ≡ taking v rest = read.2 in
    let zeros : figure 0 ≡ v = cc in
    let rests : read.0 ≡ rest = cc in
    rw (← zeros) (read.1 ∙ ap (λ us. mark zero_mark ∷ us) rests, refl)

value_own : (k : ℕ) (ts : List Token) (v : Value) (rest : List Token) → take_value k ts ≡ taking v rest → ValueOwn k ts v rest
unfolding take_value
value_own k ts v rest e =
    let at : (j : ℕ) → (eqb k j ≡ true → ValueOwn j ts v rest → ValueOwn k ts v rest) = λ j t own. rw (eqb-true k j t) own in
    cases (eqb k id_place) (λ t. at id_place t (id_own ts v rest (rw t at e)))
    (λ id. cases (eqb k actor_place) (λ t. at actor_place t (actor_own ts v rest (rw (id, t) at e)))
    (λ actor. cases (eqb k kind_place) (λ t. at kind_place t (kind_own ts v rest (rw (id, actor, t) at e)))
    (λ kind. cases (is_listed k) (λ t. resources_own k ts v rest t (rw (id, actor, kind, t) at e))
    (λ listed. cases (eqb k flags_place) (λ t. at flags_place t (flags_own ts v rest (rw (id, actor, kind, listed, t) at e)))
    (λ flags. cases (eqb k domain_place) (λ t. at domain_place t (domain_own ts v rest (rw (id, actor, kind, listed, flags, t) at e)))
    (λ domain. cases (eqb k depth_place) (λ t. at depth_place t (depth_own ts v rest (rw (id, actor, kind, listed, flags, domain, t) at e)))
    (λ depth. missed_took (rw (id, actor, kind, listed, flags, domain, depth) at e))))))))

held_own : (x : List ℕ) (us : List Token) (m : Member) (rest : List Token) → take_held (place_of key_names x) us ≡ taking m rest
    → (text x ∷ mark colon ∷ us ≡ member_tokens m ++ rest) × MemberFits m
unfolding member_tokens
held_own x us m rest e =
    let k = place_of key_names x in
    let read = made_own (λ v. true) (λ v. record { key = k; value = v }) (take_value k us) m rest e in
    let value = value_own k us read.of rest read.taken in
    let name = placed_name key_names x (key_below k read.of value.1) in
    rw (← read.whole) (ap (λ y. text y ∷ mark colon ∷ us) (sym name) ∙ ap (λ vs. text (get_or key_names k []) ∷ mark colon ∷ vs) value.0, value.1)

member_own : (ts : List Token) (m : Member) (rest : List Token) → take_member ts ≡ taking m rest → (ts ≡ member_tokens m ++ rest) × MemberFits m
unfolding take_member
member_own ts m rest e =
    let read = named_own key_names take_held ts m rest e in
    let held = held_own read.0 read.1 m rest read.3 in
    (read.2 ∙ held.0, held.1)

sole_own : {A : Type 0} (x : Taken A) (a : A) (rest : List Token) → sole x ≡ taking a rest → x ≡ taking a []
sole_own (taking b []) a rest e = let same : b ≡ a = cc in rw same
sole_own (taking b (k ∷ ts)) a rest e = missed_took e
sole_own missed a rest e = missed_took e

-- the members of tokens are those whose tokens they are, and each fits
pub members_own : (ts : List Token) (ms : List Member) (rest : List Token) → members_of ts ≡ taking ms rest → (ts ≡ object_tokens ms) × All MemberFits ms
unfolding members_of object_tokens
members_own ts ms rest e =
    let read = past_own opens_object (any_items take_member closes_object) ts ms [] (sole_own (past opens_object (any_items take_member closes_object) ts) ms rest e) in
    let inside = any_items_own take_member closes_object member_tokens MemberFits member_own read.0 ms [] read.2 in
    (read.1 ∙ ap (λ us. mark opens_object ∷ us) inside.0, inside.1)
