-- The pieces of an action's text joined are the text of the form, and no text is longer than 807 bytes. Assumes nothing.
use Rattle.std.proofs.Common.{ℕ, zero, suc, ◌+◌, ◌*◌, ◌-◌, ◌^◌, ◌≤◌, ◌≡◌, refl, sym, ap, ◌∙◌, List, [], ◌∷◌, ◌++◌, map, append_assoc, append-nil, Bool, true, false, cond, ◌&&◌, arith, eqb, leb, ltb, length, get_or, length-append, length-take, eqb-true, leb-true}
use Rattle.lists.specs.Tests.{cases, and_left, and_right}
use Rattle.lists.specs.Lists.{every, counted}
use Rattle.lists.specs.Each.{ands_out}
use Rattle.decimals.specs.Decimals.{digits}
use Rattle.decimals.specs.Walk.{length_under}
use Rattle.rights.specs.Rights.{is_right}
use Rattle.register.specs.Limits.{id_limit, moment_end}
use Rattle.actions.specs.Actions.{use_limit, govern_limit, flag_count, uses_of, governs_of, action_fits}
use Rattle.actions.specs.declared.Usage.{Usage}
use Rattle.actions.specs.declared.Action.{Action}
use Rattle.json_tokens.specs.Tokens.{Token, mark, text, opens_object, closes_object, opens_list, closes_list, colon, comma, quote, zero_mark, true_mark, false_mark, true_word, false_word}
use Rattle.json_tokens.specs.Spelling.{spelled, spelled_all}
use Rattle.json_tokens.specs.SpellingLaws.{spelled_append}
use Rattle.json_rules.specs.Names.{key_names, kind_names, flag_names, default_domain, id_place, actor_place, kind_place, read_place, write_place, execute_place, flags_place, domain_place, depth_place}
use Rattle.json_rules.specs.Members.{Value, letters, figure, figures, settings, is_id_text, is_id_byte, id_length}
use Rattle.json_rules.specs.Actions.{resources_with, is_set, settings_from, commaed, setting_tokens, number_tokens, value_tokens, member_tokens, object_tokens, members_from, json_text, json_fits, json_limit}
use Rattle.json_writing.specs.Pieces.{name_text, kind_text, resource_entry, resources_from, resources_text, setting_text, flag_text, flags_from, flags_text, head_text, tail_text}

-- The text of the form.

-- texts of things, each but the first behind a comma
abbrev joined : {A : Type 0} → (A → List ℕ) → Bool → List A → List ℕ
joined t first [] = []
joined t first (x ∷ xs) = cond first [] (comma ∷ []) ++ (t x ++ joined t false xs)

-- things with commas between them, spelled
commaed_spelled : {A : Type 0} (f : A → List Token) (x : A) (xs : List A)
    → spelled_all (commaed (map f (x ∷ xs))) ≡ spelled_all (f x) ++ joined (λ y. spelled_all (f y)) false xs
unfolding commaed spelled_all spelled
commaed_spelled f x [] = sym (append-nil (spelled_all (f x)))
commaed_spelled f x (y ∷ ys) =
    spelled_append (f x) (mark comma ∷ commaed (map f (y ∷ ys)))
    ∙ ap (λ (l : List ℕ). spelled_all (f x) ++ (comma ∷ l)) (commaed_spelled f y ys)

all_spelled : {A : Type 0} (f : A → List Token) (xs : List A) → spelled_all (commaed (map f xs)) ≡ joined (λ y. spelled_all (f y)) true xs
unfolding commaed spelled_all
all_spelled f [] = refl
all_spelled f (x ∷ xs) = commaed_spelled f x xs

-- and between two marks
enclosed_spelled : {A : Type 0} (f : A → List Token) (xs : List A) (opening closing : ℕ)
    → spelled_all (mark opening ∷ (commaed (map f xs) ++ (mark closing ∷ [])))
    ≡ spelled (mark opening) ++ (joined (λ y. spelled_all (f y)) true xs ++ spelled (mark closing))
unfolding spelled_all
enclosed_spelled f xs opening closing =
    ap (λ (l : List ℕ). spelled (mark opening) ++ l)
    (spelled_append (commaed (map f xs)) (mark closing ∷ []) ∙ rw (all_spelled f xs, append-nil (spelled (mark closing))))

text_spelled : (x : List ℕ) → spelled_all (text x ∷ []) ≡ quote ∷ (x ++ (quote ∷ []))
unfolding spelled_all spelled
text_spelled x = rw append-nil

-- a name and what it holds
name_spelled : (x : List ℕ) (ts : List Token) → spelled_all (text x ∷ mark colon ∷ ts) ≡ name_text x ++ spelled_all ts
unfolding spelled_all spelled
name_spelled x ts = simp append_assoc

word_spelled : (b : Bool) → spelled_all (mark (cond b true_mark false_mark) ∷ []) ≡ cond b true_word false_word
unfolding spelled_all spelled
word_spelled true = refl
word_spelled false = refl

-- the flags behind the first
flags_behind : (flags i n : ℕ)
    → joined (λ s. spelled_all (setting_tokens s)) false (map (λ j. record { flag = j; set = is_set flags j }) (counted (suc i) n)) ≡ flags_from flags (suc i) n
unfolding flags_from
flags_behind flags i zero = refl
flags_behind flags i (suc n) =
    rw (
      name_spelled (get_or flag_names (suc i) []) (mark (cond (is_set flags (suc i)) true_mark false_mark) ∷ []),
      word_spelled (is_set flags (suc i)),
      flags_behind flags (suc i) n,
    )

flags_joined : (flags : ℕ) → joined (λ s. spelled_all (setting_tokens s)) true (settings_from flags) ≡ flags_text flags
unfolding flags_from
flags_joined flags =
    rw (name_spelled (get_or flag_names 0 []) (mark (cond (is_set flags 0) true_mark false_mark) ∷ []), word_spelled (is_set flags 0), flags_behind flags 0 9)

-- a resource's number, behind a comma or not
resource_joined : (first : Bool) (n : ℕ) (rest : List ℕ)
    → cond first [] (comma ∷ []) ++ (spelled_all (text (digits n) ∷ []) ++ rest) ≡ resource_entry first n ++ rest
unfolding resource_entry
resource_joined true n rest = rw (text_spelled (digits n))
resource_joined false n rest = rw (text_spelled (digits n))

resources_joined : (first : Bool) (b : ℕ) (us : List Usage)
    → joined (λ n. spelled_all (text (digits n) ∷ [])) first (resources_with b us) ≡ resources_from first b us
unfolding resources_with resources_from
resources_joined first b [] = refl
resources_joined first b (u ∷ us) =
    cases (eqb u.right b)
    (λ e. rw e (resource_joined first u.resource (joined (λ n. spelled_all (text (digits n) ∷ [])) false (resources_with b us))
    ∙ rw (resources_joined false b us)))
    (λ e. rw e (resources_joined first b us))

-- what each key holds
member_spelled : (k : ℕ) (v : Value) → spelled_all (member_tokens (record { key = k; value = v })) ≡ name_text (get_or key_names k []) ++ spelled_all (value_tokens k v)
unfolding member_tokens
member_spelled k v = name_spelled (get_or key_names k []) (value_tokens k v)

letters_spelled : (k : ℕ) (x : List ℕ) → spelled_all (value_tokens k (letters x)) ≡ quote ∷ (x ++ (quote ∷ []))
unfolding value_tokens
letters_spelled k x = text_spelled x

figures_spelled : (k b : ℕ) (us : List Usage)
    → spelled_all (value_tokens k (figures (resources_with b us))) ≡ opens_list ∷ (resources_text b us ++ (closes_list ∷ []))
unfolding value_tokens spelled
figures_spelled k b us =
    enclosed_spelled (λ n. text (digits n) ∷ []) (resources_with b us) opens_list closes_list ∙ rw (resources_joined true b us)

settings_spelled : (k flags : ℕ) → spelled_all (value_tokens k (settings (settings_from flags))) ≡ opens_object ∷ (flags_text flags ++ (closes_object ∷ []))
unfolding value_tokens spelled
settings_spelled k flags = enclosed_spelled setting_tokens (settings_from flags) opens_object closes_object ∙ rw (flags_joined flags)

depth_spelled : spelled_all (value_tokens depth_place (figure 0)) ≡ zero_mark ∷ []
unfolding value_tokens number_tokens spelled_all spelled
depth_spelled = refl

-- nine members with their values, joined or put piece by piece
arranged : (named actor kind read write execute flags domain depth id a k r w x f d : List ℕ)
    → opens_object ∷ (((named ++ (quote ∷ (id ++ (quote ∷ []))))
    ++ (comma ∷ ((actor ++ (quote ∷ (a ++ (quote ∷ []))))
    ++ (comma ∷ ((kind ++ (quote ∷ (k ++ (quote ∷ []))))
    ++ (comma ∷ ((read ++ (opens_list ∷ (r ++ (closes_list ∷ []))))
    ++ (comma ∷ ((write ++ (opens_list ∷ (w ++ (closes_list ∷ []))))
    ++ (comma ∷ ((execute ++ (opens_list ∷ (x ++ (closes_list ∷ []))))
    ++ (comma ∷ ((flags ++ (opens_object ∷ (f ++ (closes_object ∷ []))))
    ++ (comma ∷ ((domain ++ (quote ∷ (d ++ (quote ∷ []))))
    ++ (comma ∷ ((depth ++ (zero_mark ∷ [])) ++ [])))))))))))))))))
    ++ (closes_object ∷ []))
    ≡ ((opens_object ∷ (named ++ (quote ∷ [])))
    ++ (id
    ++ ((quote ∷ comma ∷ (actor ++ (quote ∷ [])))
    ++ (a ++ ((quote ∷ comma ∷ (kind ++ (quote ∷ []))) ++ (k ++ (quote ∷ comma ∷ (read ++ (opens_list ∷ [])))))))))
    ++ (r
    ++ ((closes_list ∷ comma ∷ (write ++ (opens_list ∷ [])))
    ++ (w
    ++ ((closes_list ∷ comma ∷ (execute ++ (opens_list ∷ [])))
    ++ (x
    ++ ((closes_list ∷ comma ∷ (flags ++ (opens_object ∷ [])))
    ++ (f ++ (closes_object ∷ comma ∷ (domain ++ (quote ∷ (d ++ (quote ∷ comma ∷ (depth ++ (zero_mark ∷ closes_object ∷ []))))))))))))))
arranged named actor kind read write execute flags domain depth id a k r w x f d = simp append_assoc

-- the text of the form is the pieces that the code puts
pub pieces_natural : (a : Action) (id : List ℕ) (kind : ℕ) → json_text a id kind ≡ head_text a.actor id kind ++ tail_text a
unfolding json_text object_tokens members_from number_tokens value_tokens spelled head_text tail_text
pieces_natural a id kind =
    enclosed_spelled member_tokens (members_from a id kind) opens_object closes_object
    ∙ rw (
      member_spelled id_place (letters id),
      letters_spelled id_place id,
      member_spelled actor_place (figure a.actor),
      text_spelled (digits a.actor),
      member_spelled kind_place (figure kind),
      text_spelled (kind_text kind),
      member_spelled read_place (figures (resources_with 0 (uses_of a))),
      figures_spelled read_place 0 (uses_of a),
      member_spelled write_place (figures (resources_with 1 (uses_of a))),
      figures_spelled write_place 1 (uses_of a),
      member_spelled execute_place (figures (resources_with 2 (uses_of a))),
      figures_spelled execute_place 2 (uses_of a),
      member_spelled flags_place (settings (settings_from a.flags)),
      settings_spelled flags_place a.flags,
      member_spelled domain_place (letters default_domain),
      letters_spelled domain_place default_domain,
      member_spelled depth_place (figure 0),
      depth_spelled,
    ) (arranged (name_text (get_or key_names id_place [])) (name_text (get_or key_names actor_place [])) (name_text (get_or key_names kind_place []))
    (name_text (get_or key_names read_place [])) (name_text (get_or key_names write_place [])) (name_text (get_or key_names execute_place []))
    (name_text (get_or key_names flags_place [])) (name_text (get_or key_names domain_place [])) (name_text (get_or key_names depth_place []))
    id (digits a.actor) (kind_text kind) (resources_text 0 (uses_of a)) (resources_text 1 (uses_of a)) (resources_text 2 (uses_of a))
    (flags_text a.flags) default_domain)

-- The length of the text.

-- a name among some, or none, is as long as the longest at most
named_length : (most : ℕ) (names : List (List ℕ)) → every (λ x. leb (length x) most) names ≡ true → (k : ℕ) → length (get_or names k []) ≤ most
named_length most [] h k = omega arith
named_length most (x ∷ names) h zero = leb-true (length x) most (and_left (leb (length x) most) (every (λ x. leb (length x) most) names) h)
named_length most (x ∷ names) h (suc k) = named_length most names (and_right (leb (length x) most) (every (λ x. leb (length x) most) names) h) k

kind_length : (kind : ℕ) → length (kind_text kind) ≤ 16
kind_length kind = named_length 16 kind_names refl kind

-- of all uses, each is taken with one right at most
taken_most : (us : List Usage) → length (resources_with 0 us) + (length (resources_with 1 us) + length (resources_with 2 us)) ≤ length us
unfolding resources_with
taken_most [] = omega arith
taken_most (u ∷ us) =
    let more = taken_most us in
    cases (eqb u.right 0) (λ e. rw (eqb-true u.right 0 e) (omega arith))
    (λ n. rw n (cases (eqb u.right 1) (λ e. rw (eqb-true u.right 1 e) (omega arith))
    (λ n. rw n (cases (eqb u.right 2) (λ e. rw e (omega arith)) (λ n. rw n (omega arith))))))

-- a resource's number takes 8 bytes at most, the first one of a list 7
resource_length : (first : Bool) (n : ℕ) → n ≤ id_limit → length (resource_entry first n) ≤ cond first 7 8
unfolding resource_entry
resource_length true n h = omega (arith, length-append (digits n) (quote ∷ []), length_under 4 n (omega arith))
resource_length false n h = omega (arith, length-append (digits n) (quote ∷ []), length_under 4 n (omega arith))

-- whether a use's numbers are in range
abbrev use_fits : Usage → Bool
use_fits u = leb u.resource id_limit && is_right u.right

resources_behind_length : (b : ℕ) (us : List Usage) → every use_fits us ≡ true → length (resources_from false b us) ≤ 8 * length (resources_with b us)
unfolding resources_from resources_with
resources_behind_length b [] h = omega arith
resources_behind_length b (u ∷ us) h =
    let more = resources_behind_length b us (and_right (use_fits u) (every use_fits us) h) in
    let small = leb-true u.resource id_limit (and_left (leb u.resource id_limit) (is_right u.right) (and_left (use_fits u) (every use_fits us) h)) in
    cases (eqb u.right b)
    (λ e. rw e (omega (arith, length-append (resource_entry false u.resource) (resources_from false b us), resource_length false u.resource small)))
    (λ e. rw e more)

resources_length : (b : ℕ) (us : List Usage) → every use_fits us ≡ true → length (resources_text b us) ≤ 8 * length (resources_with b us) - 1
unfolding resources_from resources_with
resources_length b [] h = omega arith
resources_length b (u ∷ us) h =
    let fit = and_right (use_fits u) (every use_fits us) h in
    let behind = resources_behind_length b us fit in
    let more = resources_length b us fit in
    let small = leb-true u.resource id_limit (and_left (leb u.resource id_limit) (is_right u.right) (and_left (use_fits u) (every use_fits us) h)) in
    cases (eqb u.right b)
    (λ e. rw e (omega (arith, length-append (resource_entry true u.resource) (resources_from false b us), resource_length true u.resource small)))
    (λ e. rw e more)

word_length : (b : Bool) → length (cond b true_word false_word) ≤ 5
word_length true = omega arith
word_length false = omega arith

-- as long as the flags are that are not set
abbrev flags_most : ℕ → ℕ → ℕ
flags_most i zero = 0
flags_most i (suc n) = length (flag_text i) + 5 + flags_most (suc i) n

flags_length : (flags i n : ℕ) → length (flags_from flags i n) ≤ flags_most i n
unfolding flags_from
flags_length flags i zero = omega arith
flags_length flags i (suc n) =
    omega (
      arith,
      length-append (setting_text (flag_text i) flags i) (flags_from flags (suc i) n),
      length-append (flag_text i) (cond (is_set flags i) true_word false_word),
      word_length (is_set flags i),
      flags_length flags (suc i) n,
    )

-- up to the resources: an id of 64 bytes, an actor of 5 digits, the longest kind
head_length : (actor : ℕ) (id : List ℕ) (kind : ℕ) → actor ≤ id_limit → length id ≤ id_length → length (head_text actor id kind) ≤ 144
unfolding head_text
head_length actor id kind small short = simp length-append (omega (arith, length_under 4 actor (omega arith), kind_length kind))

-- from the resources on: three lists of 32 numbers together, and ten flags that are not set
tail_length : (a : Action) → a.used ≤ use_limit → every use_fits (uses_of a) ≡ true → length (tail_text a) ≤ 663
unfolding tail_text
tail_length a few fit =
    simp length-append (omega (
      arith,
      resources_length 0 (uses_of a) fit,
      resources_length 1 (uses_of a) fit,
      resources_length 2 (uses_of a) fit,
      taken_most (uses_of a),
      length-take a.used a.uses,
      flags_length a.flags 0 flag_count,
    ))

-- no text of an action in range is longer than 807 bytes
pub json_length : (a : Action) (id : List ℕ) (kind : ℕ) → json_fits a id kind ≡ true → length (json_text a id kind) ≤ json_limit
unfolding json_fits action_fits is_id_text
json_length a id kind h =
    let told = ands_out (leb a.actor id_limit ∷ ltb a.now moment_end ∷ ltb a.flags (2 ^ flag_count) ∷ leb a.used use_limit
    ∷ every use_fits (uses_of a) ∷ leb a.governed govern_limit ∷ every (λ g. leb g id_limit) (governs_of a) ∷ [])
    (and_left (action_fits a) (is_id_text id && is_right kind) h) in
    let written = and_left (is_id_text id) (is_right kind) (and_right (action_fits a) (is_id_text id && is_right kind) h) in
    let short = leb-true (length id) id_length (and_left (leb (length id) id_length) (every is_id_byte id) written) in
    omega (
      arith,
      ap length (pieces_natural a id kind),
      length-append (head_text a.actor id kind) (tail_text a),
      head_length a.actor id kind (leb-true a.actor id_limit told.0) short,
      tail_length a (leb-true a.used use_limit told.1.1.1.0) told.1.1.1.1.0,
    )
