-- The order of the members, and of the flags, does not matter. Assumes nothing.
use Rattle.std.proofs.Common.{ℕ, zero, suc, ◌≡◌, refl, sym, ap, ◌∙◌, Bool, true, false, not, cond, ◌&&◌, ◌||◌, List, [], ◌∷◌, map, eq-eqb, eqb-true, eqb, leb, ltb, length}
use borrow.Author.Tests.{not-true}
use Rattle.lists.specs.Tests.{cases, clash, and_left, and_right, or_left, eqb_turned}
use Rattle.lists.specs.Lists.{any, All, counted, distinct}
use Rattle.actions.specs.Actions.{use_limit, flag_count}
use Rattle.register.specs.Limits.{moment_end}
use Rattle.refusals.specs.declared.Refusal.TheVariants.{Range}
use Rattle.json_tokens.specs.Tokens.{tokens}
use Rattle.json_rules.specs.Names.{domain_place, read_place, write_place, execute_place, actor_place, flags_place, kind_place, id_place}
use Rattle.json_rules.specs.Members.{Setting, Member, among_all, is_full_set, taking}
use Rattle.json_rules.specs.Actions.{set_among, flags_below, flags_of, uses_in, is_full, action_in, read_members, read_whole, unread, json_read, object_tokens, member_value}
use Rattle.json_rules.specs.Fitting.{MemberFits}
use Rattle.json_rules.specs.Orders.{Shuffled, none, swapped, twice, same_first}
use Rattle.json_rules.proofs.Taking.{members_taken}

or_swap : (a b c : Bool) → a || (b || c) ≡ b || (a || c)
or_swap true true c = refl
or_swap true false c = refl
or_swap false b c = refl

module _ {A : Type 0} where
  pub any_shuffled : (p : A → Bool) {l m : List A} → Shuffled l m → any p l ≡ any p m
  any_shuffled p none = refl
  any_shuffled p (same_first {a} s) = ap (λ b. p a || b) (any_shuffled p s)
  any_shuffled p (swapped {a} {b} {l}) = or_swap (p a) (p b) (any p l)
  any_shuffled p (twice s t) = any_shuffled p s ∙ any_shuffled p t

  pub all_shuffled : (Q : A → Type 0) {l m : List A} → Shuffled l m → All Q l → All Q m
  all_shuffled Q none h = h
  all_shuffled Q (same_first s) h = (h.0, all_shuffled Q s h.1)
  all_shuffled Q swapped h = (h.1.0, (h.0, h.1.1))
  all_shuffled Q (twice s t) h = all_shuffled Q t (all_shuffled Q s h)

pub map_shuffled : {A B : Type 0} (f : A → B) {l m : List A} → Shuffled l m → Shuffled (map f l) (map f m)
map_shuffled f none = none
map_shuffled f (same_first s) = same_first (map_shuffled f s)
map_shuffled f swapped = swapped
map_shuffled f (twice s t) = twice (map_shuffled f s) (map_shuffled f t)

apart_swap : (e x y d : Bool) → not (e || x) && (not y && d) ≡ not (e || y) && (not x && d)
apart_swap true x y d = refl
apart_swap false true true d = refl
apart_swap false true false d = refl
apart_swap false false true d = refl
apart_swap false false false d = refl

distinct_shuffled : {l m : List ℕ} → Shuffled l m → distinct l ≡ distinct m
unfolding distinct
distinct_shuffled none = refl
distinct_shuffled (same_first {a} {l} {m} s) = rw (any_shuffled (eqb a) s, distinct_shuffled s)
distinct_shuffled (swapped {a} {b} {l}) = apart_swap (eqb a b) (any (eqb a) l) (any (eqb b) l) (distinct l) ∙ rw (eqb_turned a b)
distinct_shuffled (twice s t) = distinct_shuffled s ∙ distinct_shuffled t

among_shuffled : (wanted : List ℕ) {l m : List ℕ} → Shuffled l m → among_all wanted l ≡ among_all wanted m
among_shuffled [] s = refl
among_shuffled (k ∷ wanted) s = rw (any_shuffled (eqb k) s, among_shuffled wanted s)

-- what a key holds, where each is there once
held_swapped : (k : ℕ) (m n : Member) (ms : List Member) → eqb m.key n.key ≡ false → member_value k (m ∷ n ∷ ms) ≡ member_value k (n ∷ m ∷ ms)
unfolding member_value
held_swapped k m n ms apart =
    cases (eqb k m.key)
    (λ e. cases (eqb k n.key)
    (λ f. clash (eqb m.key n.key) (eq-eqb m.key n.key (sym (eqb-true k m.key e) ∙ eqb-true k n.key f)) apart) (λ f. rw (e, f)))
    (λ e. rw e)

abbrev keys_of : List Member → List ℕ
keys_of ms = map (λ m. m.key) ms

held_shuffled : {ms ns : List Member} → Shuffled ms ns → distinct (keys_of ms) ≡ true → (k : ℕ) → member_value k ms ≡ member_value k ns
unfolding member_value distinct
held_shuffled none h k = refl
held_shuffled (same_first {a = m} {l = ms} s) h k = rw (held_shuffled s (and_right (not (any (eqb m.key) (keys_of ms))) (distinct (keys_of ms)) h) k)
held_shuffled (swapped {a = m} {b = n} {l = ms}) h k =
    let first = and_left (not (eqb m.key n.key || any (eqb m.key) (keys_of ms))) (not (any (eqb n.key) (keys_of ms)) && distinct (keys_of ms)) h in
    held_swapped k m n ms (or_left (eqb m.key n.key) (any (eqb m.key) (keys_of ms))
    (not-true (eqb m.key n.key || any (eqb m.key) (keys_of ms)) first))
held_shuffled (twice s t) h k =
    held_shuffled s h k ∙ held_shuffled t (sym (distinct_shuffled (map_shuffled (λ (m : Member). m.key) s)) ∙ h) k

uses_shuffled : {ms ns : List Member} → Shuffled ms ns → distinct (keys_of ms) ≡ true → uses_in ms ≡ uses_in ns
unfolding uses_in
uses_shuffled s h = rw (held_shuffled s h read_place, held_shuffled s h write_place, held_shuffled s h execute_place)

whole_shuffled : (moment : ℕ) {ms ns : List Member} → Shuffled ms ns → distinct (keys_of ms) ≡ true → read_whole moment ms ≡ read_whole moment ns
unfolding action_in
whole_shuffled moment s h =
    rw (uses_shuffled s h, held_shuffled s h actor_place, held_shuffled s h flags_place, held_shuffled s h kind_place, held_shuffled s h id_place)

full_shuffled : {ms ns : List Member} → Shuffled ms ns → is_full ms ≡ is_full ns
unfolding is_full
full_shuffled {ms} s =
    let keys = map_shuffled (λ (m : Member). m.key) s in
    cases (distinct (keys_of ms))
    (λ t. rw (distinct_shuffled keys, among_shuffled (counted 0 domain_place) keys, uses_shuffled s t))
    (λ f. rw (sym (distinct_shuffled keys) ∙ f, f))

full_distinct : (ms : List Member) → is_full ms ≡ true → distinct (keys_of ms) ≡ true
unfolding is_full
full_distinct ms h = and_left (distinct (keys_of ms)) (among_all (counted 0 domain_place) (keys_of ms) && (leb (length (uses_in ms)) use_limit && true)) h

-- members in another order are read the same
pub members_shuffled : (moment : ℕ) (ms ns : List Member) → Shuffled ms ns → read_members moment (taking ms []) ≡ read_members moment (taking ns [])
members_shuffled moment ms ns s =
    cases (is_full ms)
    (λ t. rw (t, sym (full_shuffled s) ∙ t) (whole_shuffled moment s (full_distinct ms t)))
    (λ f. rw (f, sym (full_shuffled s) ∙ f))

-- and so are texts
pub texts_shuffled : (t u : List ℕ) (moment : ℕ) (ms ns : List Member) → tokens t ≡ object_tokens ms → tokens u ≡ object_tokens ns → All MemberFits ms
    → Shuffled ms ns → json_read t moment ≡ json_read u moment
unfolding json_read
texts_shuffled t u moment ms ns e f fits s =
    rw (e, f, members_taken ms fits, members_taken ns (all_shuffled MemberFits s fits)) (ap (λ r. cond (ltb moment moment_end) r (unread Range))
    (members_shuffled moment ms ns s))

-- and so are flags
set_shuffled : {ss us : List Setting} → Shuffled ss us → (n : ℕ) → flags_below n ss ≡ flags_below n us
unfolding flags_below
set_shuffled s zero = refl
set_shuffled {ss} {us} s (suc n) =
    let set : set_among ss n ≡ set_among us n = any_shuffled (λ (x : Setting). eqb n x.flag && x.set) s in rw (set_shuffled s n, set)

pub flags_shuffled : (ss us : List Setting) → Shuffled ss us → (is_full_set ss ≡ is_full_set us) × (flags_of ss ≡ flags_of us)
unfolding is_full_set
flags_shuffled ss us s =
    let flags = map_shuffled (λ (x : Setting). x.flag) s in
    (rw (distinct_shuffled flags, among_shuffled (counted 0 flag_count) flags), set_shuffled s flag_count)
