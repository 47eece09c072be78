-- Laws of the members of an object read one by one: what a key, its value and what follows it say of all of them. Assumes nothing.
use Rattle.std.proofs.Common.{ℕ, ◌≤◌, ◌<◌, ◌≡◌, refl, sym, ap, ◌∙◌, List, [], ◌∷◌, ◌++◌, Bool, true, false, arith, ne_eqb, eqb, length, drop, get_or, set, replicate, Some}
use mathlib.Core.List.{map-append}
use Rattle.lists.specs.Tests.{cases}
use Rattle.lists.specs.Lists.{any}
use Rattle.lists.specs.Distinct.{distinct_again}
use Rattle.json_tokens.specs.Tokens.{Token, mark, text, no_token, colon, closes_object, tokens}
use Rattle.json_rules.specs.Names.{key_names, place_of}
use Rattle.json_rules.specs.Members.{Member, Value, Taken, missed, past, named, take_text, led_by, further, items, take_value, take_held, take_member, taking}
use Rattle.json_rules.specs.Items.{missed_took, items_step, member_shrinks, prefixed, prefixed_nil, prefixed_led, key_count}
use Rattle.json_reading.specs.Answers.{Separation, more, no_more, broken, separation, key_of, list_room, Apart, keys_of, Drafted, admitted, Behind, HeldSays, HoldsValue, KeyedSays, KeptMembers}
use Rattle.json_reading.specs.declared.held.Held.{Held}
use Rattle.json_reading.proofs.Laws.{continued, separated_natural}
use Rattle.json_reading.proofs.Drafts.{Placed, kept_none, kept_next, placed_next}

-- what was taken is not what was missed
took_missed : {A C : Type 0} {a : A} {ts : List Token} → taking a ts ≡ missed → C
took_missed e = missed_took (sym e)

-- behind a key stands what the key leads to
module _ {A : Type 0} (go : ℕ → List Token → Taken A) where
  past_missed : (k : ℕ) (ts : List Token) → past colon (λ rest. taking k rest) ts ≡ missed → past colon (go k) ts ≡ missed
  past_missed k [] e = refl
  past_missed k (mark b ∷ ts) e = cases (eqb b colon) (λ here. took_missed (rw here at e)) (λ other. rw other)
  past_missed k (text x ∷ ts) e = refl
  past_missed k (no_token ∷ ts) e = refl

  past_took : (k : ℕ) (ts : List Token) (key : ℕ) (rest : List Token) → past colon (λ rest. taking k rest) ts ≡ taking key rest
      → past colon (go k) ts ≡ go key rest
  past_took k [] key rest e = missed_took e
  past_took k (mark b ∷ ts) key rest e =
      cases (eqb b colon)
      (λ here. let told : taking k ts ≡ taking key rest = rw here at e in
      let keys : k ≡ key = cc in
      let rests : ts ≡ rest = cc in
      rw (here, keys, rests))
      (λ other. missed_took (rw other at e))
  past_took k (text x ∷ ts) key rest e = missed_took e
  past_took k (no_token ∷ ts) key rest e = missed_took e

  named_missed : (x : Taken (List ℕ)) → named key_names (λ k rest. taking k rest) x ≡ missed → named key_names go x ≡ missed
  named_missed (taking x ts) e = past_missed (place_of key_names x) ts e
  named_missed missed e = refl

  named_took : (x : Taken (List ℕ)) (key : ℕ) (rest : List Token) → named key_names (λ k rest. taking k rest) x ≡ taking key rest
      → named key_names go x ≡ go key rest
  named_took (taking x ts) key rest e = past_took (place_of key_names x) ts key rest e
  named_took missed key rest e = missed_took e

unkeyed : (ts : List Token) → key_of ts ≡ missed → take_member ts ≡ missed
unfolding take_member
unkeyed ts e = named_missed take_held (take_text ts) e

keyed : (ts : List Token) (key : ℕ) (rest : List Token) → key_of ts ≡ taking key rest → take_member ts ≡ take_held key rest
unfolding take_member
keyed ts key rest e = named_took take_held (take_text ts) key rest e

-- a name that is no key's holds nothing
value_beyond : (k : ℕ) (ts : List Token) → key_count ≤ k → take_value k ts ≡ missed
unfolding take_value
value_beyond k ts beyond =
    rw (
      ne_eqb k 0 (λ e. omega arith),
      ne_eqb k 1 (λ e. omega arith),
      ne_eqb k 2 (λ e. omega arith),
      ne_eqb k 3 (λ e. omega arith),
      ne_eqb k 4 (λ e. omega arith),
      ne_eqb k 5 (λ e. omega arith),
      ne_eqb k 6 (λ e. omega arith),
      ne_eqb k 7 (λ e. omega arith),
      ne_eqb k 8 (λ e. omega arith),
    )

-- the item leads whatever is taken
continued_led : {A : Type 0} (go : List Token → Taken (List A)) (a : A) (p : Separation) → (x : Taken (List A)) × (continued go a p ≡ led_by a x)
continued_led go a (more us) = (go us, refl)
continued_led go a (no_more us) = (taking [] us, refl)
continued_led go a broken = (missed, refl)

-- the members up to the closing brace
abbrev pub members_in : List Token → Taken (List Member)
members_in ts = items take_member closes_object ts

members_step : (ts : List Token) → members_in ts ≡ further closes_object members_in (take_member ts)
members_step ts = items_step take_member closes_object member_shrinks ts

-- no member, or one and what follows it
pub members_missed : (ts : List Token) → take_member ts ≡ missed → members_in ts ≡ missed
members_missed ts e = members_step ts ∙ rw e

members_took : (ts : List Token) (m : Member) (rest : List Token) → take_member ts ≡ taking m rest
    → members_in ts ≡ continued members_in m (separation closes_object rest)
members_took ts m rest e = members_step ts ∙ rw e (separated_natural closes_object members_in m rest)

-- the member leads whatever is taken
pub members_led : (ts : List Token) (m : Member) (rest : List Token) → take_member ts ≡ taking m rest
    → (x : Taken (List Member)) × (members_in ts ≡ led_by m x)
members_led ts m rest e =
    let led = continued_led members_in m (separation closes_object rest) in
    (led.0, members_took ts m rest e ∙ led.1)

-- What was read up to a position: its members, and that the others follow them.
pub record Read (s : List ℕ) (begun : ℕ) (numbers : List ℕ) (seen : List Bool) (figures froms lens : List ℕ) (at : ℕ) : Type 0 where
  pub members : List Member
  pub follow : members_in (tokens (drop begun s)) ≡ prefixed members (members_in (tokens (drop at s)))
  pub kept : KeptMembers s numbers members seen figures froms lens
  pub placed : Placed seen figures froms lens
  pub room : length numbers ≡ list_room

pub read_start : (s : List ℕ) (begun : ℕ) (numbers : List ℕ) → length numbers ≡ list_room
    → Read s begun numbers (replicate key_count false) (replicate key_count 0) (replicate key_count 0) (replicate key_count 0) begun
read_start s begun numbers room = record {
  members = [];
  follow = sym (prefixed_nil (members_in (tokens (drop begun s))));
  kept = kept_none s numbers;
  placed = record { seen_count = refl; figure_count = refl; from_count = refl; len_count = refl };
  room = room;
}

admitted_missed : (ms : List Member) (x : Taken (List Member)) → x ≡ missed → admitted (prefixed ms x) ≡ false
unfolding prefixed
admitted_missed ms x e = rw e

admitted_again : (ms : List Member) (m : Member) (x : Taken (List Member)) → any (eqb m.key) (keys_of ms) ≡ true
    → admitted (prefixed ms (led_by m x)) ≡ false
unfolding prefixed
admitted_again ms m (taking l ts) e =
    rw (map-append (λ (n : Member). n.key) ms (m ∷ l)) (distinct_again (keys_of ms) m.key (keys_of l) e)
admitted_again ms m missed e = refl

prefixed_done : (ms : List Member) (m : Member) (ts : List Token) → prefixed ms (taking (m ∷ []) ts) ≡ taking (ms ++ (m ∷ [])) ts
unfolding prefixed
prefixed_done ms m ts = refl

-- what is read of a key and its value says of the member
module _ (s : List ℕ) (at : ℕ) (numbers : List ℕ) where
  pub member_unkeyed : key_of (tokens (drop at s)) ≡ missed → take_member (tokens (drop at s)) ≡ missed
  member_unkeyed e = unkeyed (tokens (drop at s)) e

  module _ (key next : ℕ) (named : key_of (tokens (drop at s)) ≡ taking key (tokens (drop next s))) where
    pub member_beyond : key_count ≤ key → take_member (tokens (drop at s)) ≡ missed
    member_beyond beyond = rw (keyed (tokens (drop at s)) key (tokens (drop next s)) named, value_beyond key (tokens (drop next s)) beyond)

    pub member_missed : take_value key (tokens (drop next s)) ≡ missed → take_member (tokens (drop at s)) ≡ missed
    member_missed e = rw (keyed (tokens (drop at s)) key (tokens (drop next s)) named, e)

    pub member_held : (h : Held) → key < key_count → Behind s at next → HeldSays s next key numbers (Some h) (take_value key (tokens (drop next s)))
        → KeyedSays s at numbers (Some (record { key = key; held = h })) (take_member (tokens (drop at s)))
    member_held h known behind says = (
      says.0,
      rw (keyed (tokens (drop at s)) key (tokens (drop next s)) named, says.1),
      known,
      (omega (arith, behind.0, says.2.0), says.2.1),
      says.3,
    )

module _ {s : List ℕ} {begun : ℕ} {numbers : List ℕ} {seen : List Bool} {figures froms lens : List ℕ} {at : ℕ}
    (r : Read s begun numbers seen figures froms lens at) where
  abbrev here : List Token
  here = tokens (drop at s)

  abbrev all : Taken (List Member)
  all = members_in (tokens (drop begun s))

  -- no member follows
  pub read_missing : take_member here ≡ missed → admitted all ≡ false
  read_missing e = rw r.follow (admitted_missed r.members (members_in here) (members_missed here e))

  module _ (key : ℕ) (v : Value) (rest : List Token) (taken : take_member here ≡ taking (record { key = key; value = v }) rest) where
    abbrev member : Member
    member = record { key = key; value = v }

    -- the key was there before
    pub read_again : key < key_count → get_or seen key false ≡ true → admitted all ≡ false
    read_again known again =
        let there : any (eqb key) (keys_of r.members) ≡ true = sym (r.kept.marked key known) ∙ again in
        let led = members_led here member rest taken in
        rw (r.follow, led.1) (admitted_again r.members member led.0 there)

    follows : all ≡ prefixed r.members (continued members_in member (separation closes_object rest))
    follows = r.follow ∙ ap (prefixed r.members) (members_took here member rest taken)

    -- neither a comma nor the closing brace follows
    pub read_broken : separation closes_object rest ≡ broken → admitted all ≡ false
    read_broken e = rw (follows, e) (admitted_missed r.members missed refl)

    module _ (new : List ℕ) (figure from len : ℕ) (room : length new ≡ length numbers) (known : key < key_count) (fresh : get_or seen key false ≡ false)
        (apart : Apart key numbers new) (holds : HoldsValue s new key figure from len v) where
      -- a comma follows
      pub read_next : (next : ℕ) → separation closes_object rest ≡ more (tokens (drop next s))
          → Read s begun new (set seen key true) (set figures key figure) (set froms key from) (set lens key len) next
      read_next next e = record {
        members = r.members ++ (member ∷ []);
        follow = follows ∙ rw e (prefixed_led r.members member (members_in (tokens (drop next s))));
        kept = kept_next r.kept r.placed key figure from len v known fresh apart holds;
        placed = placed_next r.kept r.placed key figure from len v known fresh apart holds;
        room = room ∙ r.room;
      }

      -- the closing brace follows
      pub read_done : (next : ℕ) → separation closes_object rest ≡ no_more (tokens (drop next s))
          → Drafted s new (record {
            next = next;
            seen = set seen key true;
            figures = set figures key figure;
            froms = set froms key from;
            lens = set lens key len;
          }) all
      read_done next e = (
        r.members ++ (member ∷ []),
        follows ∙ rw e (prefixed_done r.members member (tokens (drop next s))),
        kept_next r.kept r.placed key figure from len v known fresh apart holds,
      )
