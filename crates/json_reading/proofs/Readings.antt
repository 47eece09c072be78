-- Laws of the action that is made of what is kept of an object's members. Assumes nothing.
use Rattle.std.proofs.Common.{Ok, ℕ, ◌+◌, ◌≤◌, ◌<◌, ◌≡◌, refl, sym, ◌∙◌, List, [], ◌∷◌, Bool, true, false, ◌&&◌, arith, lt-ltb, le-ltb, eqb-true, eqb, leb, length, take, drop, get_or, replicate, length-append, length-drop, length-take-le}
use mathlib.Core.Bool.{and-true}
use lib.ListN.{length-map}
use Rattle.lists.specs.Tests.{cases, clash, or_other, iff_same}
use Rattle.lists.specs.Lists.{any, All, counted, distinct}
use Rattle.lists.specs.Counts.{every_counted_sound, every_counted_complete}
use Rattle.lists.specs.Distinct.{distinct_nil}
use Rattle.register.specs.Limits.{moment_end}
use Rattle.actions.specs.Actions.{use_limit, govern_limit}
use Rattle.actions.specs.declared.Usage.{Usage}
use Rattle.refusals.specs.declared.Refusal.TheVariants.{Range, JsonForm}
use Rattle.json_tokens.specs.Tokens.{tokens}
use Rattle.json_rules.specs.Names.{id_place, actor_place, kind_place, read_place, write_place, execute_place, flags_place, domain_place}
use Rattle.json_rules.specs.Members.{Member, Value, Taken, missed, members_of, among_all, id_length, taking}
use Rattle.json_rules.specs.Actions.{uses_in, is_full, action_in, held_id, unread, read_whole, read_members, json_read, member_value}
use Rattle.json_rules.specs.declared.JsonRead.{JsonRead}
use Rattle.json_reading.specs.Answers.{block_of, list_room, keys_of, admitted_whole, Drafted, draft_full, uses_taken, uses_from, HoldsValue, KeptMembers}
use Rattle.json_reading.specs.declared.members.Draft.{Draft}

-- what is said of each member is said of what a key among them holds
held_at : (Q : ℕ → Value → Type 0) (k : ℕ) (ms : List Member) → All (λ m. Q m.key m.value) ms → any (eqb k) (keys_of ms) ≡ true
    → Q k (member_value k ms)
unfolding member_value
held_at Q k [] h there = clash false there refl
held_at Q k (m ∷ ms) h there =
    cases (eqb k m.key)
    (λ e. rw (e, eqb-true k m.key e) h.0)
    (λ e. rw e (held_at Q k ms h.1 (or_other (eqb k m.key) (any (eqb k) (keys_of ms)) there e)))

-- three tests, of which the first holds and the second is asked before the third
asked_last : (a b c d e : Bool) → a ≡ true → b ≡ d → (d ≡ true → c ≡ e) → a && (b && (c && true)) ≡ d && e
asked_last a b c true e first second third = rw (first, second, third refl) (and-true e)
asked_last a b c false e first second third = rw (first, second)

module _ {s numbers : List ℕ} {ms : List Member} {seen : List Bool} {figures froms lens : List ℕ} (kept : KeptMembers s numbers ms seen figures froms lens)
    (room : length numbers ≡ list_room) where
  abbrev reads : ℕ
  reads = get_or lens read_place 0

  abbrev writes : ℕ
  writes = get_or lens write_place 0

  abbrev executes : ℕ
  executes = get_or lens execute_place 0

  -- the keys that must be there were seen
  seen_among : draft_full seen ≡ among_all (counted 0 domain_place) (keys_of ms)
  seen_among =
      iff_same (draft_full seen) (among_all (counted 0 domain_place) (keys_of ms))
      (λ h. every_counted_complete (λ k. any (eqb k) (keys_of ms)) domain_place 0
      (λ k low high. sym (kept.marked k (omega arith)) ∙ every_counted_sound (λ k. get_or seen k false) domain_place 0 h k low high))
      (λ h. every_counted_complete (λ k. get_or seen k false) domain_place 0
      (λ k low high. kept.marked k (omega arith) ∙ every_counted_sound (λ k. any (eqb k) (keys_of ms)) domain_place 0 h k low high))

  module _ (full : draft_full seen ≡ true) where
    held : (k : ℕ) → k < domain_place → HoldsValue s numbers k (get_or figures k 0) (get_or froms k 0) (get_or lens k 0) (member_value k ms)
    held k below =
        held_at (λ key v. HoldsValue s numbers key (get_or figures key 0) (get_or froms key 0) (get_or lens key 0) v) k ms kept.held
        (sym (kept.marked k (omega arith)) ∙ every_counted_sound (λ k. get_or seen k false) domain_place 0 full k (omega arith) (omega arith))

    uses_taken_lem : uses_in ms ≡ uses_taken numbers reads writes executes
    unfolding uses_in
    uses_taken_lem =
        rw (
          ((held read_place (omega arith)).several (omega arith) (omega arith)).0,
          ((held write_place (omega arith)).several (omega arith) (omega arith)).0,
          ((held execute_place (omega arith)).several (omega arith) (omega arith)).0,
        )

    taken_length : (k : ℕ) → read_place ≤ k → k ≤ execute_place → length (take (get_or lens k 0) (drop (block_of k) numbers)) ≡ get_or lens k 0
    taken_length k low high =
        length-take-le (get_or lens k 0) (drop (block_of k) numbers) (simp length-drop (omega (arith, kept.short k low high)))

    uses_length : length (uses_in ms) ≡ reads + writes + executes
    uses_length =
        let one = taken_length read_place (omega arith) (omega arith) in
        let two = taken_length write_place (omega arith) (omega arith) in
        let three = taken_length execute_place (omega arith) (omega arith) in
        rw uses_taken_lem (simp (length-append, length-map, one, two, three) (omega arith))

    -- the id has its bytes in the text
    pub id_inside : (get_or froms id_place 0 + get_or lens id_place 0 ≤ length s) × (get_or lens id_place 0 ≤ id_length)
    id_inside = let id = (held id_place (omega arith)).letters refl in (id.2, id.1)

    -- the action with its id and kind
    pub read_made : (moment : ℕ) (uses : List Usage) (id : List ℕ) → uses ≡ uses_from numbers reads writes executes
        → id ≡ held_id (take (get_or lens id_place 0) (drop (get_or froms id_place 0) s))
        → ◌≡◌ {A = JsonRead} (record {
          action = record {
            actor = get_or figures actor_place 0;
            flags = get_or figures flags_place 0;
            now = moment;
            uses = uses;
            used = reads + writes + executes;
            governs = replicate govern_limit 0;
            governed = 0;
          };
          outcome = Ok tt;
          kind = get_or figures kind_place 0;
          len = get_or lens id_place 0;
          id = id;
        }) (read_whole moment ms)
    unfolding action_in uses_from
    read_made moment uses id used lettered =
        let letters = (held id_place (omega arith)).letters refl in
        let len : length (take (get_or lens id_place 0) (drop (get_or froms id_place 0) s)) ≡ get_or lens id_place 0 =
        length-take-le (get_or lens id_place 0) (drop (get_or froms id_place 0) s) (simp length-drop (omega (arith, letters.2))) in
        let actor = (held actor_place (omega arith)).single refl in
        let kind = (held kind_place (omega arith)).single refl in
        let flags = (held flags_place (omega arith)).flags refl in
        rw (used, lettered, ← uses_length, ← uses_taken_lem, actor, kind, flags, letters.0, len)

  -- the members are full where the code finds them so
  pub full_natural : is_full ms ≡ draft_full seen && leb (reads + writes + executes) use_limit
  unfolding is_full
  full_natural =
      asked_last (distinct (keys_of ms)) (among_all (counted 0 domain_place) (keys_of ms)) (leb (length (uses_in ms)) use_limit) (draft_full seen)
      (leb (reads + writes + executes) use_limit) kept.once (sym seen_among) (λ full. rw (uses_length full))

-- a clock out of range
pub json_late : (t : List ℕ) (moment : ℕ) → moment_end ≤ moment → json_read t moment ≡ unread Range
unfolding json_read
json_late t moment late = rw (le-ltb moment moment_end late)

json_timely : (t : List ℕ) (moment : ℕ) → moment < moment_end → json_read t moment ≡ read_members moment (members_of (tokens t))
unfolding json_read
json_timely t moment timely = rw (lt-ltb moment moment_end timely)

-- an object that is not admitted
unadmitted : (moment : ℕ) (p : Taken (List Member)) → admitted_whole p ≡ false → read_members moment p ≡ unread JsonForm
unfolding is_full
unadmitted moment (taking [] ts) e = rw distinct_nil
unadmitted moment (taking (m ∷ ms) ts) e = rw e
unadmitted moment missed e = refl

module _ (t : List ℕ) {moment : ℕ} (timely : moment < moment_end) where
  -- an object that is not admitted
  pub json_unadmitted : admitted_whole (members_of (tokens t)) ≡ false → json_read t moment ≡ unread JsonForm
  json_unadmitted e = json_timely t moment timely ∙ unadmitted moment (members_of (tokens t)) e

  module _ {numbers : List ℕ} (d : Draft) (a : Drafted t numbers d (members_of (tokens t))) (room : length numbers ≡ list_room) where
    abbrev members_full : Bool
    members_full = draft_full d.seen && leb (get_or d.lens read_place 0 + get_or d.lens write_place 0 + get_or d.lens execute_place 0) use_limit

    full_told : (b : Bool) → members_full ≡ b → is_full a.0 ≡ b
    full_told b e = full_natural a.2 room ∙ e

    -- a key is missing, or there are too many uses
    pub json_partial : members_full ≡ false → json_read t moment ≡ unread JsonForm
    json_partial e = json_timely t moment timely ∙ rw (a.1, full_told false e)

    pub json_whole : members_full ≡ true → json_read t moment ≡ read_whole moment a.0
    json_whole e = json_timely t moment timely ∙ rw (a.1, full_told true e)
