-- What is read is in range, can be written, and is read again as the same. Assumes nothing.
use Rattle.std.proofs.Common.{Err, Ok, ℕ, zero, suc, ◌-◌, ◌^◌, ◌<◌, ◌≡◌, refl, sym, ap, ◌∙◌, Bool, true, false, ◌&&◌, List, [], ◌∷◌, ◌++◌, map, arith, eqb-true, lt-ltb, ltb-true, ltb-false, eqb, leb, ltb, length, take, replicate}
use mathlib.Core.Bool.{or-false}
use lib.Seq.{take-append_seam}
use Rattle.lists.specs.Tests.{cases, clash, and_right, and_both}
use Rattle.lists.specs.Lists.{any, every, All, counted, distinct}
use Rattle.lists.specs.Each.{all_imp, each_all, all_every, every_all, every_map, ands_out, every_append}
use Rattle.lists.specs.Counts.{every_counted_sound}
use Rattle.register.specs.Limits.{id_limit, moment_end}
use Rattle.rights.specs.Rights.{is_right}
use Rattle.actions.specs.Actions.{no_use, use_limit, flag_count, uses_of, action_fits}
use Rattle.actions.specs.declared.Usage.{Usage}
use Rattle.refusals.specs.declared.Refusal.{Refusal}
use Rattle.refusals.specs.declared.Refusal.TheVariants.{Range, JsonForm}
use Rattle.json_tokens.specs.Tokens.{tokens}
use Rattle.json_rules.specs.Names.{id_place, actor_place, kind_place, read_place, write_place, execute_place, flags_place, domain_place}
use Rattle.json_rules.specs.Members.{Setting, Value, letters, figure, figures, settings, Member, members_of, among_all, is_id_text, id_length, taking}
use Rattle.json_rules.specs.Actions.{as_letters, as_figure, as_figures, as_settings, set_among, flags_below, flags_of, used_with, uses_in, is_full, action_in, held_id, read_whole, read_members, unread, json_read, object_tokens, json_text, json_fits, json_holds, member_value}
use Rattle.json_rules.specs.declared.JsonRead.{JsonRead}
use Rattle.json_rules.specs.Items.{taken_cases}
use Rattle.json_rules.specs.Fitting.{value_fits, MemberFits}
use Rattle.json_rules.specs.Orders.{ordered, ordered_at}
use Rattle.json_rules.proofs.Holding.{is_listed}
use Rattle.json_rules.proofs.Ordering.{laid_ordered}
use Rattle.json_rules.proofs.ReadWritten.{read_written}
use Rattle.json_rules.proofs.OwnMembers.{members_own}
use Rattle.json_rules.proofs.Answering.{in_time, clock_refused}

-- what an accepted text is
pub record Read (t : List ℕ) (moment : ℕ) : Type 0 where
  pub members : List Member
  pub before : moment < moment_end
  pub whole : tokens t ≡ object_tokens members
  pub fits : All MemberFits members
  pub full : is_full members ≡ true
  pub answer : json_read t moment ≡ read_whole moment members

-- a refused reading is none that is accepted
unread_clash : {A : Type 0} (r : JsonRead) (why : Refusal) → r ≡ unread why → r.outcome ≡ Ok tt → A
unread_clash r why e h =
    let refused : Err why ≡ (Ok tt) = sym (ap (λ (r : JsonRead). r.outcome) e) ∙ h in
    let never : ◌≡◌ {A = ℕ} 0 1 = cc in
    absurd (omega arith)

pub read_members_lem : (t : List ℕ) (moment : ℕ) → (json_read t moment).outcome ≡ Ok tt → Read t moment
read_members_lem t moment h =
    cases (ltb moment moment_end)
    (λ b. let before = ltb-true moment moment_end b in
    let read = in_time t moment before in
    taken_cases (members_of (tokens t))
    (λ ms rest e. let own = members_own (tokens t) ms rest e in
    let taken : json_read t moment ≡ read_members moment (taking ms rest) = read ∙ ap (read_members moment) e in
    cases (is_full ms)
    (λ full. record { members = ms; before = before; whole = own.0; fits = own.1; full = full; answer = taken ∙ rw full })
    (λ n. unread_clash (json_read t moment) JsonForm (taken ∙ rw n) h))
    (λ e. unread_clash (json_read t moment) JsonForm (read ∙ ap (read_members moment) e) h))
    (λ p. unread_clash (json_read t moment) Range (clock_refused t moment (ltb-false moment moment_end p)) h)

-- what a key holds, where it is there, is what it may hold
held_fits : (k : ℕ) (ms : List Member) → All MemberFits ms → any (eqb k) (map (λ m. m.key) ms) ≡ true → value_fits k (member_value k ms) ≡ true
unfolding member_value
held_fits k [] h there = clash false there refl
held_fits k (m ∷ ms) h there =
    cases (eqb k m.key) (λ e. rw (e, eqb-true k m.key e) h.0) (λ n. rw n (held_fits k ms h.1 (rw n at there)))

module _ (ms : List Member) (fits : All MemberFits ms) (full : is_full ms ≡ true) where
  abbrev tests : List Bool
  tests = distinct (map (λ m. m.key) ms) ∷ among_all (counted 0 domain_place) (map (λ m. m.key) ms) ∷ leb (length (uses_in ms)) use_limit ∷ []

  full_tests : All (λ b. b ≡ true) tests
  unfolding is_full
  full_tests = ands_out tests full

  -- each of the first seven keys is there
  needed : (k : ℕ) → k < domain_place → value_fits k (member_value k ms) ≡ true
  needed k below =
      held_fits k ms fits (every_counted_sound (λ k. any (eqb k) (map (λ m. m.key) ms)) domain_place 0 full_tests.1.0 k (omega arith) (omega arith))

  few : leb (length (uses_in ms)) use_limit ≡ true
  few = full_tests.1.1.0

id_held : (v : Value) → value_fits id_place v ≡ true → is_id_text (as_letters v) ≡ true
unfolding value_fits
id_held (letters x) h = sym (or-false (is_id_text x)) ∙ h
id_held (figure n) h = clash false h refl
id_held (figures ns) h = clash false h refl
id_held (settings ss) h = clash false h refl

actor_held : (v : Value) → value_fits actor_place v ≡ true → leb (as_figure v) id_limit ≡ true
unfolding value_fits
actor_held (letters x) h = clash false h refl
actor_held (figure n) h = sym (or-false (leb n id_limit)) ∙ h
actor_held (figures ns) h = clash false h refl
actor_held (settings ss) h = clash false h refl

kind_held : (v : Value) → value_fits kind_place v ≡ true → is_right (as_figure v) ≡ true
unfolding value_fits
kind_held (letters x) h = clash false h refl
kind_held (figure n) h = sym (or-false (is_right n)) ∙ h
kind_held (figures ns) h = clash false h refl
kind_held (settings ss) h = clash false h refl

resources_held : (k : ℕ) (v : Value) → value_fits k v ≡ true → every (λ n. leb n id_limit) (as_figures v) ≡ true
unfolding value_fits
resources_held k (letters x) h = refl
resources_held k (figure n) h = refl
resources_held k (figures ns) h =
    and_right (leb (length ns) use_limit) (every (λ n. leb n id_limit) ns) (and_right (is_listed k) (leb (length ns) use_limit && every (λ n. leb n id_limit) ns) h)
resources_held k (settings ss) h = refl

-- a number of flags is below the first bit that it has none of
flags_within : (n : ℕ) (ss : List Setting) → flags_below n ss < 2 ^ n
unfolding flags_below
flags_within zero ss = omega arith
flags_within (suc n) ss =
    cases (set_among ss n) (λ t. rw t (omega (arith, flags_within n ss))) (λ f. rw f (omega (arith, flags_within n ss)))

-- what holds of each resource with a right holds of each use of that right
used_every : (p : Usage → Bool) (b : ℕ) (ns : List ℕ) → every (λ n. p (record { resource = n; right = b })) ns ≡ true → every p (used_with b ns) ≡ true
used_every p b ns h = every_map (λ n. record { resource = n; right = b }) p ns ∙ h

-- what holds of the uses of each right holds of the uses of some members
in_every : (p : Usage → Bool) (ms : List Member) → every p (used_with 0 (as_figures (member_value read_place ms))) ≡ true
    → every p (used_with 1 (as_figures (member_value write_place ms))) ≡ true → every p (used_with 2 (as_figures (member_value execute_place ms))) ≡ true
    → every p (uses_in ms) ≡ true
unfolding uses_in
in_every p ms r w x =
    every_append p (used_with 0 (as_figures (member_value read_place ms)))
    (used_with 1 (as_figures (member_value write_place ms)) ++ used_with 2 (as_figures (member_value execute_place ms)))
    ∙ rw (every_append p (used_with 1 (as_figures (member_value write_place ms))) (used_with 2 (as_figures (member_value execute_place ms))), r, w) x

low_right : (b : ℕ) (ns : List ℕ) → leb b 2 ≡ true → every (λ u. leb u.right 2) (used_with b ns) ≡ true
low_right b ns low = used_every (λ u. leb u.right 2) b ns (all_every (λ n. leb b 2) ns (each_all (λ l n. leb b 2 ≡ true) (λ l n. low) ns))

in_range : (b : ℕ) (ns : List ℕ) → is_right b ≡ true → every (λ n. leb n id_limit) ns ≡ true
    → every (λ u. leb u.resource id_limit && is_right u.right) (used_with b ns) ≡ true
in_range b ns right h =
    used_every (λ u. leb u.resource id_limit && is_right u.right) b ns
    (all_every (λ n. leb n id_limit && is_right b) ns (all_imp (λ n. leb n id_limit ≡ true) (λ n. leb n id_limit && is_right b ≡ true)
    (λ n t. rw (t, right)) ns (every_all (λ n. leb n id_limit) ns h)))

module _ (moment : ℕ) (ms : List Member) (fits : All MemberFits ms) (full : is_full ms ≡ true) (before : moment < moment_end) where
  read_uses_lem : uses_of (action_in moment ms) ≡ uses_in ms
  unfolding action_in
  read_uses_lem = take-append_seam (uses_in ms) (replicate (use_limit - length (uses_in ms)) no_use)

  read_range : every (λ u. leb u.resource id_limit && is_right u.right) (uses_in ms) ≡ true
  read_range =
      let held : (k : ℕ) → (k < domain_place → every (λ n. leb n id_limit) (as_figures (member_value k ms)) ≡ true) =
      λ k h. resources_held k (member_value k ms) (needed ms fits full k h) in
      in_every (λ u. leb u.resource id_limit && is_right u.right) ms
      (in_range 0 (as_figures (member_value read_place ms)) refl (held read_place (omega arith)))
      (in_range 1 (as_figures (member_value write_place ms)) refl (held write_place (omega arith)))
      (in_range 2 (as_figures (member_value execute_place ms)) refl (held execute_place (omega arith)))

  -- what was read is in range
  read_fits : json_fits (action_in moment ms) (as_letters (member_value id_place ms)) (as_figure (member_value kind_place ms)) ≡ true
  unfolding json_fits action_fits action_in
  read_fits = rw (
    read_uses_lem,
    actor_held (member_value actor_place ms) (needed ms fits full actor_place (omega arith)),
    lt-ltb moment moment_end before,
    lt-ltb (flags_of (as_settings (member_value flags_place ms))) (2 ^ flag_count) (flags_within flag_count (as_settings (member_value flags_place ms))),
    few ms fits full,
    read_range,
    id_held (member_value id_place ms) (needed ms fits full id_place (omega arith)),
    kind_held (member_value kind_place ms) (needed ms fits full kind_place (omega arith)),
  )

  -- and has its place in the form
  read_holds : json_holds (action_in moment ms) ≡ true
  unfolding json_holds action_in
  read_holds =
      and_both (every (λ u. leb u.right 2) (uses_of (action_in moment ms))) (eqb (action_in moment ms).governed 0)
      (rw read_uses_lem (in_every (λ u. leb u.right 2) ms (low_right 0 (as_figures (member_value read_place ms)) refl)
      (low_right 1 (as_figures (member_value write_place ms)) refl) (low_right 2 (as_figures (member_value execute_place ms)) refl))) refl

  ordered_in : ordered (uses_in ms) ≡ uses_in ms
  unfolding uses_in
  ordered_in = laid_ordered (as_figures (member_value read_place ms)) (as_figures (member_value write_place ms)) (as_figures (member_value execute_place ms))

  -- its uses are ordered
  read_ordered : ordered_at moment (action_in moment ms) ≡ action_in moment ms
  unfolding ordered_at action_in
  read_ordered = rw (read_uses_lem, ordered_in)

  read_id : take (length (as_letters (member_value id_place ms))) (held_id (as_letters (member_value id_place ms))) ≡ as_letters (member_value id_place ms)
  read_id = take-append_seam (as_letters (member_value id_place ms)) (replicate (id_length - length (as_letters (member_value id_place ms))) 0)

  read_again : json_read (json_text (action_in moment ms) (as_letters (member_value id_place ms)) (as_figure (member_value kind_place ms))) moment ≡ read_whole moment ms
  read_again =
      read_written (action_in moment ms) (as_letters (member_value id_place ms)) (as_figure (member_value kind_place ms)) moment read_fits before ∙ rw read_ordered

-- what is in range, has its place in the form, and is read again as the same
pub record Back (moment : ℕ) (r : JsonRead) : Type 0 where
  pub range : json_fits r.action (take r.len r.id) r.kind ≡ true
  pub holds : json_holds r.action ≡ true
  pub again : json_read (json_text r.action (take r.len r.id) r.kind) moment ≡ r

pub written_read : (t : List ℕ) (moment : ℕ) → (json_read t moment).outcome ≡ Ok tt → Back moment (json_read t moment)
written_read t moment h =
    let read = read_members_lem t moment h in
    let ms = read.members in
    rw read.answer (record {
      range = rw (read_id moment ms read.fits read.full read.before) (read_fits moment ms read.fits read.full read.before);
      holds = read_holds moment ms read.fits read.full read.before;
      again = rw (read_id moment ms read.fits read.full read.before) (read_again moment ms read.fits read.full read.before);
    })
