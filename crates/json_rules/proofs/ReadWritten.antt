-- Members that fit are read, and so is what was written. Assumes nothing.
use Rattle.std.proofs.Common.{Ok, ℕ, ◌^◌, ◌≤◌, ◌<◌, ◌≡◌, refl, sym, ap, ◌∙◌, true, not, ◌&&◌, List, [], ◌∷◌, arith, ltb-true, leb-true, le-leb, lt-ltb, eqb, leb, ltb, length, length-take}
use lib.ListN.{length-map}
use Rattle.lists.specs.Tests.{cases, and_left, and_right, and_both}
use Rattle.lists.specs.Lists.{every, All, same, distinct}
use Rattle.lists.specs.Each.{ands_out}
use Rattle.lists.specs.Filters.{dropping_length}
use Rattle.register.specs.Limits.{id_limit, moment_end}
use Rattle.rights.specs.Rights.{is_right}
use Rattle.actions.specs.Actions.{use_limit, govern_limit, flag_count, uses_of, governs_of, action_fits}
use Rattle.actions.specs.declared.Usage.{Usage}
use Rattle.actions.specs.declared.Action.{Action}
use Rattle.json_tokens.specs.Tokens.{tokens}
use Rattle.json_tokens.specs.SpellingLaws.{tokens_spelled}
use Rattle.json_rules.specs.Members.{Member, is_id_text, is_full_set}
use Rattle.json_rules.specs.Actions.{uses_in, is_full, action_in, held_id, read_whole, json_read, resources_with, settings_from, members_from, object_tokens, json_text, json_fits, member_value}
use Rattle.json_rules.specs.Fitting.{value_fits, MemberFits}
use Rattle.json_rules.specs.Orders.{uses_with, ordered, ordered_at}
use Rattle.json_rules.proofs.Taking.{members_taken}
use Rattle.json_rules.proofs.Spelling.{object_spelt}
use Rattle.json_rules.proofs.Bits.{flags_written}
use Rattle.json_rules.proofs.Ordering.{used_resources, ordered_laid, ordered_length}

-- a text whose tokens are those of full members is read as these members
pub read_complete : (t : List ℕ) (moment : ℕ) (ms : List Member) → tokens t ≡ object_tokens ms → All MemberFits ms → is_full ms ≡ true
    → moment < moment_end → json_read t moment ≡ read_whole moment ms
unfolding json_read
read_complete t moment ms e fits full before = rw (lt-ltb moment moment_end before, e, members_taken ms fits, full)

-- an action that can be written, with its id and kind
pub record Fine (a : Action) (id : List ℕ) (kind : ℕ) : Type 0 where
  pub actor : leb a.actor id_limit ≡ true
  pub now : a.now < moment_end
  pub flags : a.flags < 2 ^ flag_count
  pub used : a.used ≤ use_limit
  pub uses : every (λ u. leb u.resource id_limit && is_right u.right) (uses_of a) ≡ true
  pub named : is_id_text id ≡ true
  pub right : is_right kind ≡ true

pub fine_fits : (a : Action) (id : List ℕ) (kind : ℕ) → json_fits a id kind ≡ true → Fine a id kind
unfolding json_fits action_fits
fine_fits a id kind h =
    let told = ands_out (
    leb a.actor id_limit
    ∷ ltb a.now moment_end
    ∷ ltb a.flags (2 ^ flag_count)
    ∷ leb a.used use_limit
    ∷ every (λ u. leb u.resource id_limit && is_right u.right) (uses_of a)
    ∷ leb a.governed govern_limit
    ∷ every (λ g. leb g id_limit) (governs_of a)
    ∷ []) (and_left (action_fits a) (is_id_text id && is_right kind) h) in
    let both = and_right (action_fits a) (is_id_text id && is_right kind) h in
    record {
      actor = told.0;
      now = ltb-true a.now moment_end told.1.0;
      flags = ltb-true a.flags (2 ^ flag_count) told.1.1.0;
      used = leb-true a.used use_limit told.1.1.1.0;
      uses = told.1.1.1.1.0;
      named = and_left (is_id_text id) (is_right kind) both;
      right = and_right (is_id_text id) (is_right kind) both;
    }

uses_few : (a : Action) → a.used ≤ use_limit → length (uses_of a) ≤ use_limit
uses_few a h = omega (arith, length-take a.used a.uses)

resources_few : (b : ℕ) (us : List Usage) → length us ≤ use_limit → leb (length (resources_with b us)) use_limit ≡ true
resources_few b us h =
    let many : length (resources_with b us) ≡ length (uses_with b us) =
    sym (length-map (resources_with b us) (λ n. record { resource = n; right = b })) ∙ ap length (used_resources b us) in
    le-leb (length (resources_with b us)) use_limit (omega (arith, dropping_length (λ us u. not (eqb u.right b)) us))

resources_within : (b : ℕ) (us : List Usage) → every (λ u. leb u.resource id_limit && is_right u.right) us ≡ true
    → every (λ n. leb n id_limit) (resources_with b us) ≡ true
unfolding resources_with
resources_within b [] h = refl
resources_within b (u ∷ us) h =
    let first = and_left (leb u.resource id_limit && is_right u.right) (every (λ u. leb u.resource id_limit && is_right u.right) us) h in
    let more = resources_within b us
    (and_right (leb u.resource id_limit && is_right u.right) (every (λ u. leb u.resource id_limit && is_right u.right) us) h) in
    cases (eqb u.right b) (λ e. rw (e, and_left (leb u.resource id_limit) (is_right u.right) first) more) (λ e. rw e more)

full_set_written : (flags : ℕ) → is_full_set (settings_from flags) ≡ true
unfolding is_full_set distinct
full_set_written flags = refl

members_fit : (a : Action) (id : List ℕ) (kind : ℕ) → Fine a id kind → All MemberFits (members_from a id kind)
unfolding members_from value_fits same
members_fit a id kind fine =
    let few = uses_few a fine.used in
    let lists : (b : ℕ) → leb (length (resources_with b (uses_of a))) use_limit && every (λ n. leb n id_limit) (resources_with b (uses_of a)) ≡ true =
    λ b. and_both (leb (length (resources_with b (uses_of a))) use_limit) (every (λ n. leb n id_limit) (resources_with b (uses_of a)))
    (resources_few b (uses_of a) few) (resources_within b (uses_of a) fine.uses) in
    (rw fine.named, (rw fine.actor, (rw fine.right, (lists 0, (lists 1, (lists 2, (rw (full_set_written a.flags), (refl, (refl, tt)))))))))

uses_in_written : (a : Action) (id : List ℕ) (kind : ℕ) → uses_in (members_from a id kind) ≡ ordered (uses_of a)
unfolding uses_in members_from member_value
uses_in_written a id kind = sym (ordered_laid (uses_of a))

full_written : (a : Action) (id : List ℕ) (kind : ℕ) → Fine a id kind → is_full (members_from a id kind) ≡ true
unfolding is_full members_from distinct
full_written a id kind fine =
    rw (uses_in_written a id kind, le-leb (length (ordered (uses_of a))) use_limit (omega (arith, ordered_length (uses_of a), uses_few a fine.used)))

whole_written : (a : Action) (id : List ℕ) (kind moment : ℕ) → Fine a id kind
    → read_whole moment (members_from a id kind) ≡ record { action = ordered_at moment a; outcome = Ok tt; kind = kind; len = length id; id = held_id id }
unfolding action_in ordered_at members_from member_value
whole_written a id kind moment fine = rw (uses_in_written a id kind, flags_written a.flags fine.flags)

-- what was written is read at every moment as the action with its uses ordered
pub read_written : (a : Action) (id : List ℕ) (kind moment : ℕ) → json_fits a id kind ≡ true → moment < moment_end
    → json_read (json_text a id kind) moment ≡ record { action = ordered_at moment a; outcome = Ok tt; kind = kind; len = length id; id = held_id id }
unfolding json_text
read_written a id kind moment h before =
    let fine = fine_fits a id kind h in
    let fits = members_fit a id kind fine in
    read_complete (json_text a id kind) moment (members_from a id kind) (tokens_spelled (object_tokens (members_from a id kind))
    (object_spelt (members_from a id kind) fits)) fits (full_written a id kind fine) before
    ∙ whole_written a id kind moment fine
