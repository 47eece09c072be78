-- What is proved of the builder's JSON actions, over the definitions that the contracts of reading and writing cite. Assumes nothing.
use Rattle.std.proofs.Common.{Err, Ok, ℕ, ◌≤◌, ◌<◌, ◌≡◌, true, cond, List, [], ◌↔◌, leb, ltb, length, take}
use Rattle.lists.specs.Lists.{every, All}
use Rattle.register.specs.Limits.{moment_end}
use Rattle.actions.specs.declared.Usage.{Usage}
use Rattle.actions.specs.declared.Action.{Action}
use Rattle.refusals.specs.declared.Refusal.{Refusal}
use Rattle.refusals.specs.declared.Refusal.TheVariants.{Range, JsonForm}
use Rattle.json_tokens.specs.Tokens.{Token, tokens}
use Rattle.json_tokens.specs.Spelling.{Spelt, blanks, spelled_all, spaced}
use Rattle.json_rules.specs.Members.{Setting, Member, is_full_set, taking}
use Rattle.json_rules.specs.Actions.{flags_of, is_full, held_id, read_whole, read_members, unread, json_read, object_tokens, json_text, json_fits, json_holds}
use Rattle.json_rules.specs.Fitting.{MemberFits}
use Rattle.json_rules.specs.Orders.{uses_with, ordered, ordered_action, SameJson, Shuffled}
use Rattle.json_rules.proofs.Ordering as ordering
use Rattle.json_rules.proofs.ReadWritten as written
use Rattle.json_rules.proofs.WrittenRead as read
use Rattle.json_rules.proofs.OneText as one
use Rattle.json_rules.proofs.Shuffling as shuffling
use Rattle.json_rules.proofs.Answering as answering

-- 1a. Members in any order, each once with a value that its key may hold, the optional ones there or not, are accepted.
pub json_complete : (t : List ℕ) (moment : ℕ) (ms : List Member) → tokens t ≡ object_tokens ms → All MemberFits ms → is_full ms ≡ true
    → moment < moment_end → json_read t moment ≡ read_whole moment ms
json_complete = written.read_complete

-- 1b. Nothing else is.
pub json_sound : (t : List ℕ) (moment : ℕ) → (json_read t moment).outcome ≡ Ok tt
    → (ms : List Member) × (tokens t ≡ object_tokens ms) × All MemberFits ms × (is_full ms ≡ true) × (moment < moment_end) × (json_read t moment ≡ read_whole moment ms)
json_sound t moment h = let r = read.read_members_lem t moment h in (r.members, r.whole, r.fits, r.full, r.before, r.answer)

-- 2a. Reading what was written, at the action's clock, gives the same id, kind and action, with its uses ordered by right.
pub json_read_written : (a : Action) (id : List ℕ) (kind : ℕ) → json_fits a id kind ≡ true → json_holds a ≡ true
    → json_read (json_text a id kind) a.now ≡ record { action = ordered_action a; outcome = Ok tt; kind = kind; len = length id; id = held_id id }
json_read_written a id kind fits holds = written.read_written a id kind a.now fits (written.fine_fits a id kind fits).now

-- 2b. That order loses no use and brings none in.
pub json_order : (us : List Usage) → every (λ u. leb u.right 2) us ≡ true → Shuffled us (ordered us)
json_order = ordering.ordered_shuffled

-- 2c. The uses of one right stay in their old order.
pub json_order_kept : (us : List Usage) (b : ℕ) → b ≤ 2 → uses_with b (ordered us) ≡ uses_with b us
json_order_kept = ordering.ordered_kept

-- 3a. What was read is in range and has its place in the form, so that writing it is refused for no cause but 21.
pub json_read_fits : (t : List ℕ) (moment : ℕ) → (json_read t moment).outcome ≡ Ok tt → let r = json_read t moment in
    (json_fits r.action (take r.len r.id) r.kind ≡ true) × (json_holds r.action ≡ true)
json_read_fits t moment h = let back = read.written_read t moment h in (back.range, back.holds)

-- 3b. Written and read again, it is the same.
pub json_written_read : (t : List ℕ) (moment : ℕ) → (json_read t moment).outcome ≡ Ok tt → let r = json_read t moment in
    json_read (json_text r.action (take r.len r.id) r.kind) moment ≡ r
json_written_read t moment h = (read.written_read t moment h).again

-- 4. Two writings agree exactly where id, kind, actor, flags and ordered uses do.
pub json_one_text : (a b : Action) (id other : List ℕ) (kind right : ℕ) → json_fits a id kind ≡ true → json_fits b other right ≡ true
    → (json_text a id kind ≡ json_text b other right) ↔ SameJson a b id other kind right
json_one_text a b id other kind right fits fit = (one.text_same a b id other kind right fits fit, one.same_text a b id other kind right)

-- 5a. Members in another order are read the same.
pub json_any_order : (moment : ℕ) (ms ns : List Member) → Shuffled ms ns → read_members moment (taking ms []) ≡ read_members moment (taking ns [])
json_any_order = shuffling.members_shuffled

-- 5b. So are the texts of such members, full or not.
pub json_texts_any_order : (t u : List ℕ) (moment : ℕ) (ms ns : List Member) → tokens t ≡ object_tokens ms → tokens u ≡ object_tokens ns
    → All MemberFits ms → Shuffled ms ns → json_read t moment ≡ json_read u moment
json_texts_any_order = shuffling.texts_shuffled

-- 5c. Flags in another order are the ten where these are, and come to the same number.
pub flags_any_order : (ss us : List Setting) → Shuffled ss us → (is_full_set ss ≡ is_full_set us) × (flags_of ss ≡ flags_of us)
flags_any_order = shuffling.flags_shuffled

-- 6. Blanks in front of any token and at the end change nothing.
pub json_blanks : (ws : List (List ℕ)) (ts : List Token) (moment : ℕ) → All (λ w. blanks w ≡ true) ws → All Spelt ts
    → json_read (spaced ws ts) moment ≡ json_read (spelled_all ts) moment
json_blanks = answering.blanks_read

-- 7a. A refused reading is the action of zeros, no id and READ; it is 24 where the moment is below 2^32, else 2.
pub json_refused : (t : List ℕ) (moment : ℕ) (why : Refusal) → (json_read t moment).outcome ≡ Err why
    → (json_read t moment ≡ unread why) × (why ≡ cond (ltb moment moment_end) JsonForm Range)
json_refused = answering.read_refused

-- 7b. A moment of 2^32 or more is refused with 2, whatever the text.
pub json_clock_refused : (t : List ℕ) (moment : ℕ) → moment_end ≤ moment → json_read t moment ≡ unread Range
json_clock_refused = answering.clock_refused
