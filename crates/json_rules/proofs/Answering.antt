-- What a reading answers where it does not accept, and texts with the same tokens. Assumes nothing.
use Rattle.std.proofs.Common.{Err, Ok, ℕ, ◌≤◌, ◌<◌, ◌≡◌, refl, sym, ap, ◌∙◌, true, cond, List, arith, lt-ltb, le-ltb, ltb-true, ltb-false, ltb}
use Rattle.lists.specs.Tests.{cases}
use Rattle.lists.specs.Lists.{All}
use Rattle.register.specs.Limits.{moment_end}
use Rattle.refusals.specs.declared.Refusal.{Refusal}
use Rattle.refusals.specs.declared.Refusal.TheVariants.{Range, JsonForm}
use Rattle.json_tokens.specs.Tokens.{Token, tokens}
use Rattle.json_tokens.specs.Spelling.{Spelt, blanks, spelled_all, spaced}
use Rattle.json_tokens.specs.SpellingLaws.{tokens_spelled, tokens_spaced}
use Rattle.json_rules.specs.Members.{Member, Taken, missed, members_of, taking}
use Rattle.json_rules.specs.Actions.{is_full, read_whole, read_members, unread, json_read}
use Rattle.json_rules.specs.declared.JsonRead.{JsonRead}

-- texts with the same tokens are read the same
pub read_tokens : (t u : List ℕ) (moment : ℕ) → tokens t ≡ tokens u → json_read t moment ≡ json_read u moment
unfolding json_read
read_tokens t u moment e = rw e

pub blanks_read : (ws : List (List ℕ)) (ts : List Token) (moment : ℕ) → All (λ w. blanks w ≡ true) ws → All Spelt ts
    → json_read (spaced ws ts) moment ≡ json_read (spelled_all ts) moment
blanks_read ws ts moment h k = read_tokens (spaced ws ts) (spelled_all ts) moment (tokens_spaced ws ts h k ∙ sym (tokens_spelled ts k))

-- members are read whole, or refused
members_refused : (moment : ℕ) (x : Taken (List Member)) (why : Refusal) → (read_members moment x).outcome ≡ Err why
    → (why ≡ JsonForm) × (read_members moment x ≡ unread JsonForm)
members_refused moment (taking ms ts) why h =
    cases (is_full ms)
    (λ full. let read : (Ok tt) ≡ Err why = ap (λ b. (cond b (read_whole moment ms) (unread JsonForm)).outcome) (sym full) ∙ h in
    let never : ◌≡◌ {A = ℕ} 0 1 = cc in absurd (omega arith))
    (λ n. let read : Err JsonForm ≡ Err why = ap (λ b. (cond b (read_whole moment ms) (unread JsonForm)).outcome) (sym n) ∙ h in
    (cc, rw n))
members_refused moment missed why h = (cc, refl)

-- the moment is tested first, whatever the text
pub clock_refused : (t : List ℕ) (moment : ℕ) → moment_end ≤ moment → json_read t moment ≡ unread Range
unfolding json_read
clock_refused t moment h = rw (le-ltb moment moment_end h)

pub in_time : (t : List ℕ) (moment : ℕ) → moment < moment_end → json_read t moment ≡ read_members moment (members_of (tokens t))
unfolding json_read
in_time t moment h = rw (lt-ltb moment moment_end h)

form_refused : (t : List ℕ) (moment : ℕ) (why : Refusal) → moment < moment_end → (json_read t moment).outcome ≡ Err why
    → (why ≡ JsonForm) × (json_read t moment ≡ unread JsonForm)
form_refused t moment why h e =
    let read = in_time t moment h in
    let refused = members_refused moment (members_of (tokens t)) why (sym (ap (λ (r : JsonRead). r.outcome) read) ∙ e) in
    (refused.0, read ∙ refused.1)

pub read_refused : (t : List ℕ) (moment : ℕ) (why : Refusal) → (json_read t moment).outcome ≡ Err why
    → (json_read t moment ≡ unread why) × (why ≡ cond (ltb moment moment_end) JsonForm Range)
read_refused t moment why h =
    cases (ltb moment moment_end)
    (λ before. let refused = form_refused t moment why (ltb-true moment moment_end before) h in (rw refused.0 refused.1, rw before refused.0))
    (λ past. let read = clock_refused t moment (ltb-false moment moment_end past) in
    let same : why ≡ Range = cc (ap (λ (r : JsonRead). r.outcome) read) in (rw same read, rw past same))
