-- Laws: Where a number's entry stands tells whether it has one, and which; what an attach and a fetch hand back by their outcome. Assumes nothing.
use Rattle.std.specs.Prelude.{◌≡◌, refl, true, false, List, [], ◌∷◌, ℕ, suc, ◌<◌, length, get_or, Err, Ok}
use Rattle.std.proofs.Common.{ap, ◌∙◌, arith}
use Rattle.lists.specs.Tests.{cases, clash, or_left, or_right, or_other}
use Rattle.lists.specs.Lists.{any}
use Rattle.register.specs.declared.Register.{Register}
use Rattle.refusals.specs.Refusals.{outcome_of}
use Rattle.refusals.specs.declared.Refusal.{Refusal}
use Rattle.actions.specs.Actions.{is_permitted}
use Rattle.actions.specs.declared.Decision.{Decision}
use Rattle.actions.specs.declared.Decision.TheVariants.{Permitted, Refused as Denied, Stopped}
use Rattle.gate_rules.specs.Gate.{first_of}
use Rattle.gate_rules.specs.Places.{first_hit, first_miss}
use Rattle.fingerprints.specs.Fingerprints.{zeros, is_for, entry_for, entry_place, attach_tests, fetch_tests, with_entry, attached_on, attached, first_print, fetched_on, fetched}
use Rattle.fingerprints.specs.declared.Entry.{Entry}
use Rattle.fingerprints.specs.declared.Book.{Book}

pub entry_hit : (n : ℕ) (d : Entry) (l : List Entry) → is_for n d ≡ true → entry_place n (d ∷ l) ≡ 0
unfolding entry_place
entry_hit n d l h = rw h

pub entry_miss : (n : ℕ) (d : Entry) (l : List Entry) → is_for n d ≡ false → entry_place n (d ∷ l) ≡ suc (entry_place n l)
unfolding entry_place
entry_miss n d l h = rw h

pub entry_nil : (n : ℕ) → entry_place n [] ≡ 0
unfolding entry_place
entry_nil n = refl

pub entry_none : (n : ℕ) (l : List Entry) → any (is_for n) l ≡ false → entry_place n l ≡ length l
entry_none n [] none = entry_nil n
entry_none n (d ∷ l) none =
    entry_miss n d l (or_left (is_for n d) (any (is_for n) l) none) ∙ ap suc (entry_none n l (or_right (is_for n d) (any (is_for n) l) none))

pub entry_below : (n : ℕ) (l : List Entry) → any (is_for n) l ≡ true → entry_place n l < length l
entry_below n [] some = clash false some refl
entry_below n (d ∷ l) some =
    cases (is_for n d)
    (λ h. let at = entry_hit n d l h in omega (arith, at))
    (λ h. let at = entry_miss n d l h in
    let below = entry_below n l (or_other (is_for n d) (any (is_for n) l) some h) in omega (arith, at, below))

-- the entry of a number is the one that stands at its place
pub entry_first : (n : ℕ) (l : List Entry) (none : Entry) → any (is_for n) l ≡ true
    → first_of (is_for n) l ≡ get_or l (entry_place n l) none ∷ []
entry_first n [] none some = clash false some refl
entry_first n (d ∷ l) none some =
    cases (is_for n d)
    (λ h. rw (entry_hit n d l h) (first_hit (is_for n) d l h))
    (λ h. rw (entry_miss n d l h) (first_miss (is_for n) d l h ∙ entry_first n l none (or_other (is_for n d) (any (is_for n) l) some h)))

-- a decision that is told as the permission is it
pub is_permitted_lem : (d : Decision) → is_permitted d ≡ true → d ≡ Permitted
is_permitted_lem Permitted h = refl
is_permitted_lem Denied h = let never : ◌≡◌ {A = ℕ} 0 1 = cc in absurd (omega arith)
is_permitted_lem (Stopped why) h = let never : ◌≡◌ {A = ℕ} 0 1 = cc in absurd (omega arith)

-- what an attach, a fetch hands back by the outcome of its tests
pub attached_accepted : (b : Book) (r : Register) (x n moment : ℕ) (f : List ℕ) → outcome_of (attach_tests b r x n moment) ≡ Ok tt
    → attached b r x n moment f ≡ record { book = with_entry b n f; outcome = (Ok tt) }
unfolding attached
attached_accepted b r x n moment f h = ap (λ o. attached_on o b (with_entry b n f)) h

pub attached_refused : (b : Book) (r : Register) (x n moment : ℕ) (f : List ℕ) (why : Refusal) → outcome_of (attach_tests b r x n moment) ≡ Err why
    → attached b r x n moment f ≡ record { book = b; outcome = Err why }
unfolding attached
attached_refused b r x n moment f why h = ap (λ o. attached_on o b (with_entry b n f)) h

pub fetched_accepted : (b : Book) (r : Register) (x n moment : ℕ) → outcome_of (fetch_tests b r x n moment) ≡ Ok tt
    → fetched b r x n moment ≡ record { fingerprint = first_print (entry_for n b); outcome = (Ok tt) }
unfolding fetched
fetched_accepted b r x n moment h = ap (λ o. fetched_on o (entry_for n b)) h

pub fetched_refused : (b : Book) (r : Register) (x n moment : ℕ) (why : Refusal) → outcome_of (fetch_tests b r x n moment) ≡ Err why
    → fetched b r x n moment ≡ record { fingerprint = zeros; outcome = Err why }
unfolding fetched
fetched_refused b r x n moment why h = ap (λ o. fetched_on o (entry_for n b)) h
