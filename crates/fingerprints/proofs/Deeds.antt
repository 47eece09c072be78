-- Attaches and fetches one by one and in a row: what holds of the book that they leave, and that the entry of a number is that of the latest
-- accepted attach to it. Assumes nothing.
use Rattle.std.proofs.Common.{Result, Err, Ok, ◌≡◌, refl, ap, sym, ◌∙◌, Bool, true, false, ◌||◌, cond, List, [], ◌∷◌, ◌++◌, append_assoc, append-nil, ℕ, ◌≤◌, arith, eqb, ltb, eq-eqb, eqb-true}
use Rattle.refusals.specs.declared.Refusal.{Refusal}
use Rattle.lists.specs.Tests.{cases, clash, or_left, or_right}
use Rattle.lists.specs.Lists.{any, distinct}
use Rattle.register.specs.declared.Register.{Register}
use Rattle.refusals.specs.Refusals.{outcome_of, is_accepted}
use Rattle.refusals.proofs.Laws.{outcome_cases}
use Rattle.refusals.specs.declared.Refusal.TheVariants.{NoEntry}
use Rattle.actions.specs.declared.Decision.TheVariants.{Permitted}
use Rattle.gate_rules.specs.Gate.{gated, first_of}
use Rattle.gate_rules.specs.Places.{first_hit, first_miss}
use Rattle.fingerprints.specs.Fingerprints.{place_limit, zeros, empty_book, entries_of, is_for, entry_for, has_entry, book_fits, attaching, fetching, room_test, entry_test, attach_tests, fetch_tests, entry, with_entry, attached, fetched_on, fetched, Deed, attaches, fetches, deed_after, book_after, noted_by, noted, answered_by}
use Rattle.fingerprints.proofs.Laws.{attached_accepted, attached_refused, fetched_refused}
use Rattle.fingerprints.specs.declared.Entry.{Entry}
use Rattle.fingerprints.specs.declared.Book.{Book}
use Rattle.fingerprints.specs.declared.Attached.{Attached}
use Rattle.fingerprints.proofs.Entries.{first_append}
use Rattle.fingerprints.proofs.Outcomes.{accepted_all, own_decides, stop_for, stopped_alike}
use Rattle.fingerprints.proofs.Books.{Kept, with_kept, with_own, with_other, with_entry_kept, with_count}

-- what holds of the book as it came, and of the book with the entry where there was room for it, holds of the book handed back
pub attached_ind : (P : Book → Type 0) (b : Book) (r : Register) (x n moment : ℕ) (f : List ℕ) → P b
    → (has_entry n b || ltb b.count place_limit ≡ true → P (with_entry b n f)) → P (attached b r x n moment f).book
attached_ind P b r x n moment f before after =
    outcome_cases (outcome_of (attach_tests b r x n moment))
    (λ h. rw (attached_accepted b r x n moment f h) (after (accepted_all (book_fits b) r (attaching x n moment) (room_test b n) h).owned))
    (λ why h. rw (attached_refused b r x n moment f why h) before)

-- the empty book is kept
pub empty_kept : Kept empty_book
unfolding book_fits distinct
empty_kept = record { places = refl; fits = refl }

-- a kept book is kept, by one deed and by some
pub deed_kept : (b : Book) (d : Deed) → Kept b → Kept (deed_after b d)
deed_kept b (attaches r x n moment f) kept = attached_ind (λ c. Kept c) b r x n moment f kept (λ room. with_kept b n f kept room)
deed_kept b (fetches r x n moment) kept = kept

pub deeds_kept : (b : Book) (ds : List Deed) → Kept b → Kept (book_after b ds)
deeds_kept b [] kept = kept
deeds_kept b (d ∷ ds) kept = deeds_kept (deed_after b d) ds (deed_kept b d kept)

-- what has an entry keeps one
pub deed_entry_kept : (b : Book) (d : Deed) (m : ℕ) → has_entry m b ≡ true → has_entry m (deed_after b d) ≡ true
deed_entry_kept b (attaches r x n moment f) m has =
    attached_ind (λ c. has_entry m c ≡ true) b r x n moment f has (λ room. with_entry_kept b n m f has)
deed_entry_kept b (fetches r x n moment) m has = has

pub deeds_entry_kept : (b : Book) (ds : List Deed) (m : ℕ) → has_entry m b ≡ true → has_entry m (book_after b ds) ≡ true
deeds_entry_kept b [] m has = has
deeds_entry_kept b (d ∷ ds) m has = deeds_entry_kept (deed_after b d) ds m (deed_entry_kept b d m has)

-- the count never falls
pub deed_count : (b : Book) (d : Deed) → b.count ≤ (deed_after b d).count
deed_count b (attaches r x n moment f) = attached_ind (λ c. b.count ≤ c.count) b r x n moment f (omega arith) (λ room. with_count b n f)
deed_count b (fetches r x n moment) = omega arith

pub deeds_count : (b : Book) (ds : List Deed) → b.count ≤ (book_after b ds).count
deeds_count b [] = omega arith
deeds_count b (d ∷ ds) = let one = deed_count b d in let more = deeds_count (deed_after b d) ds in omega (arith, one, more)

-- the entry of any number after an attach that is taken: the new one where it is its own, else as it was
entry_next : (b : Book) (n m : ℕ) (f : List ℕ) → Kept b → has_entry n b || ltb b.count place_limit ≡ true
    → entry_for m (with_entry b n f) ≡ first_of (is_for m) (entry n f ∷ entries_of b)
entry_next b n m f kept room =
    cases (eqb m n)
    (λ e. let own : m ≡ n = eqb-true m n e in
    rw own (with_own b n f kept.places room ∙ sym (first_hit (is_for n) (entry n f) (entries_of b) (eq-eqb n n refl))))
    (λ e. with_other b n m f (λ own. clash (eqb m n) (eq-eqb m n own) e) ∙ sym (first_miss (is_for m) (entry n f) (entries_of b) e))

-- what is noted of an answer
abbrev noted_of : Attached → ℕ → List ℕ → List Entry
noted_of a n f = cond (is_accepted a.outcome) (entry n f ∷ []) []

attach_entry : (b : Book) (r : Register) (x n moment : ℕ) (f : List ℕ) (m : ℕ) → Kept b
    → entry_for m (attached b r x n moment f).book ≡ first_of (is_for m) (noted_of (attached b r x n moment f) n f ++ entries_of b)
attach_entry b r x n moment f m kept =
    outcome_cases (outcome_of (attach_tests b r x n moment))
    (λ h. answered (attached b r x n moment f) (record { book = with_entry b n f; outcome = (Ok tt) }) (attached_accepted b r x n moment f h)
    (entry_next b n m f kept (accepted_all (book_fits b) r (attaching x n moment) (room_test b n) h).owned))
    (λ why h. answered (attached b r x n moment f) (record { book = b; outcome = Err why }) (attached_refused b r x n moment f why h) refl)
  where
    answered : (a c : Attached) → a ≡ c → entry_for m c.book ≡ first_of (is_for m) (noted_of c n f ++ entries_of b)
        → entry_for m a.book ≡ first_of (is_for m) (noted_of a n f ++ entries_of b)
    answered a c e h = ap (λ (d : Attached). entry_for m d.book) e ∙ h ∙ sym (ap (λ (d : Attached). first_of (is_for m) (noted_of d n f ++ entries_of b)) e)

-- after one deed: what it noted comes first
pub deed_entry : (b : Book) (d : Deed) (m : ℕ) → Kept b → entry_for m (deed_after b d) ≡ first_of (is_for m) (noted_by b d ++ entries_of b)
deed_entry b (attaches r x n moment f) m kept = attach_entry b r x n moment f m kept
deed_entry b (fetches r x n moment) m kept = refl

-- after some deeds: what was noted comes first, latest first
pub deeds_entry : (b : Book) (ds : List Deed) (m : ℕ) → Kept b → entry_for m (book_after b ds) ≡ first_of (is_for m) (noted b ds ++ entries_of b)
deeds_entry b [] m kept = refl
deeds_entry b (d ∷ ds) m kept =
    deeds_entry (deed_after b d) ds m (deed_kept b d kept)
    ∙ first_append (is_for m) (noted (deed_after b d) ds) (entries_of (deed_after b d)) (noted_by b d ++ entries_of b) (deed_entry b d m kept)
    ∙ ap (first_of (is_for m)) (sym (append_assoc (noted (deed_after b d) ds) (noted_by b d) (entries_of b)))

-- the test of a fetch and its answer are told by the first entry alone
answer_first : (p : Entry → Bool) (l : List Entry)
    → fetched_on (outcome_of (record { passed = any p l; refusal = NoEntry } ∷ [])) (first_of p l) ≡ answered_by (first_of p l)
unfolding outcome_of first_of
answer_first p [] = refl
answer_first p (d ∷ l) = cases (p d) (λ e. rw e) (λ e. rw e (answer_first p l))

-- a permitted fetch of a book that fits
pub fetch_permitted : (b : Book) (r : Register) (x n moment : ℕ) → (gated r (fetching x n moment)).decision ≡ Permitted → book_fits b ≡ true
    → fetched b r x n moment ≡ answered_by (entry_for n b)
unfolding fetched
fetch_permitted b r x n moment permitted fits =
    ap (λ o. fetched_on o (entry_for n b)) (own_decides (book_fits b) r (fetching x n moment) (entry_test b n) permitted fits)
    ∙ answer_first (is_for n) (entries_of b)

-- a fetch that the gate does not permit, of a book that fits
pub fetch_stopped : (b : Book) (r : Register) (x n moment : ℕ) → ((gated r (fetching x n moment)).decision ≡ Permitted → ⊥) → book_fits b ≡ true
    → fetched b r x n moment ≡ record { fingerprint = zeros; outcome = Err (stop_for r (fetching x n moment)) }
fetch_stopped b r x n moment never fits =
    fetched_refused b r x n moment (stop_for r (fetching x n moment)) (stopped_alike (book_fits b) r (fetching x n moment) (entry_test b n) never fits)

-- deeds in two parts
pub after_append : (b : Book) (ds es : List Deed) → book_after b (ds ++ es) ≡ book_after (book_after b ds) es
after_append b [] es = refl
after_append b (d ∷ ds) es = after_append (deed_after b d) ds es

pub noted_append : (b : Book) (ds es : List Deed) → noted b (ds ++ es) ≡ noted (book_after b ds) es ++ noted b ds
noted_append b [] es = sym (append-nil (noted b es))
noted_append b (d ∷ ds) es =
    ap (λ l. l ++ noted_by b d) (noted_append (deed_after b d) ds es)
    ∙ append_assoc (noted (book_after (deed_after b d) ds) es) (noted (deed_after b d) ds) (noted_by b d)

-- the first of a list behind some that are not asked for
pub first_behind : (p : Entry → Bool) (a : List Entry) (e : Entry) (l : List Entry) → any p a ≡ false → p e ≡ true
    → first_of p (a ++ (e ∷ l)) ≡ e ∷ []
first_behind p [] e l none own = first_hit p e l own
first_behind p (d ∷ a) e l none own =
    first_miss p d (a ++ (e ∷ l)) (or_left (p d) (any p a) none) ∙ first_behind p a e l (or_right (p d) (any p a) none) own

-- the outcome told is that of the tests
pub attached_outcome : (b : Book) (r : Register) (x n moment : ℕ) (f : List ℕ) → (attached b r x n moment f).outcome ≡ outcome_of (attach_tests b r x n moment)
attached_outcome b r x n moment f =
    outcome_cases (outcome_of (attach_tests b r x n moment))
    (λ h. ap (λ (a : Attached). a.outcome) (attached_accepted b r x n moment f h) ∙ sym h)
    (λ why h. ap (λ (a : Attached). a.outcome) (attached_refused b r x n moment f why h) ∙ sym h)

on_outcome : (o : Result Unit Refusal) (l : List Entry) → (fetched_on o l).outcome ≡ o
on_outcome (Ok _) l = refl
on_outcome (Err why) l = refl

pub fetched_outcome : (b : Book) (r : Register) (x n moment : ℕ) → (fetched b r x n moment).outcome ≡ outcome_of (fetch_tests b r x n moment)
unfolding fetched
fetched_outcome b r x n moment = on_outcome (outcome_of (fetch_tests b r x n moment)) (entry_for n b)

-- an accepted attach is noted
pub noted_accepted : (b : Book) (r : Register) (x n moment : ℕ) (f : List ℕ) → (attached b r x n moment f).outcome ≡ Ok tt
    → noted_by b (attaches r x n moment f) ≡ entry n f ∷ []
noted_accepted b r x n moment f h = ap (λ o. cond (is_accepted o) (entry n f ∷ []) []) h

-- where an attach to n was accepted and none to n after it, it is the first that is noted of n
pub noted_latest : (b : Book) (before : List Deed) (s : Register) (y n at : ℕ) (f : List ℕ) (after : List Deed)
    → (attached (book_after b before) s y n at f).outcome ≡ Ok tt
    → any (is_for n) (noted (book_after b (before ++ (attaches s y n at f ∷ []))) after) ≡ false
    → first_of (is_for n) (noted b (before ++ (attaches s y n at f ∷ after))) ≡ entry n f ∷ []
noted_latest b before s y n at f after accepted none =
    let later = deed_after (book_after b before) (attaches s y n at f) in
    let silent : any (is_for n) (noted later after) ≡ false =
    ap (λ c. any (is_for n) (noted c after)) (sym (after_append b before (attaches s y n at f ∷ []))) ∙ none in
    let parts : noted b (before ++ (attaches s y n at f ∷ after)) ≡ noted later after ++ (entry n f ∷ noted b before) =
    noted_append b before (attaches s y n at f ∷ after)
    ∙ append_assoc (noted later after) (noted_by (book_after b before) (attaches s y n at f)) (noted b before)
    ∙ ap (λ l. noted later after ++ (l ++ noted b before)) (noted_accepted (book_after b before) s y n at f accepted) in
    ap (first_of (is_for n)) parts ∙ first_behind (is_for n) (noted later after) (entry n f) (noted b before) silent (eq-eqb n n refl)
