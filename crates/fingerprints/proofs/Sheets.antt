-- What a permitted fetch gives, what an attach leaves as it was, and what a refused call tells. Assumes nothing.
use Rattle.std.proofs.Common.{Err, Ok, ◌≡◌, refl, ap, sym, ◌∙◌, true, false, List, [], ◌∷◌, ◌++◌, append-nil, ℕ, ◌≤◌, eqb, get_or, get_or-set_other}
use Rattle.lists.specs.Lists.{any}
use Rattle.register.specs.declared.Register.{Register}
use Rattle.refusals.specs.Refusals.{number_of}
use Rattle.refusals.specs.declared.Refusal.{Refusal}
use Rattle.actions.specs.declared.Decision.TheVariants.{Permitted}
use Rattle.gate_rules.specs.Gate.{gated, first_of}
use Rattle.fingerprints.specs.Fingerprints.{zeros, empty_book, entries_of, is_for, entry_for, has_entry, entry_place, book_fits, fetching, entry, attached, fetched, Deed, attaches, book_after, noted, answered_by}
use Rattle.fingerprints.proofs.Laws.{attached_refused, fetched_refused}
use Rattle.fingerprints.specs.declared.Entry.{Entry}
use Rattle.fingerprints.specs.declared.Book.{Book}
use Rattle.fingerprints.specs.declared.Attached.{Attached}
use Rattle.fingerprints.specs.declared.Fetched.{Fetched}
use Rattle.fingerprints.proofs.Outcomes.{stop_for, stop_number_lem}
use Rattle.fingerprints.proofs.Books.{with_other}
use Rattle.fingerprints.proofs.Deeds as deeds

-- After any attaches and fetches from the empty book, each with its own register, a permitted fetch gives the fingerprint of the latest accepted
-- attach to that number, and 28 with zeros where there is none.
pub sheet_latest : (ds : List Deed) (r : Register) (x n moment : ℕ) → (gated r (fetching x n moment)).decision ≡ Permitted
    → fetched (book_after empty_book ds) r x n moment ≡ answered_by (first_of (is_for n) (noted empty_book ds))
sheet_latest ds r x n moment permitted =
    deeds.fetch_permitted (book_after empty_book ds) r x n moment permitted (deeds.deeds_kept empty_book ds deeds.empty_kept).fits
    ∙ ap answered_by (deeds.deeds_entry empty_book ds n deeds.empty_kept ∙ ap (first_of (is_for n)) (append-nil (noted empty_book ds)))

-- The same said of the calls: where an attach to n was accepted and none to n was accepted after it, its fingerprint is what a permitted fetch gives.
pub sheet_plain : (before : List Deed) (s : Register) (y n at : ℕ) (f : List ℕ) (after : List Deed) (r : Register) (x moment : ℕ)
    → (attached (book_after empty_book before) s y n at f).outcome ≡ Ok tt
    → any (is_for n) (noted (book_after empty_book (before ++ (attaches s y n at f ∷ []))) after) ≡ false
    → (gated r (fetching x n moment)).decision ≡ Permitted
    → fetched (book_after empty_book (before ++ (attaches s y n at f ∷ after))) r x n moment ≡ record { fingerprint = f; outcome = (Ok tt) }
sheet_plain before s y n at f after r x moment accepted none permitted =
    sheet_latest (before ++ (attaches s y n at f ∷ after)) r x n moment permitted
    ∙ ap answered_by (deeds.noted_latest empty_book before s y n at f after accepted none)

-- Of any book, no attach changes the entry of another number.
pub attach_other : (b : Book) (r : Register) (x n moment : ℕ) (f : List ℕ) (m : ℕ) → (m ≡ n → ⊥)
    → entry_for m (attached b r x n moment f).book ≡ entry_for m b
attach_other b r x n moment f m other =
    deeds.attached_ind (λ c. entry_for m c ≡ entry_for m b) b r x n moment f refl (λ room. with_other b n m f other)

-- Nor what stands at another place, past the count too.
pub attach_places : (b : Book) (r : Register) (x n moment : ℕ) (f : List ℕ) (i : ℕ) (d : Entry) → (i ≡ entry_place n (entries_of b) → ⊥)
    → get_or (attached b r x n moment f).book.entries i d ≡ get_or b.entries i d
attach_places b r x n moment f i d other =
    deeds.attached_ind (λ c. get_or c.entries i d ≡ get_or b.entries i d) b r x n moment f refl
    (λ room. get_or-set_other b.entries (entry_place n (entries_of b)) i (entry n f) d other)

-- What has an entry keeps one, after any attaches and fetches and of any book.
pub entry_kept : (b : Book) (ds : List Deed) (n : ℕ) → has_entry n b ≡ true → has_entry n (book_after b ds) ≡ true
entry_kept = deeds.deeds_entry_kept

-- The count never falls.
pub count_kept : (b : Book) (ds : List Deed) → b.count ≤ (book_after b ds).count
count_kept = deeds.deeds_count

-- A refused attach leaves the book as it came.
pub refused_book : (b : Book) (r : Register) (x n moment : ℕ) (f : List ℕ) (why : Refusal) → (attached b r x n moment f).outcome ≡ Err why
    → (attached b r x n moment f).book ≡ b
refused_book b r x n moment f why h =
    ap (λ (a : Attached). a.book) (attached_refused b r x n moment f why (sym (deeds.attached_outcome b r x n moment f) ∙ h))

-- A refused fetch gives 32 zeros.
pub refused_zeros : (b : Book) (r : Register) (x n moment : ℕ) (why : Refusal) → (fetched b r x n moment).outcome ≡ Err why
    → (fetched b r x n moment).fingerprint ≡ zeros
refused_zeros b r x n moment why h =
    ap (λ (a : Fetched). a.fingerprint) (fetched_refused b r x n moment why (sym (deeds.fetched_outcome b r x n moment) ∙ h))

-- Where the gate does not permit, a fetch of a book that fits gives zeros with 1, 2, 3 or 27.
pub fetch_unpermitted : (b : Book) (r : Register) (x n moment : ℕ) → ((gated r (fetching x n moment)).decision ≡ Permitted → ⊥) → book_fits b ≡ true
    → (why : Refusal) × (fetched b r x n moment ≡ record { fingerprint = zeros; outcome = Err why })
    × (any (eqb (number_of why)) (1 ∷ 2 ∷ 3 ∷ 27 ∷ []) ≡ true)
fetch_unpermitted b r x n moment never fits =
    (stop_for r (fetching x n moment), deeds.fetch_stopped b r x n moment never fits, stop_number_lem r (fetching x n moment))

-- All such books get one answer: it does not tell an empty entry from a full one.
pub fetch_blind : (b c : Book) (r : Register) (x n moment : ℕ) → ((gated r (fetching x n moment)).decision ≡ Permitted → ⊥)
    → book_fits b ≡ true → book_fits c ≡ true → fetched b r x n moment ≡ fetched c r x n moment
fetch_blind b c r x n moment never first second =
    deeds.fetch_stopped b r x n moment never first ∙ sym (deeds.fetch_stopped c r x n moment never second)
