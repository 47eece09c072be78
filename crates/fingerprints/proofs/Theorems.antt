-- What is proved of the fingerprint book. No theorem asks that a register is sound: the gate permits only where it is, and one that is not
-- accepts nothing (`attach_unsound` of TheoremsRefusals). Assumes nothing.
use Rattle.std.proofs.Common.{Err, Ok, ◌≡◌, true, false, List, [], ◌∷◌, ◌++◌, ℕ, ◌≤◌, eqb, get_or}
use Rattle.lists.specs.Lists.{any}
use Rattle.register.specs.declared.Register.{Register}
use Rattle.refusals.specs.Refusals.{number_of}
use Rattle.refusals.specs.declared.Refusal.{Refusal}
use Rattle.actions.specs.declared.Decision.TheVariants.{Permitted}
use Rattle.gate_rules.specs.Gate.{gated, first_of}
use Rattle.fingerprints.specs.Fingerprints.{zeros, empty_book, entries_of, is_for, entry_for, has_entry, entry_place, book_fits, fetching, attached, fetched, Deed, attaches, book_after, noted, answered_by}
use Rattle.fingerprints.specs.declared.Entry.{Entry}
use Rattle.fingerprints.specs.declared.Book.{Book}
use Rattle.fingerprints.proofs.Sheets as sheets

-- 1. After any attaches and fetches from the empty book, each with its own register, a permitted fetch gives the fingerprint of the latest accepted
-- attach to that number, and 28 with zeros where there is none.
pub sheet_latest : (ds : List Deed) (r : Register) (x n moment : ℕ) → (gated r (fetching x n moment)).decision ≡ Permitted
    → fetched (book_after empty_book ds) r x n moment ≡ answered_by (first_of (is_for n) (noted empty_book ds))
sheet_latest = sheets.sheet_latest

-- The same said of the calls: where an attach to n was accepted and none to n was accepted after it, its fingerprint is what a permitted fetch gives.
pub sheet_plain : (before : List Deed) (s : Register) (y n at : ℕ) (f : List ℕ) (after : List Deed) (r : Register) (x moment : ℕ)
    → (attached (book_after empty_book before) s y n at f).outcome ≡ Ok tt
    → any (is_for n) (noted (book_after empty_book (before ++ (attaches s y n at f ∷ []))) after) ≡ false
    → (gated r (fetching x n moment)).decision ≡ Permitted
    → fetched (book_after empty_book (before ++ (attaches s y n at f ∷ after))) r x n moment ≡ record { fingerprint = f; outcome = (Ok tt) }
sheet_plain = sheets.sheet_plain

-- 2. Of any book, no attach changes the entry of another number.
pub attach_other : (b : Book) (r : Register) (x n moment : ℕ) (f : List ℕ) (m : ℕ) → (m ≡ n → ⊥)
    → entry_for m (attached b r x n moment f).book ≡ entry_for m b
attach_other = sheets.attach_other

-- Nor what stands at another place, past the count too.
pub attach_places : (b : Book) (r : Register) (x n moment : ℕ) (f : List ℕ) (i : ℕ) (d : Entry) → (i ≡ entry_place n (entries_of b) → ⊥)
    → get_or (attached b r x n moment f).book.entries i d ≡ get_or b.entries i d
attach_places = sheets.attach_places

-- 3. What has an entry keeps one, after any attaches and fetches and of any book.
pub entry_kept : (b : Book) (ds : List Deed) (n : ℕ) → has_entry n b ≡ true → has_entry n (book_after b ds) ≡ true
entry_kept = sheets.entry_kept

-- The count never falls.
pub count_kept : (b : Book) (ds : List Deed) → b.count ≤ (book_after b ds).count
count_kept = sheets.count_kept

-- 4. A refused attach leaves the book as it came.
pub refused_book : (b : Book) (r : Register) (x n moment : ℕ) (f : List ℕ) (why : Refusal) → (attached b r x n moment f).outcome ≡ Err why
    → (attached b r x n moment f).book ≡ b
refused_book = sheets.refused_book

-- A refused fetch gives 32 zeros.
pub refused_zeros : (b : Book) (r : Register) (x n moment : ℕ) (why : Refusal) → (fetched b r x n moment).outcome ≡ Err why
    → (fetched b r x n moment).fingerprint ≡ zeros
refused_zeros = sheets.refused_zeros

-- 5. Where the gate does not permit, a fetch of a book that fits gives zeros with 1, 2, 3 or 27.
pub fetch_unpermitted : (b : Book) (r : Register) (x n moment : ℕ) → ((gated r (fetching x n moment)).decision ≡ Permitted → ⊥) → book_fits b ≡ true
    → (why : Refusal) × (fetched b r x n moment ≡ record { fingerprint = zeros; outcome = Err why })
    × (any (eqb (number_of why)) (1 ∷ 2 ∷ 3 ∷ 27 ∷ []) ≡ true)
fetch_unpermitted = sheets.fetch_unpermitted

-- All such books get one answer: it does not tell an empty entry from a full one.
pub fetch_blind : (b c : Book) (r : Register) (x n moment : ℕ) → ((gated r (fetching x n moment)).decision ≡ Permitted → ⊥)
    → book_fits b ≡ true → book_fits c ≡ true → fetched b r x n moment ≡ fetched c r x n moment
fetch_blind = sheets.fetch_blind
