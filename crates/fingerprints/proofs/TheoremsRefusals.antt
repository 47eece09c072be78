-- What is proved of the refusals of an attach and a fetch, and of the books that attaches lead to. Assumes nothing.
use Rattle.std.proofs.Common.{Err, Ok, ◌≡◌, true, false, ◌||◌, List, ℕ, ltb}
use Rattle.register.specs.declared.Register.{Register}
use Rattle.soundness_rules.specs.Sound.{sound}
use Rattle.refusals.specs.declared.Refusal.TheVariants.{Unsound, BadBook}
use Rattle.actions.specs.declared.Decision.TheVariants.{Permitted}
use Rattle.gate_rules.specs.Gate.{gated}
use Rattle.fingerprints.specs.Fingerprints.{place_limit, zeros, empty_book, has_entry, book_fits, attaching, with_entry, attached, fetched, Deed, book_after}
use Rattle.fingerprints.specs.declared.Book.{Book}
use Rattle.fingerprints.proofs.Refusing as refusing

-- 5. Where the gate does not permit, an attach is told the same of all books that fit.
pub attach_blind : (b c : Book) (r : Register) (x n moment : ℕ) (f g : List ℕ) → ((gated r (attaching x n moment)).decision ≡ Permitted → ⊥)
    → book_fits b ≡ true → book_fits c ≡ true → (attached b r x n moment f).outcome ≡ (attached c r x n moment g).outcome
attach_blind = refusing.attach_blind

-- 6. The book fits after any attaches and fetches from the empty book.
pub book_fits_lem : (ds : List Deed) → book_fits (book_after empty_book ds) ≡ true
book_fits_lem = refusing.book_fits_lem

-- So no fetch is told 30 from there.
pub fetch_never_thirty : (ds : List Deed) (r : Register) (x n moment : ℕ) → (fetched (book_after empty_book ds) r x n moment).outcome ≡ Err BadBook → ⊥
fetch_never_thirty = refusing.fetch_never_thirty

-- Nor is an attach.
pub attach_never_thirty : (ds : List Deed) (r : Register) (x n moment : ℕ) (f : List ℕ)
    → (attached (book_after empty_book ds) r x n moment f).outcome ≡ Err BadBook → ⊥
attach_never_thirty = refusing.attach_never_thirty

-- 7. An attach with a register that is not sound is refused with 1, whatever the book: such a register accepts nothing.
pub attach_unsound : (b : Book) (r : Register) (x n moment : ℕ) (f : List ℕ) → sound r ≡ false
    → attached b r x n moment f ≡ record { book = b; outcome = Err Unsound }
attach_unsound = refusing.attach_unsound

-- So is a fetch.
pub fetch_unsound : (b : Book) (r : Register) (x n moment : ℕ) → sound r ≡ false
    → fetched b r x n moment ≡ record { fingerprint = zeros; outcome = Err Unsound }
fetch_unsound = refusing.fetch_unsound

-- 8. With a sound register an attach to a book that does not fit is refused with 30, told to anyone.
pub attach_misfit : (b : Book) (r : Register) (x n moment : ℕ) (f : List ℕ) → sound r ≡ true → book_fits b ≡ false
    → attached b r x n moment f ≡ record { book = b; outcome = Err BadBook }
attach_misfit = refusing.attach_misfit

-- So is a fetch.
pub fetch_misfit : (b : Book) (r : Register) (x n moment : ℕ) → sound r ≡ true → book_fits b ≡ false
    → fetched b r x n moment ≡ record { fingerprint = zeros; outcome = Err BadBook }
fetch_misfit = refusing.fetch_misfit

-- 9. Where an attach is accepted the register is sound, the book fits, the gate permits, and there is an entry or room for one.
pub attach_accepted_out : (b : Book) (r : Register) (x n moment : ℕ) (f : List ℕ) → (attached b r x n moment f).outcome ≡ Ok tt
    → (sound r ≡ true) × (book_fits b ≡ true) × ((gated r (attaching x n moment)).decision ≡ Permitted) × (has_entry n b || ltb b.count place_limit ≡ true)
attach_accepted_out = refusing.attach_accepted_out

-- And where these hold it is accepted: so an attach over an entry is taken in a full book.
pub attach_accepted_in : (b : Book) (r : Register) (x n moment : ℕ) (f : List ℕ) → (gated r (attaching x n moment)).decision ≡ Permitted
    → book_fits b ≡ true → has_entry n b || ltb b.count place_limit ≡ true → attached b r x n moment f ≡ record { book = with_entry b n f; outcome = (Ok tt) }
attach_accepted_in = refusing.attach_accepted_in
