-- The refusals of an attach and a fetch, and the books that attaches lead to. Assumes nothing.
use Rattle.std.proofs.Common.{Err, Ok, ◌≡◌, sym, ◌∙◌, true, false, ◌||◌, List, [], ℕ, arith, ltb}
use Rattle.register.specs.declared.Register.{Register}
use Rattle.soundness_rules.specs.Sound.{sound}
use Rattle.refusals.proofs.Laws.{outcome_pass, outcome_nil}
use Rattle.refusals.specs.declared.Refusal.TheVariants.{Unsound, BadBook}
use Rattle.actions.specs.declared.Decision.TheVariants.{Permitted}
use Rattle.gate_rules.specs.Gate.{gated}
use Rattle.fingerprints.specs.Fingerprints.{place_limit, zeros, empty_book, has_entry, book_fits, attaching, fetching, room_test, entry_test, with_entry, attached, fetched, Deed, book_after}
use Rattle.fingerprints.proofs.Laws.{attached_accepted, attached_refused, fetched_refused}
use Rattle.fingerprints.specs.declared.Book.{Book}
use Rattle.fingerprints.proofs.Outcomes.{accepted_all, own_decides, stopped_alike, unsound_refused, misfit_refused, fits_no_thirty}
use Rattle.fingerprints.proofs.Deeds as deeds

-- Where the gate does not permit, an attach is told the same of all books that fit.
pub attach_blind : (b c : Book) (r : Register) (x n moment : ℕ) (f g : List ℕ) → ((gated r (attaching x n moment)).decision ≡ Permitted → ⊥)
    → book_fits b ≡ true → book_fits c ≡ true → (attached b r x n moment f).outcome ≡ (attached c r x n moment g).outcome
attach_blind b c r x n moment f g never first second =
    deeds.attached_outcome b r x n moment f
    ∙ stopped_alike (book_fits b) r (attaching x n moment) (room_test b n) never first
    ∙ sym (stopped_alike (book_fits c) r (attaching x n moment) (room_test c n) never second)
    ∙ sym (deeds.attached_outcome c r x n moment g)

-- The book fits after any attaches and fetches from the empty book.
pub book_fits_lem : (ds : List Deed) → book_fits (book_after empty_book ds) ≡ true
book_fits_lem ds = (deeds.deeds_kept empty_book ds deeds.empty_kept).fits

-- So no fetch is told 30 from there.
pub fetch_never_thirty : (ds : List Deed) (r : Register) (x n moment : ℕ) → (fetched (book_after empty_book ds) r x n moment).outcome ≡ Err BadBook → ⊥
fetch_never_thirty ds r x n moment h =
    let b = book_after empty_book ds in
    fits_no_thirty (book_fits b) r (fetching x n moment) (entry_test b n) (book_fits_lem ds) (λ e. omega (arith, e)) (sym (deeds.fetched_outcome b r x n moment) ∙ h)

-- Nor is an attach.
pub attach_never_thirty : (ds : List Deed) (r : Register) (x n moment : ℕ) (f : List ℕ)
    → (attached (book_after empty_book ds) r x n moment f).outcome ≡ Err BadBook → ⊥
attach_never_thirty ds r x n moment f h =
    let b = book_after empty_book ds in
    fits_no_thirty (book_fits b) r (attaching x n moment) (room_test b n) (book_fits_lem ds) (λ e. omega (arith, e)) (sym (deeds.attached_outcome b r x n moment f) ∙ h)

-- An attach with a register that is not sound is refused with 1, whatever the book: such a register accepts nothing.
pub attach_unsound : (b : Book) (r : Register) (x n moment : ℕ) (f : List ℕ) → sound r ≡ false
    → attached b r x n moment f ≡ record { book = b; outcome = Err Unsound }
attach_unsound b r x n moment f h =
    attached_refused b r x n moment f Unsound (unsound_refused (book_fits b) r (attaching x n moment) (room_test b n) h)

-- So is a fetch.
pub fetch_unsound : (b : Book) (r : Register) (x n moment : ℕ) → sound r ≡ false
    → fetched b r x n moment ≡ record { fingerprint = zeros; outcome = Err Unsound }
fetch_unsound b r x n moment h = fetched_refused b r x n moment Unsound (unsound_refused (book_fits b) r (fetching x n moment) (entry_test b n) h)

-- With a sound register an attach to a book that does not fit is refused with 30, told to anyone.
pub attach_misfit : (b : Book) (r : Register) (x n moment : ℕ) (f : List ℕ) → sound r ≡ true → book_fits b ≡ false
    → attached b r x n moment f ≡ record { book = b; outcome = Err BadBook }
attach_misfit b r x n moment f s h =
    attached_refused b r x n moment f BadBook (misfit_refused (book_fits b) r (attaching x n moment) (room_test b n) s h)

-- So is a fetch.
pub fetch_misfit : (b : Book) (r : Register) (x n moment : ℕ) → sound r ≡ true → book_fits b ≡ false
    → fetched b r x n moment ≡ record { fingerprint = zeros; outcome = Err BadBook }
fetch_misfit b r x n moment s h = fetched_refused b r x n moment BadBook (misfit_refused (book_fits b) r (fetching x n moment) (entry_test b n) s h)

-- Where an attach is accepted the register is sound, the book fits, the gate permits, and there is an entry or room for one.
pub attach_accepted_out : (b : Book) (r : Register) (x n moment : ℕ) (f : List ℕ) → (attached b r x n moment f).outcome ≡ Ok tt
    → (sound r ≡ true) × (book_fits b ≡ true) × ((gated r (attaching x n moment)).decision ≡ Permitted) × (has_entry n b || ltb b.count place_limit ≡ true)
attach_accepted_out b r x n moment f h =
    let told = accepted_all (book_fits b) r (attaching x n moment) (room_test b n) (sym (deeds.attached_outcome b r x n moment f) ∙ h) in
    (told.soundly, told.fitting, told.permitted, told.owned)

-- And where these hold it is accepted: so an attach over an entry is taken in a full book.
pub attach_accepted_in : (b : Book) (r : Register) (x n moment : ℕ) (f : List ℕ) → (gated r (attaching x n moment)).decision ≡ Permitted
    → book_fits b ≡ true → has_entry n b || ltb b.count place_limit ≡ true → attached b r x n moment f ≡ record { book = with_entry b n f; outcome = (Ok tt) }
attach_accepted_in b r x n moment f permitted fits room =
    attached_accepted b r x n moment f
    (own_decides (book_fits b) r (attaching x n moment) (room_test b n) permitted fits ∙ outcome_pass (room_test b n) [] room ∙ outcome_nil)
