-- A book with an entry put: it fits where there was room, its own entry is the new one, every other as it was, none is lost. Assumes nothing.
use Rattle.std.proofs.Common.{◌≡◌, refl, ap, sym, ◌∙◌, true, false, ◌||◌, List, [], ◌∷◌, ◌++◌, map, ℕ, suc, ◌<◌, ◌≤◌, arith, eqb, leb, ltb, length, take, set, length-set, eq-eqb, ne_eqb, eqb-true, ltb-true, ltb-false, leb-true, le-leb}
use mathlib.Core.List.{map-append}
use Rattle.lists.specs.Tests.{cases, and_left, and_right, and_both, or_other}
use Rattle.lists.specs.Lists.{any, distinct}
use Rattle.lists.specs.Each.{any_map, any_append}
use Rattle.lists.specs.Distinct.{distinct_last}
use Rattle.gate_rules.specs.Gate.{first_of}
use Rattle.fingerprints.specs.Fingerprints.{place_limit, entries_of, is_for, entry_for, has_entry, entry_place, book_fits, entry, with_entry}
use Rattle.fingerprints.specs.declared.Entry.{Entry}
use Rattle.fingerprints.specs.declared.Book.{Book}
use Rattle.fingerprints.proofs.Entries.{put_new, put_short, put_numbers, put_own, put_other, first_last, first_without}

-- what a book keeps: its 64 places, and that it fits
pub record Kept (b : Book) : Type 0 where
  pub places : length b.entries ≡ place_limit
  pub fits : book_fits b ≡ true

abbrev numbers : List Entry → List ℕ
numbers l = map (λ d. d.resource) l

fits_out : (b : Book) → book_fits b ≡ true → (leb b.count place_limit ≡ true) × (distinct (numbers (entries_of b)) ≡ true)
unfolding book_fits
fits_out b h = (and_left (leb b.count place_limit) (distinct (numbers (entries_of b))) h, and_right (leb b.count place_limit) (distinct (numbers (entries_of b))) h)

fits_in : (b : Book) → b.count ≤ place_limit → distinct (numbers (entries_of b)) ≡ true → book_fits b ≡ true
unfolding book_fits
fits_in b h k = and_both (leb b.count place_limit) (distinct (numbers (entries_of b))) (le-leb b.count place_limit h) k

-- count and entries with an entry put, where the number had one and where it had none
old_count : (b : Book) (n : ℕ) (f : List ℕ) → has_entry n b ≡ true → (with_entry b n f).count ≡ b.count
old_count b n f h = rw h

new_count : (b : Book) (n : ℕ) (f : List ℕ) → has_entry n b ≡ false → (with_entry b n f).count ≡ suc b.count
new_count b n f h = rw h

old_entries : (b : Book) (n : ℕ) (f : List ℕ) → has_entry n b ≡ true
    → entries_of (with_entry b n f) ≡ take b.count (set b.entries (entry_place n (entries_of b)) (entry n f))
old_entries b n f h = ap (λ k. take k (set b.entries (entry_place n (entries_of b)) (entry n f))) (old_count b n f h)

new_entries : (b : Book) (n : ℕ) (f : List ℕ) → has_entry n b ≡ false → b.count < length b.entries
    → entries_of (with_entry b n f) ≡ entries_of b ++ (entry n f ∷ [])
new_entries b n f h room =
    ap (λ k. take k (set b.entries (entry_place n (entries_of b)) (entry n f))) (new_count b n f h)
    ∙ put_new n b.count b.entries (entry n f) h room

short_entries : (b : Book) (n : ℕ) (f : List ℕ) → has_entry n b ≡ false → length b.entries ≤ b.count
    → entries_of (with_entry b n f) ≡ entries_of b
short_entries b n f h short =
    ap (λ k. take k (set b.entries (entry_place n (entries_of b)) (entry n f))) (new_count b n f h)
    ∙ put_short n b.count b.entries (entry n f) h short

room_below : (b : Book) (n : ℕ) → has_entry n b || ltb b.count place_limit ≡ true → has_entry n b ≡ false → b.count < place_limit
room_below b n room h = ltb-true b.count place_limit (or_other (has_entry n b) (ltb b.count place_limit) room h)

-- a kept book is kept
pub with_kept : (b : Book) (n : ℕ) (f : List ℕ) → Kept b → has_entry n b || ltb b.count place_limit ≡ true → Kept (with_entry b n f)
with_kept b n f kept room =
    let told = fits_out b kept.fits in
    let most = leb-true b.count place_limit told.0 in
    record {
      places = length-set b.entries (entry_place n (entries_of b)) (entry n f) ∙ kept.places;
      fits =
          cases (has_entry n b)
          (λ h. let same = old_count b n f h in
          fits_in (with_entry b n f) (omega (arith, same, most))
          (ap (λ l. distinct (numbers l)) (old_entries b n f h)
          ∙ ap distinct (put_numbers n b.count b.entries (entry n f) refl h)
          ∙ told.1))
          (λ h. let below = room_below b n room h in
          let more = new_count b n f h in
          fits_in (with_entry b n f) (omega (arith, more, below))
          (ap (λ l. distinct (numbers l)) (new_entries b n f h (omega (arith, below, kept.places)))
          ∙ ap distinct (map-append (λ (d : Entry). d.resource) (entries_of b) (entry n f ∷ []))
          ∙ distinct_last (numbers (entries_of b)) n told.1 (any_map (λ (d : Entry). d.resource) (eqb n) (entries_of b) ∙ h)));
    }

-- its own entry is the new one
pub with_own : (b : Book) (n : ℕ) (f : List ℕ) → length b.entries ≡ place_limit → has_entry n b || ltb b.count place_limit ≡ true
    → entry_for n (with_entry b n f) ≡ entry n f ∷ []
with_own b n f places room =
    cases (has_entry n b)
    (λ h. ap (first_of (is_for n)) (old_entries b n f h) ∙ put_own n b.count b.entries (entry n f) (eq-eqb n n refl) h)
    (λ h. let below = room_below b n room h in
    ap (first_of (is_for n)) (new_entries b n f h (omega (arith, below, places)))
    ∙ first_last (is_for n) (entries_of b) (entry n f) h (eq-eqb n n refl))

-- every other is as it was, in any book
pub with_other : (b : Book) (n m : ℕ) (f : List ℕ) → (m ≡ n → ⊥) → entry_for m (with_entry b n f) ≡ entry_for m b
with_other b n m f other =
    let unlike : eqb m n ≡ false = ne_eqb m n other in
    cases (has_entry n b)
    (λ h. ap (first_of (is_for m)) (old_entries b n f h)
    ∙ put_other n m b.count b.entries (entry n f) unlike
    (λ d e. ne_eqb m d.resource (λ g. other (g ∙ sym (eqb-true n d.resource e)))) h)
    (λ h. cases (ltb b.count (length b.entries))
    (λ e. ap (first_of (is_for m)) (new_entries b n f h (ltb-true b.count (length b.entries) e))
    ∙ first_without (is_for m) (entries_of b) (entry n f) unlike)
    (λ e. ap (first_of (is_for m)) (short_entries b n f h (ltb-false b.count (length b.entries) e))))

-- what has an entry keeps one, in any book
pub with_entry_kept : (b : Book) (n m : ℕ) (f : List ℕ) → has_entry m b ≡ true → has_entry m (with_entry b n f) ≡ true
with_entry_kept b n m f has =
    cases (has_entry n b)
    (λ h. ap (any (is_for m)) (old_entries b n f h)
    ∙ sym (any_map (λ (d : Entry). d.resource) (eqb m) (take b.count (set b.entries (entry_place n (entries_of b)) (entry n f))))
    ∙ ap (any (eqb m)) (put_numbers n b.count b.entries (entry n f) refl h)
    ∙ any_map (λ (d : Entry). d.resource) (eqb m) (entries_of b)
    ∙ has)
    (λ h. cases (ltb b.count (length b.entries))
    (λ e. ap (any (is_for m)) (new_entries b n f h (ltb-true b.count (length b.entries) e))
    ∙ any_append (is_for m) (entries_of b) (entry n f ∷ [])
    ∙ rw has)
    (λ e. ap (any (is_for m)) (short_entries b n f h (ltb-false b.count (length b.entries) e)) ∙ has))

-- the count never falls
pub with_count : (b : Book) (n : ℕ) (f : List ℕ) → b.count ≤ (with_entry b n f).count
with_count b n f =
    cases (has_entry n b) (λ h. let same = old_count b n f h in omega (arith, same)) (λ h. let more = new_count b n f h in omega (arith, more))
