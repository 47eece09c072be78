-- The numbers of a book's entries as a column, filled from the front, and what one look at it tells: whether the book fits, and the place of a number's
-- entry. Assumes nothing.
use Rattle.std.proofs.Common.{◌≡◌, ap, sym, ◌∙◌, true, false, not, ◌&&◌, List, [], ◌∷◌, ◌++◌, map, ℕ, zero, suc, ◌+◌, ◌-◌, ◌≤◌, ◌<◌, min, add-one, arith, eq-eqb, eqb-true, leb-true, eqb, leb, length, take, get_or, set, replicate, length-take, take-suc, get_or-take, Some, None}
use mathlib.Core.List.{map-append}
use borrow.Author.Tests.{not-true}
use lib.ListN.{length-map, get_or-map}
use Rattle.lists.specs.Tests.{cases, clash, and_left, and_right, or_second}
use Rattle.lists.specs.Lists.{any, distinct}
use Rattle.lists.specs.Each.{any_map, take_map}
use Rattle.lists.specs.Distinct.{distinct_cons}
use Rattle.lists.specs.Fills.{put_first}
use Rattle.register.specs.Limits.{claim_limit}
use Rattle.columns.specs.Columns.{latest_place}
use Rattle.columns.specs.Laws.{place_cases, place_found_lem, nowhere_none}
use Rattle.lookup.specs.Finding.{place_number, places_found}
use Rattle.lookup.specs.Laws.{places_at}
use Rattle.lookup.specs.declared.Found.{Found}
use Rattle.fingerprints.specs.Fingerprints.{place_limit, zeros, entry, entries_of, is_for, entry_place, book_fits}
use Rattle.fingerprints.proofs.Laws.{entry_hit, entry_miss, entry_none}
use Rattle.fingerprints.specs.declared.Entry.{Entry}
use Rattle.fingerprints.specs.declared.Book.{Book}
use Rattle.attaching.specs.Spots.{entry_spot}

abbrev numbers_of : List Entry → List ℕ
numbers_of l = map (λ e. e.resource) l

-- a loop that fills the column has come to place i
pub record Filled (l : List Entry) (i : ℕ) (column : List ℕ) : Type 0 where
  pub within : i ≤ place_limit
  pub long : length l ≡ place_limit
  pub told : column ≡ numbers_of (take i l) ++ replicate (place_limit - i) 0

pub filled_next : {l : List Entry} {i : ℕ} {column : List ℕ} → Filled l i column → (d : Entry) → i < place_limit
    → Filled l (i + 1) (set column i (get_or l i d).resource)
filled_next {l} {i} {column} s d below =
    let first : length (numbers_of (take i l)) ≡ i = omega (arith, length-map (take i l) (λ e. e.resource), length-take i l, s.long) in
    let more : numbers_of (take (i + 1) l) ≡ numbers_of (take i l) ++ ((get_or l i d).resource ∷ []) =
    ap numbers_of (ap (λ k. take k l) (add-one i) ∙ take-suc l i d (omega (arith, s.long)))
    ∙ map-append (λ (e : Entry). e.resource) (take i l) (get_or l i d ∷ []) in
    record {
      within = omega arith;
      long = s.long;
      told = rw (s.told, more) (put_first (numbers_of (take i l)) place_limit i 0 (get_or l i d).resource first below);
    }

-- a number that stands at a place is among the numbers
stands_any : (x : ℕ) (l : List Entry) (k : ℕ) (d : Entry) → k < length l → (get_or l k d).resource ≡ x → any (eqb x) (numbers_of l) ≡ true
stands_any x [] k d inside same = absurd (omega (arith, inside))
stands_any x (e ∷ l) zero d inside same = rw (eq-eqb x e.resource (sym same))
stands_any x (e ∷ l) (suc k) d inside same =
    or_second (eqb x e.resource) (any (eqb x) (numbers_of l)) (stands_any x l k d (omega (arith, inside)) same)

-- where the numbers are distinct, an entry of a number is its first
pub distinct_place : (n : ℕ) (l : List Entry) (k : ℕ) (d : Entry) → distinct (numbers_of l) ≡ true → k < length l → (get_or l k d).resource ≡ n
    → entry_place n l ≡ k
distinct_place n [] k d apart inside same = absurd (omega (arith, inside))
distinct_place n (e ∷ l) zero d apart inside same = entry_hit n e l (eq-eqb n e.resource (sym same))
distinct_place n (e ∷ l) (suc k) d apart inside same =
    let told = sym (distinct_cons e.resource (numbers_of l)) ∙ apart in
    let none = not-true (any (eqb e.resource) (numbers_of l)) (and_left (not (any (eqb e.resource) (numbers_of l))) (distinct (numbers_of l)) told) in
    let rest = and_right (not (any (eqb e.resource) (numbers_of l))) (distinct (numbers_of l)) told in
    let other : is_for n e ≡ false =
    cases (is_for n e)
    (λ h. clash (any (eqb e.resource) (numbers_of l)) (stands_any e.resource l k d (omega (arith, inside)) (same ∙ eqb-true n e.resource h)) none)
    (λ h. h) in
    entry_miss n e l other ∙ ap suc (distinct_place n l k d rest (omega (arith, inside)) same)

module _ (b : Book) (n : ℕ) (long : length b.entries ≡ place_limit) where
  abbrev column : List ℕ
  column = numbers_of b.entries

  few_first : b.count ≤ place_limit → take (min b.count claim_limit) column ≡ numbers_of (entries_of b)
  few_first few =
      let same : min b.count claim_limit ≡ b.count = omega (arith, few) in
      ap (λ k. take k column) same ∙ take_map (λ (e : Entry). e.resource) b.count b.entries

  -- whether the book fits
  pub fits_told : leb b.count place_limit && (places_found column b.count (n ∷ []) 1).distinct ≡ book_fits b
  unfolding places_found book_fits
  fits_told =
      cases (leb b.count place_limit)
      (λ e. rw e (ap distinct (few_first (leb-true b.count place_limit e))))
      (λ e. rw e)

  module _ (fits : book_fits b ≡ true) where
    pub entries_few : b.count ≤ place_limit
    unfolding book_fits
    entries_few = leb-true b.count place_limit (and_left (leb b.count place_limit) (distinct (numbers_of (entries_of b))) fits)

    apart : distinct (numbers_of (entries_of b)) ≡ true
    unfolding book_fits
    apart = and_right (leb b.count place_limit) (distinct (numbers_of (entries_of b))) fits

    pub entries_long : length (entries_of b) ≡ b.count
    entries_long = omega (arith, length-take b.count b.entries, entries_few, long)

    -- the place that was found, as a number
    found_place : (d : ℕ) → get_or (places_found column b.count (n ∷ []) 1).places 0 d ≡ place_number claim_limit (latest_place column b.count n)
    unfolding places_found
    found_place d =
        let same : min b.count claim_limit ≡ b.count = omega (arith, entries_few) in
        places_at column b.count (n ∷ []) 1 0 d (omega arith) ∙ ap (λ k. place_number claim_limit (latest_place column k n)) same

    stands_there : (k : ℕ) → latest_place column b.count n ≡ Some k → entry_place n (entries_of b) ≡ k
    stands_there k q =
        let found = place_found_lem column n b.count k q in
        distinct_place n (entries_of b) k (entry 0 zeros) apart (omega (arith, found.0, entries_long))
        (ap (λ (e : Entry). e.resource) (get_or-take b.count b.entries k (entry 0 zeros) found.0)
        ∙ sym (get_or-map (λ (e : Entry). e.resource) b.entries k (entry 0 zeros))
        ∙ found.2)

    stands_nowhere : latest_place column b.count n ≡ None → entry_place n (entries_of b) ≡ b.count
    stands_nowhere q =
        entry_none n (entries_of b)
        (sym (any_map (λ (e : Entry). e.resource) (eqb n) (entries_of b))
        ∙ ap (any (eqb n)) (sym (take_map (λ (e : Entry). e.resource) b.count b.entries))
        ∙ nowhere_none column n b.count q)
        ∙ entries_long

    -- the claims' limit says that the number has no entry; else it is the entry's place
    pub place_none : (d : ℕ) → get_or (places_found column b.count (n ∷ []) 1).places 0 d ≡ claim_limit → entry_place n (entries_of b) ≡ b.count
    place_none d h =
        place_cases (latest_place column b.count n)
        (λ k q. let found = place_found_lem column n b.count k q in
        let at : k ≡ claim_limit = sym (ap (place_number claim_limit) q) ∙ sym (found_place d) ∙ h in absurd (omega (arith, at, found.0, entries_few)))
        (λ q. stands_nowhere q)

    pub place_some : (d : ℕ) → (get_or (places_found column b.count (n ∷ []) 1).places 0 d ≡ claim_limit → ⊥)
        → entry_place n (entries_of b) ≡ get_or (places_found column b.count (n ∷ []) 1).places 0 d
    place_some d h =
        place_cases (latest_place column b.count n)
        (λ k q. stands_there k q ∙ sym (found_place d ∙ ap (place_number claim_limit) q))
        (λ q. absurd (h (found_place d ∙ ap (place_number claim_limit) q)))

-- what was found by one look at the column is the spot
module _ (b : Book) (n : ℕ) (long : length b.entries ≡ place_limit) {found : Found}
    (told : found ≡ places_found (numbers_of b.entries) b.count (n ∷ []) 1) where
  fits_found : leb b.count place_limit && found.distinct ≡ book_fits b
  fits_found = ap (λ (f : Found). leb b.count place_limit && f.distinct) told ∙ fits_told b n long

  place_found_by : get_or found.places 0 0 ≡ get_or (places_found (numbers_of b.entries) b.count (n ∷ []) 1).places 0 0
  place_found_by = ap (λ (f : Found). get_or f.places 0 0) told

  pub spot_unfit : leb b.count place_limit && found.distinct ≡ false → None ≡ entry_spot b n
  spot_unfit unfit = rw (sym fits_found ∙ unfit)

  module _ (fit : leb b.count place_limit && found.distinct ≡ true) where
    fits : book_fits b ≡ true
    fits = sym fits_found ∙ fit

    pub spot_none : get_or found.places 0 0 ≡ claim_limit → Some b.count ≡ entry_spot b n
    spot_none none = rw (fits, place_none b n long fits 0 (sym place_found_by ∙ none))

    pub spot_some : (get_or found.places 0 0 ≡ claim_limit → ⊥) → Some (get_or found.places 0 0) ≡ entry_spot b n
    spot_some some = rw (fits, place_some b n long fits 0 (λ same. some (place_found_by ∙ same)), place_found_by)
