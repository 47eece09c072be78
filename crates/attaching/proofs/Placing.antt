-- An attach and a fetch by the place of an entry are those of 02's words, where the tests that both begin with are passed. Assumes nothing.
use Rattle.std.proofs.Common.{◌≡◌, ap, sym, ◌∙◌, true, false, ◌||◌, List, [], ◌∷◌, ℕ, suc, ◌+◌, ◌<◌, ◌≤◌, min, arith, lt-ltb, le-ltb, eq-eqb, ne_eqb, ltb-true, ltb-false, ltb, length, get_or, set, get_or-take, Some, is_some, Err, Ok}
use Rattle.lists.specs.Tests.{cases}
use Rattle.register.specs.declared.Register.{Register}
use Rattle.refusals.specs.Refusals.{outcome_of}
use Rattle.refusals.proofs.Laws.{outcome_pass, outcome_fail, outcome_nil, outcome_append, outcome_append_refused}
use Rattle.refusals.specs.declared.Refusal.{Refusal}
use Rattle.refusals.specs.declared.Refusal.TheVariants.{NoEntry, BookFull}
use Rattle.actions.specs.declared.Action.{Action}
use Rattle.fingerprints.specs.Fingerprints.{place_limit, zeros, entry, entries_of, has_entry, entry_place, book_fits, attaching, fetching, book_tests, room_test, entry_test, attach_tests, fetch_tests, with_entry, attached, first_print, fetched}
use Rattle.fingerprints.proofs.Laws.{entry_none, entry_below, entry_first, attached_accepted, attached_refused, fetched_accepted, fetched_refused}
use Rattle.fingerprints.specs.declared.Entry.{Entry}
use Rattle.fingerprints.specs.declared.Book.{Book}
use Rattle.fingerprints.specs.declared.Fetched.{Fetched}
use Rattle.attaching.specs.Spots.{entry_spot, put_at, print_at}
use Rattle.attaching.proofs.Columns.{entries_long, entries_few}
use Rattle.attaching.proofs.Settling.{begun_fits}

-- an entry put within, at another place than the count or at the count, and past the last place
pub put_over : (b : Book) (place : ℕ) (e : Entry) → place < place_limit → (place ≡ b.count → ⊥)
    → put_at b place e ≡ record { book = record { entries = set b.entries place e; count = b.count }; outcome = (Ok tt) }
unfolding put_at
put_over b place e inside other = rw (lt-ltb place place_limit inside, ne_eqb place b.count other)

pub put_behind : (b : Book) (place : ℕ) (e : Entry) → place < place_limit → place ≡ b.count
    → put_at b place e ≡ record { book = record { entries = set b.entries place e; count = place + 1 }; outcome = (Ok tt) }
unfolding put_at
put_behind b place e inside same =
    let more : suc b.count ≡ place + 1 = omega (arith, same) in
    rw (lt-ltb place place_limit inside, eq-eqb place b.count same, more)

pub put_past : (b : Book) (place : ℕ) (e : Entry) → place_limit ≤ place → put_at b place e ≡ record { book = b; outcome = Err BookFull }
unfolding put_at
put_past b place e past = rw (le-ltb place place_limit past)

-- an entry read below the count, and from it on
abbrev printed : List ℕ → Fetched
printed f = record { fingerprint = f; outcome = (Ok tt) }

pub print_within : (b : Book) (place : ℕ) → place < min b.count place_limit → print_at b place ≡ printed (get_or b.entries place (entry 0 [])).fingerprint
unfolding print_at
print_within b place inside = rw (lt-ltb place (min b.count place_limit) inside)

pub print_past : (b : Book) (place : ℕ) → min b.count place_limit ≤ place → print_at b place ≡ record { fingerprint = zeros; outcome = Err NoEntry }
unfolding print_at
print_past b place past = rw (le-ltb place (min b.count place_limit) past)

-- there is a place where the book fits
pub spot_fits : (b : Book) (n : ℕ) → is_some (entry_spot b n) ≡ book_fits b
spot_fits b n = cases (book_fits b) (λ fits. rw fits) (λ unfit. rw unfit)

pub spot_passed : (b : Book) (n : ℕ) (r : Register) (a : Action) {place : ℕ} → entry_spot b n ≡ Some place → outcome_of (book_tests true r a) ≡ Ok tt
    → outcome_of (book_tests (book_fits b) r a) ≡ Ok tt
spot_passed b n r a e passed =
    let fits : book_fits b ≡ true = sym (spot_fits b n) ∙ ap is_some e in
    ap (λ fits. outcome_of (book_tests fits r a)) fits ∙ passed

module _ (b : Book) (r : Register) (x n moment : ℕ) (long : length b.entries ≡ place_limit) where
  -- where the first tests are not passed, neither call is
  pub attach_stopped : (f : List ℕ) (why : Refusal) → outcome_of (book_tests (book_fits b) r (attaching x n moment)) ≡ Err why
      → attached b r x n moment f ≡ record { book = b; outcome = Err why }
  attach_stopped f why h =
      attached_refused b r x n moment f why (outcome_append_refused (book_tests (book_fits b) r (attaching x n moment)) (room_test b n ∷ []) why h)

  pub fetch_stopped : (why : Refusal) → outcome_of (book_tests (book_fits b) r (fetching x n moment)) ≡ Err why
      → fetched b r x n moment ≡ record { fingerprint = zeros; outcome = Err why }
  fetch_stopped why h =
      fetched_refused b r x n moment why (outcome_append_refused (book_tests (book_fits b) r (fetching x n moment)) (entry_test b n ∷ []) why h)

  -- where the number has an entry its place is below the count; where it has none its place is the count
  below : book_fits b ≡ true → has_entry n b ≡ true → entry_place n (entries_of b) < b.count
  below fits some = let at = entry_below n (entries_of b) some in omega (arith, at, entries_long b n long fits)

  at_count : book_fits b ≡ true → has_entry n b ≡ false → entry_place n (entries_of b) ≡ b.count
  at_count fits none = entry_none n (entries_of b) none ∙ entries_long b n long fits

  spot_place_lem : {place : ℕ} → book_fits b ≡ true → entry_spot b n ≡ Some place → place ≡ entry_place n (entries_of b)
  spot_place_lem fits e = let told = rw fits at e in cc

  module _ (f : List ℕ) (passed : outcome_of (book_tests (book_fits b) r (attaching x n moment)) ≡ Ok tt) where
    fits : book_fits b ≡ true
    fits = begun_fits (book_fits b) r (attaching x n moment) passed

    own : outcome_of (attach_tests b r x n moment) ≡ outcome_of (room_test b n ∷ [])
    own = outcome_append (book_tests (book_fits b) r (attaching x n moment)) (room_test b n ∷ []) passed

    taken : has_entry n b || ltb b.count place_limit ≡ true → attached b r x n moment f ≡ record { book = with_entry b n f; outcome = (Ok tt) }
    taken room = attached_accepted b r x n moment f (own ∙ outcome_pass (room_test b n) [] room ∙ outcome_nil)

    abbrev place : ℕ
    place = entry_place n (entries_of b)

    put_told : put_at b place (entry n f) ≡ attached b r x n moment f
    put_told =
        cases (has_entry n b)
        (λ some. let inside = below fits some in
        put_over b place (entry n f) (omega (arith, inside, entries_few b n long fits)) (λ same. omega (arith, same, inside))
        ∙ sym (taken (rw some) ∙ rw some))
        (λ none. let same = at_count fits none in
        let one_more : place + 1 ≡ suc b.count = omega (arith, same) in
        cases (ltb b.count place_limit)
        (λ room. let under = ltb-true b.count place_limit room in
        put_behind b place (entry n f) (omega (arith, same, under)) same
        ∙ ap (λ k. record { book = record { entries = set b.entries place (entry n f); count = k }; outcome = (Ok tt) }) one_more
        ∙ sym (taken (rw (none, room)) ∙ rw none))
        (λ full. let past = ltb-false b.count place_limit full in
        put_past b place (entry n f) (omega (arith, same, past))
        ∙ sym (attached_refused b r x n moment f BookFull (own ∙ outcome_fail (room_test b n) [] (rw (none, full))))))

    pub put_natural : {at : ℕ} → entry_spot b n ≡ Some at → put_at b at (entry n f) ≡ attached b r x n moment f
    put_natural e = ap (λ k. put_at b k (entry n f)) (spot_place_lem fits e) ∙ put_told

  module _ (passed : outcome_of (book_tests (book_fits b) r (fetching x n moment)) ≡ Ok tt) where
    book_fit : book_fits b ≡ true
    book_fit = begun_fits (book_fits b) r (fetching x n moment) passed

    asked : outcome_of (fetch_tests b r x n moment) ≡ outcome_of (entry_test b n ∷ [])
    asked = outcome_append (book_tests (book_fits b) r (fetching x n moment)) (entry_test b n ∷ []) passed

    print_told : print_at b (entry_place n (entries_of b)) ≡ fetched b r x n moment
    print_told =
        cases (has_entry n b)
        (λ some. let inside = below book_fit some in
        print_within b (entry_place n (entries_of b)) (omega (arith, inside, entries_few b n long book_fit))
        ∙ sym (fetched_accepted b r x n moment (asked ∙ outcome_pass (entry_test b n) [] some ∙ outcome_nil)
        ∙ ap (λ l. printed (first_print l)) (entry_first n (entries_of b) (entry 0 []) some)
        ∙ ap (λ (e : Entry). printed e.fingerprint) (get_or-take b.count b.entries (entry_place n (entries_of b)) (entry 0 []) inside)))
        (λ none. print_past b (entry_place n (entries_of b)) (omega (arith, at_count book_fit none))
        ∙ sym (fetched_refused b r x n moment NoEntry (asked ∙ outcome_fail (entry_test b n) [] none)))

    pub print_natural : {at : ℕ} → entry_spot b n ≡ Some at → print_at b at ≡ fetched b r x n moment
    print_natural e = ap (print_at b) (spot_place_lem book_fit e) ∙ print_told
