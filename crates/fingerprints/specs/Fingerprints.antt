-- Believed: The fingerprint book in 02's words: its entries, the tests of attach and fetch in their order, what each hands back, and what any
-- attaches and fetches in a row come to.
use Rattle.refusals.specs.declared.Refusal.{Refusal}
use Rattle.std.specs.Prelude.{Bool, ◌&&◌, ◌||◌, cond, List, [], ◌∷◌, ◌++◌, map, ℕ, suc, eqb, leb, ltb, take, set, replicate, Result, Err, Ok}
use Rattle.lists.specs.Lists.{any, distinct}
use Rattle.rights.specs.Rights.{reading}
use Rattle.register.specs.declared.Register.{Register}
use Rattle.soundness_rules.specs.Sound.{sound}
use Rattle.refusals.specs.Refusals.{Test, outcome_of, is_accepted}
use Rattle.refusals.specs.declared.Refusal.TheVariants.{Unsound, NotPermitted, NoEntry, BookFull, BadBook}
use Rattle.actions.specs.Actions.{one_use, is_permitted}
use Rattle.actions.specs.declared.Action.{Action}
use Rattle.gate_rules.specs.Gate.{gated, first_of, action_tests}
use Rattle.fingerprints.specs.declared.Entry.{Entry}
use Rattle.fingerprints.specs.declared.Book.{Book}
use Rattle.fingerprints.specs.declared.Attached.{Attached}
use Rattle.fingerprints.specs.declared.Fetched.{Fetched}

-- how many entries a book has at most; how many bytes a fingerprint has
abbrev pub place_limit : ℕ
place_limit = 64

abbrev pub fingerprint_bytes : ℕ
fingerprint_bytes = 32

-- the rights asked: READ for a fetch, WRITE for an attach
abbrev pub fetch_right : ℕ
fetch_right = reading

abbrev pub attach_right : ℕ
attach_right = 1

abbrev pub zeros : List ℕ
zeros = replicate fingerprint_bytes 0

abbrev pub entry : ℕ → List ℕ → Entry
entry n f = record { resource = n; fingerprint = f }

-- what stands at a place that no entry was put into: all zeros
abbrev pub empty_book : Book
empty_book = record { entries = replicate place_limit (entry 0 zeros); count = 0 }

-- entries past the count are ignored
abbrev pub entries_of : Book → List Entry
entries_of b = take b.count b.entries

abbrev pub is_for : ℕ → Entry → Bool
is_for n e = eqb n e.resource

-- the entry of a number, alone in a list, or none; whether there is one
abbrev pub entry_for : ℕ → Book → List Entry
entry_for n b = first_of (is_for n) (entries_of b)

abbrev pub has_entry : ℕ → Book → Bool
has_entry n b = any (is_for n) (entries_of b)

-- how many stand before the first entry of n, all where there is none
unfoldable pub entry_place : ℕ → List Entry → ℕ
entry_place n [] = 0
entry_place n (e ∷ l) = let more = suc (entry_place n l) in cond (is_for n e) 0 more

-- at most 64 entries, and no two for one number
unfoldable pub book_fits : Book → Bool
book_fits b = leb b.count place_limit && distinct (map (λ e. e.resource) (entries_of b))

-- the action of one use that an attach, a fetch is judged as
abbrev pub attaching : ℕ → ℕ → ℕ → Action
attaching x n moment = one_use x (record { resource = n; right = attach_right }) moment

abbrev pub fetching : ℕ → ℕ → ℕ → Action
fetching x n moment = one_use x (record { resource = n; right = fetch_right }) moment

-- the tests that both calls begin with, in their order: 1, 30 by whether the book fits, 2, 3, 27
unfoldable pub book_tests : Bool → Register → Action → List Test
book_tests fits r a =
    record { passed = sound r; refusal = Unsound }
    ∷ record { passed = fits; refusal = BadBook }
    ∷ (action_tests r a ++ (record { passed = is_permitted (gated r a).decision; refusal = NotPermitted } ∷ []))

-- 29: a new number in a full book; 28: no entry
abbrev pub room_test : Book → ℕ → Test
room_test b n = record { passed = has_entry n b || ltb b.count place_limit; refusal = BookFull }

abbrev pub entry_test : Book → ℕ → Test
entry_test b n = record { passed = has_entry n b; refusal = NoEntry }

abbrev pub attach_tests : Book → Register → ℕ → ℕ → ℕ → List Test
attach_tests b r x n moment = book_tests (book_fits b) r (attaching x n moment) ++ (room_test b n ∷ [])

abbrev pub fetch_tests : Book → Register → ℕ → ℕ → ℕ → List Test
fetch_tests b r x n moment = book_tests (book_fits b) r (fetching x n moment) ++ (entry_test b n ∷ [])

-- the entry put at its place, the count one more where the number is new
abbrev pub with_entry : Book → ℕ → List ℕ → Book
with_entry b n f = record {
  entries = set b.entries (entry_place n (entries_of b)) (entry n f);
  count = cond (has_entry n b) b.count (suc b.count);
}

-- accepted, the book with the entry; refused, as it came
abbrev pub attached_on : Result Unit Refusal → Book → Book → Attached
attached_on (Ok _) b c = record { book = c; outcome = (Ok tt) }
attached_on (Err why) b c = record { book = b; outcome = Err why }

-- the answer of an attach of f to the number n, by the actor x
unfoldable pub attached : Book → Register → ℕ → ℕ → ℕ → List ℕ → Attached
attached b r x n moment f = attached_on (outcome_of (attach_tests b r x n moment)) b (with_entry b n f)

-- the fingerprint of the first of some, zeros where there is none
abbrev pub first_print : List Entry → List ℕ
first_print [] = zeros
first_print (e ∷ l) = e.fingerprint

-- accepted, the entry's 32 bytes; refused, 32 zeros
abbrev pub fetched_on : Result Unit Refusal → List Entry → Fetched
fetched_on (Ok _) l = record { fingerprint = first_print l; outcome = (Ok tt) }
fetched_on (Err why) l = record { fingerprint = zeros; outcome = Err why }

-- the answer of a fetch of the number n by the actor x
unfoldable pub fetched : Book → Register → ℕ → ℕ → ℕ → Fetched
fetched b r x n moment = fetched_on (outcome_of (fetch_tests b r x n moment)) (entry_for n b)

-- an attach (register, actor, number, moment, fingerprint) or a fetch (register, actor, number, moment)
pub data Deed : Type 0 where
  attaches : Register → ℕ → ℕ → ℕ → List ℕ → Deed
  fetches : Register → ℕ → ℕ → ℕ → Deed

-- the book after one deed, and after some
abbrev pub deed_after : Book → Deed → Book
deed_after b (attaches r x n moment f) = (attached b r x n moment f).book
deed_after b (fetches r x n moment) = b

abbrev pub book_after : Book → List Deed → Book
book_after b [] = b
book_after b (d ∷ ds) = book_after (deed_after b d) ds

-- number and fingerprint of the accepted attaches, latest first
abbrev pub noted_by : Book → Deed → List Entry
noted_by b (attaches r x n moment f) = cond (is_accepted (attached b r x n moment f).outcome) (entry n f ∷ []) []
noted_by b (fetches r x n moment) = []

abbrev pub noted : Book → List Deed → List Entry
noted b [] = []
noted b (d ∷ ds) = noted (deed_after b d) ds ++ noted_by b d

-- a permitted fetch is answered by the first of some, or with 28 and zeros where there is none
abbrev pub answered_by : List Entry → Fetched
answered_by [] = record { fingerprint = zeros; outcome = Err NoEntry }
answered_by (e ∷ l) = record { fingerprint = e.fingerprint; outcome = (Ok tt) }
