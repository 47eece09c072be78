-- Registers that look alike to the actor of the one-use action that an attach or a fetch is judged as get one answer of it, whatever book is lent; and
-- where two books fit, both are told 27 or neither is. So does the plain gate. Assumes nothing.
use Rattle.std.proofs.Common.{Result, Err, Ok, ◌≡◌, refl, sym, ap, ◌∙◌, Bool, true, List, [], ◌∷◌, ◌++◌, ℕ, arith}
use Rattle.lists.specs.Tests.{cases}
use Rattle.register.specs.declared.Register.{Register}
use Rattle.refusals.specs.Refusals.{Test, outcome_of}
use Rattle.refusals.proofs.Laws.{outcome_cases, outcome_clash, refused_same, outcome_nil, outcome_pass, outcome_fail, outcome_append, outcome_append_refused}
use Rattle.refusals.specs.declared.Refusal.{Refusal}
use Rattle.refusals.specs.declared.Refusal.TheVariants.{NotPermitted, BookFull, NoEntry}
use Rattle.actions.specs.declared.Action.{Action}
use Rattle.fingerprints.specs.Fingerprints.{book_fits, attaching, fetching, book_tests, room_test, entry_test, attached_on, attached, fetched_on, fetched, with_entry, entry_for}
use Rattle.fingerprints.specs.declared.Entry.{Entry}
use Rattle.fingerprints.specs.declared.Book.{Book}
use Rattle.coverage_table.specs.Table.{plainly_gated}
use Rattle.coverage_table.proofs.Sameness.{gate_same}
use Rattle.guesses.specs.Alike.{LooksAlike}
use Rattle.guesses.proofs.Blind.{action_tests_blind, guess_blind}

module _ (r s : Register) (a : Action) (alike : LooksAlike r s a) where
  book_tests_blind : (fits : Bool) → book_tests fits r a ≡ book_tests fits s a
  unfolding book_tests
  book_tests_blind fits = rw (alike.first_sound, alike.second_sound, action_tests_blind r s a alike, guess_blind r s a alike)

pub attach_blind : (b : Book) (r s : Register) (x n moment : ℕ) (f : List ℕ) → LooksAlike r s (attaching x n moment)
    → attached b r x n moment f ≡ attached b s x n moment f
unfolding attached
attach_blind b r s x n moment f alike =
    ap (λ tests. attached_on (outcome_of (tests ++ (room_test b n ∷ []))) b (with_entry b n f)) (book_tests_blind r s (attaching x n moment) alike (book_fits b))

pub fetch_blind_register : (b : Book) (r s : Register) (x n moment : ℕ) → LooksAlike r s (fetching x n moment)
    → fetched b r x n moment ≡ fetched b s x n moment
unfolding fetched
fetch_blind_register b r s x n moment alike =
    ap (λ tests. fetched_on (outcome_of (tests ++ (entry_test b n ∷ []))) (entry_for n b)) (book_tests_blind r s (fetching x n moment) alike (book_fits b))

-- what an attach, a fetch is told is the outcome of its tests
attach_outcome : (o : Result Unit Refusal) (b c : Book) → (attached_on o b c).outcome ≡ o
attach_outcome (Ok _) b c = refl
attach_outcome (Err why) b c = refl

fetch_outcome : (o : Result Unit Refusal) (l : List Entry) → (fetched_on o l).outcome ≡ o
fetch_outcome (Ok _) l = refl
fetch_outcome (Err why) l = refl

full_other : BookFull ≡ NotPermitted → ⊥
full_other e = let never : ◌≡◌ {A = ℕ} 0 1 = cc in omega arith

none_other : NoEntry ≡ NotPermitted → ⊥
none_other e = let never : ◌≡◌ {A = ℕ} 0 1 = cc in omega arith

-- 27 behind the tests that both calls begin with is theirs: the test that comes last tells another number
other_last : (tests : List Test) (last : Test) → (last.refusal ≡ NotPermitted → ⊥) → outcome_of (tests ++ (last ∷ [])) ≡ Err NotPermitted
    → outcome_of tests ≡ Err NotPermitted
other_last tests last other told =
    outcome_cases (outcome_of tests)
    (λ e. absurd (other (last_told last (sym (outcome_append tests (last ∷ []) e) ∙ told))))
    (λ why e. e ∙ sym (outcome_append_refused tests (last ∷ []) why e) ∙ told)
  where
    last_told : (last : Test) → outcome_of (last ∷ []) ≡ Err NotPermitted → last.refusal ≡ NotPermitted
    last_told last told =
        cases last.passed
        (λ e. outcome_clash (sym told ∙ outcome_pass last [] e ∙ outcome_nil))
        (λ e. refused_same (sym (outcome_fail last [] e) ∙ told))

module _ (b c : Book) (fits : book_fits b ≡ true) (other_fits : book_fits c ≡ true) (r s : Register) (x n moment : ℕ) where
  tests_told : (a : Action) → LooksAlike r s a → (first second : Test) → (first.refusal ≡ NotPermitted → ⊥)
      → outcome_of (book_tests (book_fits b) r a ++ (first ∷ [])) ≡ Err NotPermitted → outcome_of (book_tests (book_fits c) s a ++ (second ∷ [])) ≡ Err NotPermitted
  tests_told a alike first second other told =
      outcome_append_refused (book_tests (book_fits c) s a) (second ∷ []) NotPermitted
      (ap (λ k. outcome_of (book_tests k s a)) other_fits
      ∙ ap outcome_of (sym (book_tests_blind r s a alike true))
      ∙ ap (λ k. outcome_of (book_tests k r a)) (sym fits)
      ∙ other_last (book_tests (book_fits b) r a) first other told)

  pub attach_permission : (f g : List ℕ) → LooksAlike r s (attaching x n moment) → (attached b r x n moment f).outcome ≡ Err NotPermitted
      → (attached c s x n moment g).outcome ≡ Err NotPermitted
  unfolding attached
  attach_permission f g alike told =
      attach_outcome (outcome_of (book_tests (book_fits c) s (attaching x n moment) ++ (room_test c n ∷ []))) c (with_entry c n g)
      ∙ tests_told (attaching x n moment) alike (room_test b n) (room_test c n) full_other
      (sym (attach_outcome (outcome_of (book_tests (book_fits b) r (attaching x n moment) ++ (room_test b n ∷ []))) b (with_entry b n f)) ∙ told)

  pub fetch_permission : LooksAlike r s (fetching x n moment) → (fetched b r x n moment).outcome ≡ Err NotPermitted
      → (fetched c s x n moment).outcome ≡ Err NotPermitted
  unfolding fetched
  fetch_permission alike told =
      fetch_outcome (outcome_of (book_tests (book_fits c) s (fetching x n moment) ++ (entry_test c n ∷ []))) (entry_for n c)
      ∙ tests_told (fetching x n moment) alike (entry_test b n) (entry_test c n) none_other
      (sym (fetch_outcome (outcome_of (book_tests (book_fits b) r (fetching x n moment) ++ (entry_test b n ∷ []))) (entry_for n b)) ∙ told)

-- the plain gate's answer is the gate's
pub plain_blind : (r s : Register) (a : Action) → LooksAlike r s a → plainly_gated r a ≡ plainly_gated s a
plain_blind r s a alike = gate_same r a ∙ guess_blind r s a alike ∙ sym (gate_same s a)
