-- Laws: The bounds of the numbers of refusals; what the outcome of ordered tests says of the tests, and back. Assumes nothing.
use Rattle.std.specs.Prelude.{◌≡◌, refl, true, false, List, [], ◌∷◌, ◌++◌, ℕ, ◌<◌, Result, Err, Ok}
use Rattle.std.proofs.Common.{sym, ◌∙◌, arith}
use Rattle.lists.specs.Tests.{cases}
use Rattle.lists.specs.Lists.{All}
use Rattle.refusals.specs.Refusals.{number_of, Test, outcome_of}
use Rattle.refusals.specs.declared.Refusal.{Refusal}
use Rattle.refusals.specs.declared.Refusal.TheVariants.{Unsound, Range, Absent, Stands, Full, NotKeeper, Ownerless, NotByMachine, NoParent, NotHeld, NotLive, NoDelegate, RightLacking, WeightAbove, TooManyHops, Circle, NoClaim, NoGrantor, Form, Count, Buffer, TooDeep, TooManyActions, JsonForm, JsonLacks, NoProposal, NotPermitted, NoEntry, BookFull, BadBook, Doubled, BadOwner, BadKeeper}

-- every refusal has a number of one or two digits, and none has 0
pub number_bounds : (why : Refusal) → (0 < number_of why) × (number_of why < 100)
number_bounds Unsound = (omega arith, omega arith)
number_bounds Range = (omega arith, omega arith)
number_bounds Absent = (omega arith, omega arith)
number_bounds Stands = (omega arith, omega arith)
number_bounds Full = (omega arith, omega arith)
number_bounds NotKeeper = (omega arith, omega arith)
number_bounds Ownerless = (omega arith, omega arith)
number_bounds NotByMachine = (omega arith, omega arith)
number_bounds NoParent = (omega arith, omega arith)
number_bounds NotHeld = (omega arith, omega arith)
number_bounds NotLive = (omega arith, omega arith)
number_bounds NoDelegate = (omega arith, omega arith)
number_bounds RightLacking = (omega arith, omega arith)
number_bounds WeightAbove = (omega arith, omega arith)
number_bounds TooManyHops = (omega arith, omega arith)
number_bounds Circle = (omega arith, omega arith)
number_bounds NoClaim = (omega arith, omega arith)
number_bounds NoGrantor = (omega arith, omega arith)
number_bounds Form = (omega arith, omega arith)
number_bounds Count = (omega arith, omega arith)
number_bounds Buffer = (omega arith, omega arith)
number_bounds TooDeep = (omega arith, omega arith)
number_bounds TooManyActions = (omega arith, omega arith)
number_bounds JsonForm = (omega arith, omega arith)
number_bounds JsonLacks = (omega arith, omega arith)
number_bounds NoProposal = (omega arith, omega arith)
number_bounds NotPermitted = (omega arith, omega arith)
number_bounds NoEntry = (omega arith, omega arith)
number_bounds BookFull = (omega arith, omega arith)
number_bounds BadBook = (omega arith, omega arith)
number_bounds Doubled = (omega arith, omega arith)
number_bounds BadOwner = (omega arith, omega arith)
number_bounds BadKeeper = (omega arith, omega arith)

-- an outcome taken apart, with its equation
pub outcome_cases : {A : Type 0} (o : Result Unit Refusal) → (o ≡ Ok tt → A) → ((why : Refusal) → o ≡ Err why → A) → A
outcome_cases (Ok _) f g = f refl
outcome_cases (Err why) f g = g why refl

-- what is refused is not accepted
pub outcome_clash : {A : Type 0} {why : Refusal} → ◌≡◌ {A = Result Unit Refusal} (Err why) (Ok tt) → A
outcome_clash e = let never : ◌≡◌ {A = ℕ} 0 1 = cc in absurd (omega arith)

-- what is refused has one refusal
pub refused_same : {why other : Refusal} → ◌≡◌ {A = Result Unit Refusal} (Err why) (Err other) → why ≡ other
refused_same e = cc

-- no tests are passed; a test that is passed leaves the others; one that is not decides
pub outcome_nil : outcome_of [] ≡ Ok tt
unfolding outcome_of
outcome_nil = refl

pub outcome_pass : (t : Test) (tests : List Test) → t.passed ≡ true → outcome_of (t ∷ tests) ≡ outcome_of tests
unfolding outcome_of
outcome_pass t tests e = rw e

pub outcome_fail : (t : Test) (tests : List Test) → t.passed ≡ false → outcome_of (t ∷ tests) ≡ Err t.refusal
unfolding outcome_of
outcome_fail t tests e = rw e

-- acceptance is that each test is passed
pub accepted_out : (tests : List Test) → outcome_of tests ≡ Ok tt → All (λ t. t.passed ≡ true) tests
accepted_out [] h = tt
accepted_out (t ∷ tests) h =
    cases t.passed (λ e. (e, accepted_out tests (rw (outcome_pass t tests e) at h))) (λ e. outcome_clash (rw (outcome_fail t tests e) at h))

pub accepted_in : (tests : List Test) → All (λ t. t.passed ≡ true) tests → outcome_of tests ≡ Ok tt
accepted_in [] h = outcome_nil
accepted_in (t ∷ tests) h = outcome_pass t tests h.0 ∙ accepted_in tests h.1

-- further tests are asked where the first are passed, and only there
pub outcome_append : (tests more : List Test) → outcome_of tests ≡ Ok tt → outcome_of (tests ++ more) ≡ outcome_of more
outcome_append [] more h = refl
outcome_append (t ∷ tests) more h =
    let told = accepted_out (t ∷ tests) h in outcome_pass t (tests ++ more) told.0 ∙ outcome_append tests more (accepted_in tests told.1)

pub outcome_append_refused : (tests more : List Test) (why : Refusal) → outcome_of tests ≡ Err why → outcome_of (tests ++ more) ≡ Err why
outcome_append_refused [] more why h = outcome_clash (sym h ∙ outcome_nil)
outcome_append_refused (t ∷ tests) more why h =
    cases t.passed (λ e. outcome_pass t (tests ++ more) e ∙ outcome_append_refused tests more why (sym (outcome_pass t tests e) ∙ h))
    (λ e. outcome_fail t (tests ++ more) e ∙ sym (outcome_fail t tests e) ∙ h)

-- where the tests come to acceptance, the first is passed, and those behind it come to acceptance
pub outcome_first : (t : Test) (tests : List Test) → outcome_of (t ∷ tests) ≡ Ok tt → (t.passed ≡ true) × (outcome_of tests ≡ Ok tt)
outcome_first t tests accepted =
    cases t.passed
    (λ passed. (passed, sym (outcome_pass t tests passed) ∙ accepted))
    (λ failed. outcome_clash (sym (outcome_fail t tests failed) ∙ accepted))

pub outcome_accepted : (t : Test) (tests : List Test) → outcome_of (t ∷ tests) ≡ Ok tt → t.passed ≡ true
outcome_accepted t tests accepted = (outcome_first t tests accepted).0
