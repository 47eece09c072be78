-- What the tests of both calls come to: the call's own test where the gate permits and the book fits; 1, 2, 3 or 27 where it does not permit.
-- Assumes nothing.
use Rattle.std.proofs.Common.{Result, Err, Ok, ◌≡◌, refl, ap, sym, ◌∙◌, Bool, true, false, cond, List, [], ◌∷◌, ◌++◌, ℕ, arith, eqb}
use Rattle.lists.specs.Tests.{cases}
use Rattle.lists.specs.Lists.{any}
use Rattle.register.specs.Register.{actors_of}
use Rattle.register.specs.declared.Register.{Register}
use Rattle.soundness_rules.specs.Sound.{sound}
use Rattle.refusals.specs.Refusals.{number_of, Test, outcome_of}
use Rattle.refusals.proofs.Laws.{accepted_out}
use Rattle.refusals.specs.declared.Refusal.{Refusal}
use Rattle.refusals.specs.declared.Refusal.TheVariants.{Unsound, Range, Absent, NotPermitted, BadBook}
use Rattle.actions.specs.Actions.{action_fits, is_permitted}
use Rattle.actions.specs.declared.Action.{Action}
use Rattle.actions.specs.declared.Decision.TheVariants.{Permitted}
use Rattle.gate_rules.specs.Gate.{gated, action_tests}
use Rattle.gate_rules.proofs.Laws.{permitted_out}
use Rattle.fingerprints.specs.Fingerprints.{book_tests}
use Rattle.fingerprints.proofs.Laws.{is_permitted_lem}

abbrev stands : Register → Action → Bool
stands r a = any (λ b. eqb a.actor b.id) (actors_of r.actors)

-- the tests spelled out
abbrev spelled : Bool → Bool → Bool → Bool → Bool → Test → List Test
spelled s b f k p own =
    record { passed = s; refusal = Unsound }
    ∷ record { passed = b; refusal = BadBook }
    ∷ record { passed = f; refusal = Range }
    ∷ record { passed = k; refusal = Absent }
    ∷ record { passed = p; refusal = NotPermitted }
    ∷ own
    ∷ []

book_tests_lem : (fits : Bool) (r : Register) (a : Action) (own : Test)
    → book_tests fits r a ++ (own ∷ []) ≡ spelled (sound r) fits (action_fits a) (stands r a) (is_permitted (gated r a).decision) own
unfolding book_tests action_tests
book_tests_lem fits r a own = refl

abbrev tests_with : Bool → Register → Action → Test → List Test
tests_with fits r a own = book_tests fits r a ++ (own ∷ [])

-- where the gate permits and the book fits, the call's own test decides
pub own_decides : (fits : Bool) (r : Register) (a : Action) (own : Test) → (gated r a).decision ≡ Permitted → fits ≡ true
    → outcome_of (tests_with fits r a own) ≡ outcome_of (own ∷ [])
unfolding outcome_of
own_decides fits r a own permitted fitting =
    let told = (permitted_out r a permitted).passed in
    ap outcome_of (book_tests_lem fits r a own) ∙ rw (told.soundly, fitting, told.fits, told.known, ap is_permitted permitted)

-- what is accepted has passed all: the register is sound, the book fits, the gate permits, and the call's own test is passed
pub record Passing (fits : Bool) (r : Register) (a : Action) (own : Test) : Type 0 where
  pub soundly : sound r ≡ true
  pub fitting : fits ≡ true
  pub permitted : (gated r a).decision ≡ Permitted
  pub owned : own.passed ≡ true

pub accepted_all : (fits : Bool) (r : Register) (a : Action) (own : Test) → outcome_of (tests_with fits r a own) ≡ Ok tt → Passing fits r a own
accepted_all fits r a own h =
    let told = accepted_out (spelled (sound r) fits (action_fits a) (stands r a) (is_permitted (gated r a).decision) own)
    (sym (ap outcome_of (book_tests_lem fits r a own)) ∙ h) in
    record {
      soundly = told.0;
      fitting = told.1.0;
      permitted = is_permitted_lem (gated r a).decision told.1.1.1.1.0;
      owned = told.1.1.1.1.1.0;
    }

-- the refusal of what the gate does not permit: it asks nothing of the book
abbrev pub stop_for : Register → Action → Refusal
stop_for r a = cond (sound r) (cond (action_fits a) (cond (stands r a) NotPermitted Absent) Range) Unsound

-- it is 1, 2, 3 or 27
pub stop_number_lem : (r : Register) (a : Action) → any (eqb (number_of (stop_for r a))) (1 ∷ 2 ∷ 3 ∷ 27 ∷ []) ≡ true
stop_number_lem r a = numbers (sound r) (action_fits a) (stands r a)
  where
    numbers : (s f k : Bool) → any (eqb (number_of (cond s (cond f (cond k NotPermitted Absent) Range) Unsound))) (1 ∷ 2 ∷ 3 ∷ 27 ∷ []) ≡ true
    numbers false f k = refl
    numbers true false k = refl
    numbers true true false = refl
    numbers true true true = refl

-- where the gate does not permit and the book fits, both calls are refused with that
pub stopped_alike : (fits : Bool) (r : Register) (a : Action) (own : Test) → ((gated r a).decision ≡ Permitted → ⊥) → fits ≡ true
    → outcome_of (tests_with fits r a own) ≡ Err (stop_for r a)
unfolding outcome_of
stopped_alike fits r a own never fitting =
    let no : is_permitted (gated r a).decision ≡ false =
    cases (is_permitted (gated r a).decision) (λ e. absurd (never (is_permitted_lem (gated r a).decision e))) (λ e. e) in
    ap outcome_of (book_tests_lem fits r a own) ∙ rw (fitting, no) (same (sound r) (action_fits a) (stands r a))
  where
    same : (s f k : Bool) → outcome_of (spelled s true f k false own) ≡ Err (cond s (cond f (cond k NotPermitted Absent) Range) Unsound)
    same false f k = refl
    same true false k = refl
    same true true false = refl
    same true true true = refl

-- a register that is not sound is refused first; then a book that does not fit
pub unsound_refused : (fits : Bool) (r : Register) (a : Action) (own : Test) → sound r ≡ false → outcome_of (tests_with fits r a own) ≡ Err Unsound
unfolding outcome_of
unsound_refused fits r a own e = ap outcome_of (book_tests_lem fits r a own) ∙ rw e

pub misfit_refused : (fits : Bool) (r : Register) (a : Action) (own : Test) → sound r ≡ true → fits ≡ false
    → outcome_of (tests_with fits r a own) ≡ Err BadBook
unfolding outcome_of
misfit_refused fits r a own s e = ap outcome_of (book_tests_lem fits r a own) ∙ rw (s, e)

-- where the book fits, 30 is told by the call's own test at most
abbrev number_in : Result Unit Refusal → ℕ
number_in (Ok _) = 0
number_in (Err why) = number_of why

pub fits_no_thirty : (fits : Bool) (r : Register) (a : Action) (own : Test) → fits ≡ true → (number_of own.refusal ≡ 30 → ⊥)
    → outcome_of (tests_with fits r a own) ≡ Err BadBook → ⊥
unfolding outcome_of
fits_no_thirty fits r a own fitting other h =
    told (sound r) (action_fits a) (stands r a) (is_permitted (gated r a).decision) own.passed own.refusal other
    (sym (ap (λ l. number_in (outcome_of l))
    (book_tests_lem fits r a own ∙ ap (λ t. spelled (sound r) t (action_fits a) (stands r a) (is_permitted (gated r a).decision) own) fitting))
    ∙ ap number_in h)
  where
    told : (s f k p q : Bool) (w : Refusal) → (number_of w ≡ 30 → ⊥)
        → number_in (outcome_of (spelled s true f k p (record { passed = q; refusal = w }))) ≡ 30 → ⊥
    told false f k p q w n e = omega (arith, e)
    told true false k p q w n e = omega (arith, e)
    told true true false p q w n e = omega (arith, e)
    told true true true false q w n e = omega (arith, e)
    told true true true true false w n e = n e
    told true true true true true w n e = omega (arith, e)
