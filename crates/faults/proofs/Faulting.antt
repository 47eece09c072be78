-- Laws: The first broken record of a list: where none is, and what it is told of. Assumes nothing.
use Rattle.std.proofs.Common.{◌≡◌, true, false, ℕ, suc, ◌+◌, length, Err, Ok, ap, sym, ◌∙◌, add-zero, arith, List, [], ◌∷◌, ◌++◌, append_assoc}
use Rattle.std.proofs.Math.Path.{refl}
use mathlib.Core.List.{reverse-cons}
use Rattle.lists.specs.Tests.{cases, clash}
use Rattle.lists.specs.Lists.{every, All}
use Rattle.lists.specs.Each.{every_all, all_every}
use Rattle.register.specs.Chain.{latest}
use Rattle.refusals.specs.Refusals.{Test, outcome_of}
use Rattle.refusals.proofs.Laws.{outcome_cases, outcome_clash, outcome_nil, outcome_pass, outcome_fail, accepted_in, accepted_out}
use Rattle.refusals.specs.declared.Refusal.{Refusal}
use Rattle.faults.specs.Faults.{Broken, broken_in, each_passes}

-- acceptance is that every test is passed
pub accepted_every : (tests : List Test) → outcome_of tests ≡ Ok tt → every (λ t. t.passed) tests ≡ true
accepted_every tests h = all_every (λ t. t.passed) tests (accepted_out tests h)

pub every_accepted : (tests : List Test) → every (λ t. t.passed) tests ≡ true → outcome_of tests ≡ Ok tt
every_accepted tests h = accepted_in tests (every_all (λ t. t.passed) tests h)

-- a property of each test that is not passed is one of what is told
pub refused_of : (Q : Refusal → Type 0) (tests : List Test) → All (λ t. t.passed ≡ false → Q t.refusal) tests → (why : Refusal) → outcome_of tests ≡ Err why → Q why
refused_of Q [] h why e = outcome_clash (sym e ∙ outcome_nil)
refused_of Q (t ∷ tests) h why e =
    cases t.passed (λ k. refused_of Q tests h.1 why (sym (outcome_pass t tests k) ∙ e))
    (λ k. let same : t.refusal ≡ why = cc (sym (outcome_fail t tests k) ∙ e) in rw (← same) (h.0 k))

module _ {A : Type 0} (tests : List A → A → List Test) where
  pub in_nil : (n : ℕ) (earlier : List A) → broken_in tests n earlier [] ≡ []
  unfolding broken_in
  in_nil n earlier = refl

  pub in_pass : (n : ℕ) (earlier : List A) (c : A) (rest : List A) → outcome_of (tests earlier c) ≡ Ok tt
      → broken_in tests n earlier (c ∷ rest) ≡ broken_in tests (suc n) (c ∷ earlier) rest
  unfolding broken_in
  in_pass n earlier c rest e = rw e

  pub in_fail : (n : ℕ) (earlier : List A) (c : A) (rest : List A) (why : Refusal) → outcome_of (tests earlier c) ≡ Err why
      → broken_in tests n earlier (c ∷ rest) ≡ record { why = why; place = n; what = c } ∷ []
  unfolding broken_in
  in_fail n earlier c rest why e = rw e

  -- what is told of a broken record
  pub record BrokenFound (n : ℕ) (earlier cs : List A) (b : Broken A) : Type 0 where
    pub before : List A
    pub after : List A
    pub split : cs ≡ before ++ b.what ∷ after
    pub place : b.place ≡ n + length before
    pub passed : each_passes tests earlier before ≡ true
    pub fails : outcome_of (tests (latest before ++ earlier) b.what) ≡ Err b.why

  -- either each passes, and none is told, or the first that does not is told
  pub in_cases : {B : Type 0} (n : ℕ) (earlier cs : List A) → (broken_in tests n earlier cs ≡ [] → each_passes tests earlier cs ≡ true → B)
      → ((b : Broken A) → broken_in tests n earlier cs ≡ b ∷ [] → BrokenFound n earlier cs b → B) → B
  in_cases n earlier [] f g = f (in_nil n earlier) refl
  in_cases n earlier (c ∷ rest) f g =
      outcome_cases (outcome_of (tests earlier c))
      (λ e. let all = accepted_every (tests earlier c) e in
      in_cases (suc n) (c ∷ earlier) rest
      (λ none passes. f (in_pass n earlier c rest e ∙ none) (rw all passes))
      (λ b told found. g b (in_pass n earlier c rest e ∙ told) record {
        before = c ∷ found.before;
        after = found.after;
        split = ap (λ l. c ∷ l) found.split;
        place = omega (arith, found.place);
        passed = rw all found.passed;
        fails = rw (reverse-cons c found.before, append_assoc (latest found.before) (c ∷ []) earlier) found.fails;
      }))
      (λ why e. g record { why = why; place = n; what = c } (in_fail n earlier c rest why e) record {
        before = [];
        after = rest;
        split = refl;
        place = omega arith;
        passed = refl;
        fails = e;
      })

  pub passing_first : (earlier : List A) (c : A) (rest : List A) → each_passes tests earlier (c ∷ rest) ≡ true → every (λ t. t.passed) (tests earlier c) ≡ true
  passing_first earlier c rest h =
      cases (every (λ t. t.passed) (tests earlier c)) (λ e. e) (λ e. clash false (rw e at h) refl)

  pub passing_rest : (earlier : List A) (c : A) (rest : List A) → each_passes tests earlier (c ∷ rest) ≡ true → each_passes tests (c ∷ earlier) rest ≡ true
  passing_rest earlier c rest h = rw (passing_first earlier c rest h) at h

  -- where each passes, none is told
  pub in_none : (n : ℕ) (earlier cs : List A) → each_passes tests earlier cs ≡ true → broken_in tests n earlier cs ≡ []
  in_none n earlier [] h = in_nil n earlier
  in_none n earlier (c ∷ rest) h =
      in_pass n earlier c rest (every_accepted (tests earlier c) (passing_first earlier c rest h)) ∙ in_none (suc n) (c ∷ earlier) rest (passing_rest earlier c rest h)

  -- where those before pass and one does not, that one is told
  pub in_found : (n : ℕ) (earlier before : List A) (c : A) (after : List A) (why : Refusal) → each_passes tests earlier before ≡ true
      → outcome_of (tests (latest before ++ earlier) c) ≡ Err why
      → broken_in tests n earlier (before ++ c ∷ after) ≡ record { why = why; place = n + length before; what = c } ∷ []
  in_found n earlier [] c after why h e = rw (add-zero n) (in_fail n earlier c after why e)
  in_found n earlier (d ∷ before) c after why h e =
      let step : n + suc (length before) ≡ suc n + length before = omega arith in
      in_pass n earlier d (before ++ c ∷ after) (every_accepted (tests earlier d) (passing_first earlier d before h))
      ∙ rw step (in_found (suc n) (d ∷ earlier) before c after why (passing_rest earlier d before h)
      (rw (reverse-cons d before, append_assoc (latest before) (d ∷ []) earlier) at e))
