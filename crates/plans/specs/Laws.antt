-- Laws: What stops a plan, and the verdicts on its actions, by what is lent of a register: those of the register. Assumes nothing.
use Rattle.std.specs.Prelude.{◌≡◌, Bool, true, not, ◌||◌, cond, List, [], ◌∷◌, ℕ, suc, eqb, length, Err, Ok}
use Rattle.std.proofs.Math.Path.{refl}
use Rattle.std.proofs.Common.{sym, ap, ◌∙◌}
use Rattle.lists.specs.Lists.{All}
use Rattle.register.specs.Register.{Shaped}
use Rattle.register.specs.declared.Register.{Register}
use Rattle.soundness_rules.specs.Sound.{sound}
use Rattle.refusals.specs.Refusals.{outcome_of}
use Rattle.refusals.specs.declared.Refusal.{Refusal}
use Rattle.actions.specs.declared.Action.{Action}
use Rattle.actions.specs.declared.Violation.{Violation}
use Rattle.actions.specs.declared.Judgement.TheVariants.{Cancelled}
use Rattle.gate_rules.specs.Gate.{violations_of}
use Rattle.gate_rules.specs.Fitting.{Fit}
use Rattle.gate_rules.specs.Plans.{judged, judgements, runs, halts, first_halt}
use Rattle.gate_rules.proofs.Cancelling.{judgements_nil, judgements_cons}
use Rattle.gate.specs.Judged.{Lent, lent_in, lent_tests, lent_judged}
use Rattle.gate.specs.Sheets.{sheeted, sheeted_shaped}
use Rattle.gate.specs.Laws.{tests_natural, lent_natural, judged_natural}
use Rattle.plans.specs.Stops.{halt_by}
use Rattle.plans.specs.Judgements.{judged_as, judgements_by}

-- ---- what stops a plan
module _ (names : List ℕ) (n i : ℕ) where
  pub halt_by_nil : halt_by names n i [] ≡ runs
  unfolding halt_by
  halt_by_nil = refl

  pub halt_by_pass : (a : Action) (actions : List Action) → outcome_of (lent_tests names n a) ≡ Ok tt
      → halt_by names n i (a ∷ actions) ≡ halt_by names n (suc i) actions
  unfolding halt_by
  halt_by_pass a actions e = rw e

  pub halt_by_fail : (a : Action) (actions : List Action) (why : Refusal) → outcome_of (lent_tests names n a) ≡ Err why
      → halt_by names n i (a ∷ actions) ≡ halts why i
  unfolding halt_by
  halt_by_fail a actions why e = rw e

pub halt_natural : (r : Register) (i : ℕ) (actions : List Action) → halt_by (lent_in r).names (lent_in r).actors i actions ≡ first_halt (sheeted r) i actions
unfolding halt_by first_halt
halt_natural r i [] = refl
halt_natural r i (a ∷ actions) = rw (tests_natural r a, halt_natural r (suc i) actions)

-- ---- the verdicts
module _ (l : Lent) (cancelled : Bool) where
  pub judgements_by_nil : judgements_by l cancelled [] ≡ []
  unfolding judgements_by
  judgements_by_nil = refl

  pub judgements_by_cons : (a : Action) (actions : List Action)
      → judgements_by l cancelled (a ∷ actions)
      ≡ cond cancelled Cancelled (judged_as (lent_judged l a).violations.count) ∷ judgements_by l (cancelled || not (eqb a.flags 0)) actions
  unfolding judgements_by
  judgements_by_cons a actions = refl

-- permitted means an empty list
pub judged_counted : (vs : List Violation) → judged_as (length vs) ≡ judged vs
judged_counted [] = refl
judged_counted (v ∷ vs) = refl

module _ (r : Register) (shaped : Shaped r) (h : sound (sheeted r) ≡ true) where
  -- the verdict on an action in range
  verdict_natural : (a : Action) → Fit (sheeted r) a → judged_as (lent_judged (lent_in r) a).violations.count ≡ judged (violations_of (sheeted r) a)
  verdict_natural a fit =
      ap (λ y. judged_as y.violations.count)
      (lent_natural r shaped h a fit.fits ∙ judged_natural (sheeted r) (sheeted_shaped r shaped) h a fit.fits) ∙ judged_counted (violations_of (sheeted r) a)

  -- the verdicts on actions in range
  pub judgements_natural : (cancelled : Bool) (actions : List Action) → All (λ a. Fit (sheeted r) a) actions
      → judgements_by (lent_in r) cancelled actions ≡ judgements (sheeted r) cancelled actions
  judgements_natural cancelled [] fit = judgements_by_nil (lent_in r) cancelled ∙ sym (judgements_nil (sheeted r) cancelled)
  judgements_natural cancelled (a ∷ actions) fit =
      judgements_by_cons (lent_in r) cancelled a actions
      ∙ rw (verdict_natural a fit.0, judgements_natural (cancelled || not (eqb a.flags 0)) actions fit.1)
      (sym (judgements_cons (sheeted r) cancelled a actions))
