-- Laws: The plain gate is the gate, for one action and for a plan. Assumes nothing.
use Rattle.std.proofs.Common.{◌≡◌, refl, Bool, true, false, not, cond, ◌||◌, ℕ, suc, eqb, sym, ◌∙◌, List, [], ◌∷◌, ◌++◌, map}
use Rattle.std.proofs.Math.Path.{ap}
use Rattle.register.specs.Register.{actors_of}
use Rattle.register.specs.declared.Register.{Register}
use Rattle.soundness_rules.specs.Sound.{is_machine, sound}
use Rattle.refusals.specs.Refusals.{outcome_of}
use Rattle.refusals.proofs.Laws.{outcome_cases}
use Rattle.actions.specs.Actions.{uses_of, governs_of}
use Rattle.actions.specs.declared.Usage.{Usage}
use Rattle.actions.specs.declared.Action.{Action}
use Rattle.actions.specs.declared.Plan.{Plan}
use Rattle.actions.specs.declared.Violation.TheVariants.{NoOwner, NotCovered, OwnerNotCovering}
use Rattle.gate_rules.specs.Gate.{covers, owner_lacks, is_ownerless, flags_set, governed, use_violation, use_violations, violations_of, hops_for, hop_counts, gate_tests, listed, padded, decided, gated}
use Rattle.gate_rules.specs.Plans.{actions_of, judgements, Halt, runs, halts, halt_of, held, plan_verdict, planned}
use Rattle.gate_rules.proofs.Laws.{use_violations_nil, use_violations_cons, gate_tests_out, gated_judged, gated_stopped}
use Rattle.gate_rules.proofs.Cancelling.{halt_runs, judgements_nil, judgements_cons}
use Rattle.coverage_table.specs.Table.{cover_table, looked_up, entry_hops, tables_of, plain_use, plain_uses, plain_violations, plain_hops, plain_verdict, plainly_gated, plain_judgements, plain_plan_verdict, plainly_planned}
use Rattle.coverage_table.proofs.Uses.{lookup_answers, owner_lacks_lem}

turned : {A : Type 0} (covered : Bool) (a b : A) → cond (not covered) a b ≡ cond covered b a
turned true a b = refl
turned false a b = refl

module _ (r : Register) (h : sound r ≡ true) where
  use_same : (a : Action) (n : ℕ) (u : Usage) → plain_use (tables_of r a) n u ≡ use_violation r a.now a.actor n u
  unfolding use_violation
  use_same a n u =
      rw ((lookup_answers r h a.now a.actor u).lacks, owner_lacks_lem r h a.now a.actor u)
      (turned (covers r a.now a.actor u) (NotCovered n ∷ []) (cond (owner_lacks r a.now a.actor u) (OwnerNotCovering n ∷ []) []))

  uses_same : (a : Action) (n : ℕ) (us : List Usage) → plain_uses (tables_of r a) n us ≡ use_violations r a.now a.actor n us
  uses_same a n [] = sym (use_violations_nil r a.now a.actor n)
  uses_same a n (u ∷ us) = rw (use_same a n u, uses_same a (suc n) us) (sym (use_violations_cons r a.now a.actor n u us))

  pub plain_violations_same : (a : Action) → plain_violations r a ≡ violations_of r a
  unfolding plain_violations violations_of
  plain_violations_same a =
      ap (λ vs. flags_set a.flags
      ++ (cond (is_ownerless r a.actor) (NoOwner a.actor ∷ []) []
      ++ (cond (is_machine (actors_of r.actors) a.actor) (governed 0 (governs_of a)) [] ++ vs))) (uses_same a 0 (uses_of a))

  hops_each : (a : Action) (us : List Usage)
      → map (λ u. entry_hops (looked_up (cover_table r a.now a.actor) u)) us ≡ map (λ u. hops_for r a.now a.actor u) us
  hops_each a [] = refl
  hops_each a (u ∷ us) = rw ((lookup_answers r h a.now a.actor u).hops, hops_each a us)

  pub plain_hops_same : (a : Action) → plain_hops r a ≡ hop_counts r a
  unfolding plain_hops
  plain_hops_same a = hops_each a (uses_of a)

  pub plain_judgements_same : (cancelled : Bool) (actions : List Action) → plain_judgements r cancelled actions ≡ judgements r cancelled actions
  plain_judgements_same cancelled [] = sym (judgements_nil r cancelled)
  plain_judgements_same cancelled (a ∷ actions) =
      rw (plain_violations_same a, plain_judgements_same (cancelled || not (eqb a.flags 0)) actions) (sym (judgements_cons r cancelled a actions))

pub gate_same : (r : Register) (a : Action) → plainly_gated r a ≡ gated r a
unfolding plainly_gated
gate_same r a =
    outcome_cases (outcome_of (gate_tests r a))
    (λ e. let h = (gate_tests_out r a e).soundly in
    ap (λ o. plain_verdict o r a) e
    ∙ ap (λ vs. record { decision = decided vs; violations = listed vs; hops = padded (plain_hops r a) }) (plain_violations_same r h a)
    ∙ ap (λ hs. record { decision = decided (violations_of r a); violations = listed (violations_of r a); hops = padded hs }) (plain_hops_same r h a)
    ∙ sym (gated_judged r a e))
    (λ why e. ap (λ o. plain_verdict o r a) e ∙ sym (gated_stopped r a why e))

plan_on : (r : Register) (p : Plan) (o : Halt) → (o ≡ runs → sound r ≡ true) → plain_plan_verdict o r p ≡ plan_verdict o r p
plan_on r p runs h = ap held (plain_judgements_same r (h refl) false (actions_of p))
plan_on r p (halts why n) h = refl

pub plan_same : (r : Register) (p : Plan) → plainly_planned r p ≡ planned r p
unfolding plainly_planned planned
plan_same r p = plan_on r p (halt_of r p) (λ e. (halt_runs r p e).soundly)
