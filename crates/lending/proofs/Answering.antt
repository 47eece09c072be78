-- What the gate and the plan answer by what was filled from lent bytes is what they answer of the register that the bytes hold. Assumes nothing.
use Rattle.std.proofs.Common.{Result, Err, Ok, ◌≡◌, refl, sym, ap, ◌∙◌, true, false, List, [], ℕ, ◌≤◌, ◌<◌, length, replicate}
use Rattle.register.specs.Register.{Shaped}
use Rattle.register_bytes.specs.Bytes.{register_size, register_at, register_in}
use Rattle.register_bytes.specs.Laws.{register_in_lem, register_shaped}
use Rattle.soundness.specs.Opened.{Opened}
use Rattle.soundness.specs.declared.Findings.{Findings}
use Rattle.refusals.specs.Refusals.{outcome_of}
use Rattle.refusals.specs.declared.Refusal.{Refusal}
use Rattle.refusals.specs.declared.Refusal.TheVariants.{Unsound, Range}
use Rattle.actions.specs.Actions.{action_limit}
use Rattle.actions.specs.declared.Action.{Action}
use Rattle.actions.specs.declared.Plan.{Plan}
use Rattle.actions.specs.declared.Verdict.{Verdict}
use Rattle.actions.specs.declared.PlanVerdict.{PlanVerdict}
use Rattle.actions.specs.declared.Decision.TheVariants.{Stopped}
use Rattle.gate_rules.specs.Gate.{listed, padded, gated}
use Rattle.gate_rules.specs.Plans.{actions_of, halt_of, stopped, held as heldList, planned}
use Rattle.coverage.specs.Laid.{bytes_limit, laid_in, lens_of}
use Rattle.coverage.specs.LaidLaws.{laid_zeros}
use Rattle.uses.specs.declared.UsesJudged.{UsesJudged}
use Rattle.gate.specs.Judged.{counts_of, sheet_ends, lent_of, lent_by, lent_in, lent_tests, lent_judged, verdict_told}
use Rattle.gate.specs.Sheets.{sheeted}
use Rattle.gate.specs.Laws.{found_sound, lent_told}
use Rattle.gate.specs.Assembling.{gate_unsound, verdict_stopped, verdict_judged, gated_told}
use Rattle.gate.specs.declared.Counts.{Counts}
use Rattle.plans.specs.Stops.{stop_of, halt_by}
use Rattle.plans.specs.StopsLaws.{told_runs}
use Rattle.plans.specs.Stopping.{stop_unsound, stop_many, stop_found, found_halts}
use Rattle.plans.specs.Judgements.{judgements_by}
use Rattle.plans.specs.Judging.{planned_lent, planned_sheeted}
use Rattle.plans.specs.declared.Stop.{Stop}
use Rattle.lending.proofs.Opening.{held_sound, other_unsound}

abbrev stopping : Refusal → Verdict
stopping why = record { decision = Stopped why; violations = listed []; hops = padded [] }

-- bytes of another length
module _ (bytes : List ℕ) (other : length bytes ≡ register_size → ⊥) where
  pub other_gated : (a : Action) {v : Verdict} → v ≡ stopping Unsound → v ≡ gated (register_in bytes) a
  other_gated a e = e ∙ gate_unsound (register_in bytes) a (other_unsound bytes other)

  pub other_planned : (p : Plan) {v : PlanVerdict} → v ≡ stopped Unsound 0 → v ≡ planned (register_in bytes) p
  other_planned p e = e ∙ stop_unsound (register_in bytes) p (other_unsound bytes other)

-- bytes of a register's length, of which this was found
module _ (bytes : List ℕ) (long : length bytes ≡ register_size) {s : List ℕ} {found : Findings} (opened : Opened (register_at bytes) s found) where
  shaped : Shaped (register_at bytes)
  shaped = register_shaped bytes long

  module _ (h : found.sound ≡ false) where
    pub unsound_gated : (a : Action) {v : Verdict} → v ≡ stopping Unsound → v ≡ gated (register_in bytes) a
    unsound_gated a e = e ∙ gate_unsound (register_in bytes) a (sym (held_sound bytes long opened) ∙ h)

    pub unsound_planned : (p : Plan) {v : PlanVerdict} → v ≡ stopped Unsound 0 → v ≡ planned (register_in bytes) p
    unsound_planned p e = e ∙ stop_unsound (register_in bytes) p (sym (held_sound bytes long opened) ∙ h)

  module _ (h : found.sound ≡ true) where
    pub many_planned : (p : Plan) → action_limit < p.count → {v : PlanVerdict} → v ≡ stopped Range 0 → v ≡ planned (register_in bytes) p
    many_planned p many e = e ∙ stop_many (register_in bytes) p (sym (held_sound bytes long opened) ∙ h) many

    module _ {counts : Counts} (of-counts : counts ≡ counts_of (register_at bytes)) where
      tests_held : (a : Action) {outcome : Result Unit Refusal} → outcome ≡ outcome_of (lent_tests found.actors.names counts.actors a)
          → outcome_of (lent_tests found.actors.names (register_at bytes).actors.count a) ≡ outcome
      tests_held a e = sym (e ∙ ap (λ k. outcome_of (lent_tests found.actors.names k.actors a)) of-counts)

      pub stopped_gated : (a : Action) {outcome : Result Unit Refusal} (why : Refusal) → outcome ≡ outcome_of (lent_tests found.actors.names counts.actors a) → outcome ≡ Err why
          → {v : Verdict} → v ≡ stopping why → v ≡ gated (register_in bytes) a
      stopped_gated a why asked is e =
          e
          ∙ verdict_stopped (register_at bytes) s found a h why (tests_held a asked ∙ is)
          ∙ gated_told (register_at bytes) s found a shaped.claims (λ t. shaped) opened.put opened.told
          ∙ sym (ap (λ r. gated r a) (register_in_lem bytes long))

      module _ {lens ends paths : List ℕ} (of-paths : paths ≡ laid_in (replicate bytes_limit 0) (register_at bytes).resources) (of-lens : lens ≡ lens_of (register_at bytes).resources)
          (of-ends : ends ≡ sheet_ends s found.ups counts.claims) where
        lent_held : lent_of counts found lens ends s paths ≡ lent_in (register_at bytes)
        lent_held =
            let lay = laid_zeros (register_at bytes).resources of-paths of-lens in
            ap (λ k. lent_of k found lens ends s paths) of-counts
            ∙ lent_told (register_at bytes) shaped.claims opened.put opened.told lay.1 (of-ends ∙ ap (λ k. sheet_ends s found.ups k.claims) of-counts) lay.0

        pub judged_gated : (a : Action) {outcome : Result Unit Refusal} → outcome ≡ outcome_of (lent_tests found.actors.names counts.actors a) → outcome ≡ Ok tt → {judged : UsesJudged}
            → judged ≡ lent_judged (lent_of counts found lens ends s paths) a → {v : Verdict} → v ≡ verdict_told (Ok tt) judged → v ≡ gated (register_in bytes) a
        judged_gated a asked is {judged = judged} of-judged e =
            let by : lent_by (register_at bytes) s found ≡ lent_in (register_at bytes) = lent_told (register_at bytes) shaped.claims opened.put opened.told refl refl refl in
            e
            ∙ verdict_judged (register_at bytes) s found a h (tests_held a asked ∙ is) (of-judged ∙ ap (λ l. lent_judged l a) (lent_held ∙ sym by))
            ∙ gated_told (register_at bytes) s found a shaped.claims (λ t. shaped) opened.put opened.told
            ∙ sym (ap (λ r. gated r a) (register_in_lem bytes long))

        module _ (p : Plan) (few : p.count ≤ action_limit) {stop : Stop} (of-stop : stop ≡ stop_of (halt_by found.actors.names counts.actors 0 (actions_of p))) where
          stop_held : stop ≡ stop_of (halt_of (sheeted (register_at bytes)) p)
          stop_held =
              stop_found (register_at bytes) p (sym (found_sound (register_at bytes) shaped.claims opened.put opened.told) ∙ h) few lent_held of-stop

          pub stopped_planned : (why : Refusal) → stop.outcome ≡ Err why → {v : PlanVerdict} → v ≡ stopped why stop.position → v ≡ planned (register_in bytes) p
          stopped_planned why is e =
              e ∙ found_halts (sheeted (register_at bytes)) p stop_held why is ∙ planned_sheeted (register_at bytes) shaped.claims p ∙ sym (ap (λ r. planned r p) (register_in_lem bytes long))

          pub judged_planned : stop.outcome ≡ Ok tt → {v : PlanVerdict}
              → v ≡ heldList (judgements_by (lent_of counts found lens ends s paths) false (actions_of p)) → v ≡ planned (register_in bytes) p
          judged_planned is e =
              planned_lent (register_at bytes) p shaped (told_runs (halt_of (sheeted (register_at bytes)) p) stop_held is) lent_held e
              ∙ planned_sheeted (register_at bytes) shaped.claims p
              ∙ sym (ap (λ r. planned r p) (register_in_lem bytes long))
