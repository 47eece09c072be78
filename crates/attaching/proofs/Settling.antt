-- What the tests that both calls begin with come to, by the gate's decision. Assumes nothing.
use Rattle.std.proofs.Common.{Result, Err, Ok, ◌≡◌, refl, ap, sym, ◌∙◌, Bool, true, false, [], ◌∷◌, ◌++◌}
use Rattle.refusals.specs.declared.Refusal.{Refusal}
use Rattle.lists.specs.Each.{list_cases}
use Rattle.register.specs.declared.Register.{Register}
use Rattle.soundness_rules.specs.Sound.{sound}
use Rattle.refusals.specs.Refusals.{Test, outcome_of}
use Rattle.refusals.proofs.Laws.{outcome_cases, outcome_pass, outcome_fail, outcome_nil, outcome_first, outcome_append, outcome_append_refused}
use Rattle.refusals.specs.declared.Refusal.TheVariants.{Unsound, NotPermitted, BadBook}
use Rattle.actions.specs.Actions.{is_permitted}
use Rattle.actions.specs.declared.Action.{Action}
use Rattle.actions.specs.declared.Verdict.{Verdict}
use Rattle.actions.specs.declared.Decision.{Decision}
use Rattle.actions.specs.declared.Decision.TheVariants.{Permitted, Refused as Denied, Stopped}
use Rattle.gate_rules.specs.Gate.{gated, violations_of, action_tests, gate_tests, decided}
use Rattle.gate_rules.proofs.Laws.{gated_stopped, gated_judged}
use Rattle.fingerprints.specs.Fingerprints.{book_tests}

-- the outcome by the decision
abbrev pub outcome_by : Decision → Result Unit Refusal
outcome_by Permitted = Ok tt
outcome_by Denied = Err NotPermitted
outcome_by (Stopped why) = Err why

module _ (fits : Bool) (r : Register) (a : Action) where
  abbrev soundness : Test
  soundness = record { passed = sound r; refusal = Unsound }

  abbrev fitting : Test
  fitting = record { passed = fits; refusal = BadBook }

  abbrev permission : Test
  permission = record { passed = is_permitted (gated r a).decision; refusal = NotPermitted }

  spelled_out : book_tests fits r a ≡ soundness ∷ fitting ∷ (action_tests r a ++ (permission ∷ []))
  unfolding book_tests
  spelled_out = refl

  gate_spelled : gate_tests r a ≡ soundness ∷ action_tests r a
  unfolding gate_tests
  gate_spelled = refl

  pub settled_unsound : sound r ≡ false → outcome_of (book_tests fits r a) ≡ Err Unsound
  settled_unsound failed = ap outcome_of spelled_out ∙ outcome_fail soundness (fitting ∷ (action_tests r a ++ (permission ∷ []))) failed

  module _ (soundly : sound r ≡ true) where
    pub settled_misfit : fits ≡ false → outcome_of (book_tests fits r a) ≡ Err BadBook
    settled_misfit failed =
        ap outcome_of spelled_out
        ∙ outcome_pass soundness (fitting ∷ (action_tests r a ++ (permission ∷ []))) soundly
        ∙ outcome_fail fitting (action_tests r a ++ (permission ∷ [])) failed

    module _ (fit : fits ≡ true) where
      behind : outcome_of (book_tests fits r a) ≡ outcome_of (action_tests r a ++ (permission ∷ []))
      behind =
          ap outcome_of spelled_out
          ∙ outcome_pass soundness (fitting ∷ (action_tests r a ++ (permission ∷ []))) soundly
          ∙ outcome_pass fitting (action_tests r a ++ (permission ∷ [])) fit

      action_outcome : outcome_of (gate_tests r a) ≡ outcome_of (action_tests r a)
      action_outcome = ap outcome_of gate_spelled ∙ outcome_pass soundness (action_tests r a) soundly

      -- the permission alone, where the gate judges
      permission_told : (gated r a).decision ≡ decided (violations_of r a) → outcome_of (permission ∷ []) ≡ outcome_by (gated r a).decision
      permission_told told =
          list_cases (violations_of r a)
          (λ none. let same : (gated r a).decision ≡ Permitted = told ∙ ap decided none in
          outcome_pass permission [] (ap is_permitted same) ∙ outcome_nil ∙ sym (ap outcome_by same))
          (λ v vs some. let same : (gated r a).decision ≡ Denied = told ∙ ap decided some in
          outcome_fail permission [] (ap is_permitted same) ∙ sym (ap outcome_by same))

      -- the gate's decision tells the outcome
      pub settled_told : outcome_of (book_tests fits r a) ≡ outcome_by (gated r a).decision
      settled_told =
          outcome_cases (outcome_of (gate_tests r a))
          (λ accepted. behind
          ∙ outcome_append (action_tests r a) (permission ∷ []) (sym action_outcome ∙ accepted)
          ∙ permission_told (ap (λ v. v.decision) (gated_judged r a accepted)))
          (λ why refused. behind
          ∙ outcome_append_refused (action_tests r a) (permission ∷ []) why (sym action_outcome ∙ refused)
          ∙ sym (ap (λ v. outcome_by v.decision) (gated_stopped r a why refused)))

      -- by a verdict that is the gate's
      pub settled_by : {v : Verdict} {d : Decision} → v ≡ gated r a → v.decision ≡ d → outcome_of (book_tests fits r a) ≡ outcome_by d
      settled_by told judged = settled_told ∙ ap (λ (v : Verdict). outcome_by v.decision) (sym told) ∙ ap outcome_by judged

-- where they are passed, the book fits
pub begun_fits : (fits : Bool) (r : Register) (a : Action) → outcome_of (book_tests fits r a) ≡ Ok tt → fits ≡ true
begun_fits fits r a h =
    (outcome_first (fitting fits r a) (action_tests r a ++ (permission fits r a ∷ []))
    (outcome_first (soundness fits r a) (fitting fits r a ∷ (action_tests r a ++ (permission fits r a ∷ []))) (sym (ap outcome_of (spelled_out fits r a)) ∙ h)).1
    ).0
