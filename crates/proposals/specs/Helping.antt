-- Laws: A grant that has the one-use action permitted where it was not covers the use by the new claim itself; and a new claim that covers the use is all
-- that it takes, where another did. Assumes nothing.
use Rattle.std.specs.Prelude.{◌≡◌, refl, true, false, ℕ}
use Rattle.std.proofs.Common.{sym, ◌∙◌, eqb-true}
use Rattle.std.proofs.Math.Bool.{or-false}
use Rattle.lists.specs.Tests.{cases, clash, or_second}
use Rattle.register.specs.Register.{Shaped}
use Rattle.register.specs.declared.Claim.{Claim}
use Rattle.register.specs.declared.Register.{Register}
use Rattle.change_rules.specs.Changes.{appended}
use Rattle.actions.specs.declared.Usage.{Usage}
use Rattle.gate_rules.specs.Gate.{covering, covers}
use Rattle.gate_rules.proofs.Coverage.{covering_out}
use Rattle.actions.specs.Actions.{one_use}
use Rattle.proposals.specs.Proposals.{permits}
use Rattle.change_rules.proofs.Grants.{GrantPassed, appended_sound}
use Rattle.proposals.specs.Appending.{appended_covers, covers_kept}
use Rattle.proposals.specs.Permitting.{permits_out, permits_in, lacks_carried, ownerless_carried}

module _ (r : Register) (c : Claim) (x : ℕ) (u : Usage) (moment : ℕ) (shaped : Shaped r) (h : GrantPassed r c moment) (held : c.holder ≡ x) where
  -- where the new claim does not cover the use, nobody covers it who did not
  none_helped : covering (appended r c) moment x u c ≡ false → (y : ℕ) → covers (appended r c) moment y u ≡ true → covers r moment y u ≡ true
  none_helped none y e =
      cases (covering (appended r c) moment y u c)
      (λ k. let same : x ≡ y = sym held ∙ eqb-true c.holder y (covering_out (appended r c) moment y u c k).held in
      clash (covering (appended r c) moment y u c) k (rw (← same) none))
      (λ k. sym (appended_covers r c moment shaped h moment y u ∙ rw k (or-false (covers r moment y u))) ∙ e)

  -- so a grant that helps covers the use itself
  pub helped_covering : permits r (one_use x u moment) ≡ false → permits (appended r c) (one_use x u moment) ≡ true → covering (appended r c) moment x u c ≡ true
  helped_covering before after =
      cases (covering (appended r c) moment x u c) (λ e. e)
      (λ e. let told = permits_out (appended r c) x u moment after in
      clash (permits r (one_use x u moment))
      (permits_in r x u moment record {
        passed = record { soundly = h.judged; fits = told.passed.fits; known = told.passed.known };
        owned = ownerless_carried r (appended r c) x refl ∙ told.owned;
        covered = none_helped e x told.covered;
        owner_covers = lacks_carried (appended r c) r moment x u refl (none_helped e) told.owner_covers;
      })
      before)

  -- another claim in its stead, to the same holder, that is accepted and covers the use, helps as well
  pub stead_permits : (d : Claim) → GrantPassed r d moment → covering (appended r d) moment x u d ≡ true → permits (appended r c) (one_use x u moment) ≡ true
      → permits (appended r d) (one_use x u moment) ≡ true
  stead_permits d k covers-d after =
      let told = permits_out (appended r c) x u moment after in
      let own : covers (appended r d) moment x u ≡ true =
      appended_covers r d moment shaped k moment x u ∙ or_second (covers r moment x u) (covering (appended r d) moment x u d) covers-d in
      permits_in (appended r d) x u moment record {
        passed = record { soundly = appended_sound r d moment k; fits = told.passed.fits; known = told.passed.known };
        owned = ownerless_carried (appended r d) (appended r c) x refl ∙ told.owned;
        covered = own;
        owner_covers = lacks_carried (appended r c) (appended r d) moment x u refl
            (λ y e. cases (covering (appended r c) moment y u c)
            (λ holds. let same : x ≡ y = sym held ∙ eqb-true c.holder y (covering_out (appended r c) moment y u c holds).held in rw (← same) own)
            (λ none. covers_kept r d moment shaped k moment y u (sym (appended_covers r c moment shaped h moment y u ∙ rw none (or-false (covers r moment y u))) ∙ e)))
            told.owner_covers;
      }
