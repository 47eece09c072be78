-- Laws: When a claim is live, in plain words: what each claim on its chain has. Assumes nothing.
use Rattle.std.specs.Prelude.{◌≡◌, true, not, List, ℕ, eqb, leb, ltb}
use Rattle.std.proofs.Common.{sym, ◌∙◌, inl, inr, ⊎_elim, eqb-true, eq-eqb, ne_eqb, ltb-true, lt-ltb, le-ltb, leb-true, leb-false}
use Rattle.std.proofs.lemmas.Bool.{eqb-false}
use Rattle.lists.specs.Tests.{cases, and_left, and_right, and_both}
use Rattle.lists.specs.Lists.{All}
use Rattle.lists.specs.Each.{all_imp, every_all, all_every}
use Rattle.register.specs.Chain.{chain_of, expired, current, live, Lasting}
use Rattle.register.specs.declared.Claim.{Claim}

-- an expiry is above a moment where it is not at or before it
pub above_unpast : (moment expiry : ℕ) → not (leb expiry moment) ≡ ltb moment expiry
above_unpast moment expiry =
    cases (leb expiry moment) (λ e. rw (e, le-ltb moment expiry (leb-true expiry moment e)))
    (λ e. rw (e, lt-ltb moment expiry (leb-false expiry moment e)))

module _ (moment : ℕ) (c : Claim) where
  -- one that expires at all has not expired where its expiry is above the moment
  expiring : (c.expiry ≡ 0 → ⊥) → not (expired moment c) ≡ ltb moment c.expiry
  expiring h = rw (ne_eqb c.expiry 0 h) (above_unpast moment c.expiry)

  never : c.expiry ≡ 0 → not (expired moment c) ≡ true
  never h = rw (eq-eqb c.expiry 0 h)

  pub current_lasting : current moment c ≡ true → Lasting moment c
  current_lasting h =
      let fresh : not (expired moment c) ≡ true = and_right (ltb 0 c.weight) (not (expired moment c)) h in
      record {
        weighs = ltb-true 0 c.weight (and_left (ltb 0 c.weight) (not (expired moment c)) h);
        lasts = cases (eqb c.expiry 0) (λ e. inl (eqb-true c.expiry 0 e))
            (λ e. inr (ltb-true moment c.expiry (sym (expiring (eqb-false c.expiry 0 e)) ∙ fresh)));
      }

  pub lasting_current : Lasting moment c → current moment c ≡ true
  lasting_current h =
      and_both (ltb 0 c.weight) (not (expired moment c)) (lt-ltb 0 c.weight h.weighs)
      (⊎_elim (λ e. never e)
      (λ later. cases (eqb c.expiry 0) (λ e. never (eqb-true c.expiry 0 e))
      (λ e. expiring (eqb-false c.expiry 0 e) ∙ lt-ltb moment c.expiry later))
      h.lasts)

-- a claim is live exactly where each claim on its chain has weight above 0, and expiry 0 or above the moment
module _ (moment : ℕ) (earlier : List Claim) (c : Claim) where
  pub live_lasting : live moment earlier c ≡ true → All (λ d. Lasting moment d) (chain_of earlier c)
  live_lasting h =
      all_imp (λ d. current moment d ≡ true) (λ d. Lasting moment d) (current_lasting moment) (chain_of earlier c) (every_all (current moment) (chain_of earlier c) h)

  pub lasting_live : All (λ d. Lasting moment d) (chain_of earlier c) → live moment earlier c ≡ true
  lasting_live h =
      all_every (current moment) (chain_of earlier c)
      (all_imp (λ d. Lasting moment d) (λ d. current moment d ≡ true) (lasting_current moment) (chain_of earlier c) h)
