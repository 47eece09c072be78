-- Laws: The ends of a register's claims tell which are live: in a sound register, at a moment in range, a claim is live exactly before its end.
-- Assumes nothing.
use Rattle.std.specs.Prelude.{◌≡◌, true, ◌&&◌, List, map, ℕ, ◌≤◌, ◌<◌, ltb, get_or, take}
use Rattle.std.proofs.Common.{sym, ap, ◌∙◌, arith}
use Rattle.std.proofs.Math.ListN.{length, length-map, get_or-map}
use Rattle.lists.specs.Lists.{every}
use Rattle.register.specs.Limits.{claim_limit, moment_end}
use Rattle.register.specs.Register.{claims_of, no_claim, Shaped}
use Rattle.register.specs.Chain.{latest, above, current, live}
use Rattle.register.specs.declared.Register.{Register}
use Rattle.columns.specs.Columns.{claim_id, parent_of, holder_of, weight_of, expiry_of, chain_places, current_at}
use Rattle.columns.specs.Laws.{current_natural}
use Rattle.soundness_rules.specs.Sound.{sound}
use Rattle.soundness_rules.proofs.Registers.{sound_out}
use Rattle.soundness_rules.proofs.Places.{claim_numbered}
use Rattle.soundness_rules.proofs.Chains.{place_above}
use Rattle.gate_rules.specs.Places.{latest_split}
use Rattle.lookup.specs.Finding.{asked, earlier_places}
use Rattle.lookup.specs.Laws.{tabled_length}
use Rattle.coverage.specs.Gathering.{ending_of, cover_places, held_places}
use Rattle.coverage.specs.Ends.{ends_read, ends_long, end_lasts}
use Rattle.coverage.specs.GatheringLaws.{held_natural}
use Rattle.uses.specs.Sights.{ups_of, ends_in}
use Rattle.uses.specs.Relying.{claim_standing}
use Rattle.uses.specs.SightsLaws.{around, few, long, below, stands_at, sound_at}

module _ (r : Register) (shaped : Shaped r) (h : sound r ≡ true) where
  abbrev ids : List ℕ
  ids = map claim_id r.claims.list

  abbrev parents : List ℕ
  parents = map parent_of r.claims.list

  abbrev weights : List ℕ
  weights = map weight_of r.claims.list

  abbrev expiries : List ℕ
  expiries = map expiry_of r.claims.list

  -- no claim has the number 0
  own_number : (j : ℕ) → j < r.claims.count → get_or ids j 0 ≡ 0 → ⊥
  own_number j within zero =
      claim_numbered (around r shaped h) r.claims.count r.claims.list (sound_out r h).claims j within (omega (arith, within, long r shaped h))
      (sym (get_or-map claim_id r.claims.list j no_claim) ∙ zero)

  module _ (j : ℕ) (inside : j < length (claims_of r.claims)) where
    -- the chain above the claim at a place is that among the claims before it
    above_before : above (latest (claims_of r.claims)) (claim_standing r j) ≡ above (latest (take j r.claims.list)) (claim_standing r j)
    above_before =
        let at = stands_at r shaped h j inside in
        ap (λ l. above l (claim_standing r j)) (ap latest at.split ∙ latest_split at.before (claim_standing r j) at.after)
        ∙ place_above (around r shaped h) (latest at.after) (claim_standing r j) (latest (take j r.claims.list)) (sound_at r shaped h j inside)

    -- its end is found
    before_ending : j < ending_of weights expiries (ups_of r) r.claims.count
    unfolding earlier_places
    before_ending =
        let most : asked r.claims.count parents ≤ claim_limit = omega arith in
        let ups : length (ups_of r) ≡ claim_limit = tabled_length _ (asked r.claims.count parents) most in
        omega (
          arith,
          ups,
          below r shaped h j inside,
          few r shaped h,
          shaped.claims,
          length-map r.claims.list weight_of,
          length-map r.claims.list expiry_of,
        )

    -- by its columns it is current where it is
    current_here : (moment : ℕ) → current_at weights expiries moment j ≡ current moment (claim_standing r j)
    current_here moment = rw (get_or-map weight_of r.claims.list j no_claim, get_or-map expiry_of r.claims.list j no_claim)

    -- before its end a claim is live, and from it on it is not
    pub ends_natural : (moment : ℕ) → ltb moment moment_end ≡ true → ltb moment (get_or (ends_in r) j 0) ≡ live moment (latest (claims_of r.claims)) (claim_standing r j)
    ends_natural moment timely =
        ap (ltb moment) (ends_read weights expiries (ups_of r) r.claims.count j before_ending)
        ∙ end_lasts ids parents weights expiries r.claims.count (few r shaped h)
        (omega (arith, long r shaped h, length-map r.claims.list parent_of)) own_number moment timely j (below r shaped h j inside)
        ∙ ap (λ b. b && every (current_at weights expiries moment) (chain_places ids parents j (get_or parents j 0))) (current_here moment)
        ∙ ap (λ b. current moment (claim_standing r j) && b)
        (ap (λ p. every (current_at weights expiries moment) (chain_places ids parents j p)) (get_or-map parent_of r.claims.list j no_claim)
        ∙ current_natural r.claims.list moment j (claim_standing r j).parent
        ∙ ap (every (current moment)) (sym above_before))

  -- so by holders and ends the claims that can cover are gathered
  pub cover_natural : (moment : ℕ) → ltb moment moment_end ≡ true → (x : ℕ)
      → held_places (map holder_of r.claims.list) (ends_in r) r.claims.count x moment ≡ cover_places r.claims x moment
  cover_natural moment timely x =
      held_natural r.claims x moment (ends_in r) shaped.claims (ends_long weights expiries (ups_of r) r.claims.count)
      (λ j inside. ends_natural j inside moment timely)
