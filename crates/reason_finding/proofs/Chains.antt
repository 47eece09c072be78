-- The claims above the one at a place, by the places of the parents: those of its chain. Assumes nothing.
use Rattle.std.proofs.Common.{◌≡◌, sym, ap, ◌∙◌, true, map, ℕ, ◌≤◌, ◌<◌, arith, length, take, take_all}
use lib.ListN.{length-map, get_or-map}
use Rattle.register.specs.Limits.{hop_limit}
use Rattle.register.specs.Register.{claims_of, no_claim, Shaped}
use Rattle.register.specs.Chain.{latest, above}
use Rattle.register.specs.declared.Register.{Register}
use Rattle.columns.specs.Columns.{claim_id, parent_of, places_up, chain_places}
use Rattle.columns.specs.Laws.{chain_natural}
use Rattle.lookup.specs.Laws.{places_up_natural}
use Rattle.soundness_rules.specs.Sound.{sound}
use Rattle.soundness_rules.proofs.Registers.{sound_out}
use Rattle.soundness_rules.proofs.Places.{claim_numbered}
use Rattle.soundness_rules.proofs.Chains.{place_above}
use Rattle.gate_rules.specs.Places.{latest_split}
use Rattle.gate_rules.proofs.Trace.{place_hops_most}
use Rattle.gate_rules.specs.Authority.{higher_than}
use Rattle.uses.specs.Sights.{ups_of}
use Rattle.uses.specs.Relying.{claim_standing}
use Rattle.uses.specs.SightsLaws.{around, few, long, below, stands_at, sound_at}

module _ (r : Register) (shaped : Shaped r) (h : sound r ≡ true) (j : ℕ) (inside : j < length (claims_of r.claims)) where
  above_before : above (latest (claims_of r.claims)) (claim_standing r j) ≡ above (latest (take j r.claims.list)) (claim_standing r j)
  above_before =
      let at = stands_at r shaped h j inside in
      ap (λ l. above l (claim_standing r j)) (ap latest at.split ∙ latest_split at.before (claim_standing r j) at.after)
      ∙ place_above (around r shaped h) (latest at.after) (claim_standing r j) (latest (take j r.claims.list)) (sound_at r shaped h j inside)

  places_read : map (claim_standing r) (places_up (ups_of r) j) ≡ higher_than r (claim_standing r j)
  places_read =
      ap (map (claim_standing r)) (places_up_natural (map claim_id r.claims.list) (map parent_of r.claims.list) r.claims.count (few r shaped h)
      (omega (arith, long r shaped h, length-map r.claims.list parent_of))
      (λ i before zero. claim_numbered (around r shaped h) r.claims.count r.claims.list (sound_out r h).claims i before
      (omega (arith, before, long r shaped h)) (sym (get_or-map claim_id r.claims.list i no_claim) ∙ zero))
      j (below r shaped h j inside))
      ∙ ap (λ p. map (claim_standing r) (chain_places (map claim_id r.claims.list) (map parent_of r.claims.list) j p)) (get_or-map parent_of r.claims.list j no_claim)
      ∙ chain_natural r.claims.list j (claim_standing r j).parent
      ∙ sym above_before

  -- they are at most 16
  pub higher_natural : map (claim_standing r) (take hop_limit (places_up (ups_of r) j)) ≡ higher_than r (claim_standing r j)
  higher_natural =
      let most : length (places_up (ups_of r) j) ≤ hop_limit =
      omega (
        arith,
        sym (length-map (places_up (ups_of r) j) (claim_standing r)) ∙ ap length places_read,
        place_hops_most r h (claim_standing r j) (stands_at r shaped h j inside),
      ) in
      ap (map (claim_standing r)) (take_all hop_limit (places_up (ups_of r) j) most) ∙ places_read
