-- Laws: Chains in a sound list of claims, latest first: they reach a root, and may be looked up among all claims as among the earlier ones. Assumes
-- nothing.
use Rattle.std.specs.Prelude.{◌≡◌, refl, true, List, [], ◌∷◌, ◌++◌, ℕ, suc, eqb, length}
use Rattle.std.proofs.Common.{ap, sym, ◌∙◌, eqb-true}
use Rattle.std.proofs.lemmas.Bool.{eqb-false}
use Rattle.lists.specs.Tests.{cases}
use Rattle.lists.specs.Each.{list_cases, cons_clash}
use Rattle.register.specs.Chain.{chain, above, hops_of, chain_of}
use Rattle.register.specs.Laws.{chain_hit, chain_miss, chain_ind, chain_zero, chain_id, all_chain, numbered_own, numbered_id, numbered_other}
use Rattle.register.specs.declared.Claim.{Claim}
use Rattle.soundness_rules.specs.Sound.{World, sound_claims}
use Rattle.soundness_rules.proofs.Laws.{acceptable_out, claim_fits_out, drawn_stands, fresh_out}
use Rattle.soundness_rules.proofs.Places.{latest_acceptable, earlier_sound, prefix_sound, place_acceptable}
use Rattle.soundness_rules.specs.Roots.{Climbs, root_of}

climbs_root : (c : Claim) (higher : List Claim) → Climbs c.parent higher → (root_of c higher).parent ≡ 0
climbs_root c [] h = h
climbs_root c (p ∷ higher) h = climbs_root p higher h.1

-- a chain has one member more than hops
pub chain_hops : (earlier : List Claim) (c : Claim) → length (chain_of earlier c) ≡ suc (hops_of earlier c)
chain_hops earlier c = refl

module _ (w : World) where
  latest_stands : (c : Claim) (L : List Claim) → sound_claims w (c ∷ L) ≡ true → above L c ≡ [] → c.parent ≡ 0
  latest_stands c L h = drawn_stands w.version L c (acceptable_out w L c (latest_acceptable w c L h)).over_earlier.chained

  chain_climbs : (L : List Claim) (p : ℕ) → sound_claims w L ≡ true → (chain (λ d. d.id) (λ d. d.parent) L p ≡ [] → p ≡ 0)
      → Climbs p (chain (λ d. d.id) (λ d. d.parent) L p)
  chain_climbs = chain_ind (λ d. d.id) (λ d. d.parent) (λ L p H. sound_claims w L ≡ true → (H ≡ [] → p ≡ 0) → Climbs p H)
      (λ p h k. k refl)
      (λ c L p e ih h k. (numbered_id (λ d. d.id) (λ d. d.parent) p c e, ih (earlier_sound w c L h) (latest_stands c L h)))
      (λ c L p e ih h k. ih (earlier_sound w c L h) k)

  -- a number that stands among the earlier claims M, or is 0, has the same chain among all
  pub chain_earlier : (L M : List Claim) → sound_claims w (L ++ M) ≡ true → (p : ℕ) → (chain (λ d. d.id) (λ d. d.parent) M p ≡ [] → p ≡ 0)
      → chain (λ d. d.id) (λ d. d.parent) (L ++ M) p ≡ chain (λ d. d.id) (λ d. d.parent) M p
  chain_earlier [] M h p k = refl
  chain_earlier (d ∷ L) M h p k =
      let ih = chain_earlier L M (earlier_sound w d (L ++ M) h) p k in
      let apart = all_chain (λ d. d.id) (λ d. d.parent) (λ x. d.id ≡ x.id → ⊥) (L ++ M) p
      (fresh_out (L ++ M) d (acceptable_out w (L ++ M) d (latest_acceptable w d (L ++ M) h)).over_earlier.apart) in
      cases (eqb p 0)
      (λ e. rw (eqb-true p 0 e) (chain_zero (λ d. d.id) (λ d. d.parent) (d ∷ L ++ M) ∙ sym (chain_zero (λ d. d.id) (λ d. d.parent) M)))
      (λ e. list_cases (chain (λ d. d.id) (λ d. d.parent) M p) (λ none. absurd (eqb-false p 0 e (k none)))
      (λ q higher found. chain_miss (λ d. d.id) (λ d. d.parent) d (L ++ M) p (numbered_other (λ d. d.id) (λ d. d.parent) p d
      (λ same. (rw (ih, found) at apart).0 (same ∙ sym (chain_id (λ d. d.id) (λ d. d.parent) M p q higher found)))) ∙ ih))

  -- a claim at its place, with the earlier claims M
  module _ (L : List Claim) (c : Claim) (M : List Claim) (h : sound_claims w (L ++ c ∷ M) ≡ true) where
    -- the chain above it climbs from parent to parent to a root
    pub place_climbs : Climbs c.parent (above M c)
    place_climbs = chain_climbs M c.parent (earlier_sound w c M (prefix_sound w L (c ∷ M) h)) (latest_stands c M (prefix_sound w L (c ∷ M) h))

    -- the last of its chain is a root
    pub place_root : (root_of c (above M c)).parent ≡ 0
    place_root = climbs_root c (above M c) place_climbs

    -- among all claims its parent's number has the chain above it
    pub place_above : chain (λ d. d.id) (λ d. d.parent) (L ++ c ∷ M) c.parent ≡ above M c
    place_above =
        let behind = prefix_sound w L (c ∷ M) h in
        let here = chain_earlier (c ∷ []) M behind c.parent (latest_stands c M behind) in
        chain_earlier L (c ∷ M) h c.parent (λ none. latest_stands c M behind (sym here ∙ none)) ∙ here

    -- among all claims its id has its chain
    pub place_chain : chain (λ d. d.id) (λ d. d.parent) (L ++ c ∷ M) c.id ≡ chain_of M c
    place_chain =
        let fits = claim_fits_out w.version c (place_acceptable w L c M h).by_itself.fits in
        let here = chain_hit (λ d. d.id) (λ d. d.parent) c M c.id (numbered_own (λ d. d.id) (λ d. d.parent) c fits.id_least) in
        chain_earlier L (c ∷ M) h c.id (λ none. cons_clash (sym here ∙ none)) ∙ here

    -- so its hop count may be asked of all claims
    pub place_hops_whole : hops_of (L ++ c ∷ M) c ≡ hops_of M c
    place_hops_whole = ap length place_above
