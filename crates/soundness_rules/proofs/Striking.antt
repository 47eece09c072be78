-- Laws: Striking what a test names with all that is drawn from it: the rest keeps its order, its chains and its soundness. Assumes nothing.
use Rattle.std.specs.Prelude.{◌≡◌, Bool, true, false, not, ◌||◌, List, [], ◌∷◌, ℕ, ◌≤◌, ◌<◌, length}
use Rattle.std.proofs.Common.{ap, sym, ◌∙◌}
use Rattle.std.proofs.Math.Bool.{or-true, or-false}
use Rattle.std.proofs.lemmas.List.{reverse-reverse}
use Rattle.lists.specs.Tests.{cases, or_right, or_middle}
use Rattle.lists.specs.Lists.{any, Each, All, filter}
use Rattle.lists.specs.Each.{each_all, each_imp, each_both, all_imp, each_behind, any_same, any_either, all_none}
use Rattle.lists.specs.Filters.{dropping_nil, dropping_hit, dropping_miss, dropping_ind, all_dropping, dropping_length, dropping_none, dropping_same, dropping_dropping, filter_not, filter_reverse}
use Rattle.register.specs.Chain.{latest, chain}
use Rattle.register.specs.Laws.{chain_nil, chain_hit, chain_miss, chain_ind, all_chain, chain_absent, numbered_own, numbered_id, numbered_other}
use Rattle.register.specs.declared.Claim.{Claim}
use Rattle.soundness_rules.specs.Sound.{World, sound_claims, acceptable}
use Rattle.soundness_rules.proofs.Laws.{acceptable_out, acceptable_in, claim_fits_out, fresh_out, fresh_in, drawn_same}
use Rattle.soundness_rules.proofs.Places.{sound_claims_in, latest_acceptable, earlier_sound}
use Rattle.soundness_rules.specs.Struck.{struck, strike}

module _ {C : Type 0} (id up : C → ℕ) where
  -- each has a number above 0 that none behind it has
  abbrev pub Distinct : List C → Type 0
  Distinct L = Each (λ M c. (0 < id c) × All (λ d. id c ≡ id d → ⊥) M) L

  -- where c is not struck, nothing above it is named
  pub above_spared : (P : C → Bool) (L : List C) (c : C) → struck id up P L c ≡ false → any P (chain id up L (up c)) ≡ false
  above_spared P L c e = or_right (P c) (any P (chain id up L (up c))) e

  -- not more stand than before
  pub strike_length : (P : C → Bool) (L : List C) → length (strike id up P L) ≤ length L
  strike_length P L = dropping_length (struck id up P) L

  -- a chain on which nothing is named is the same afterwards
  pub chain_strike : (P : C → Bool) (L : List C) (p : ℕ) → any P (chain id up L p) ≡ false → chain id up (strike id up P L) p ≡ chain id up L p
  chain_strike P = chain_ind id up (λ L p H. any P H ≡ false → chain id up (strike id up P L) p ≡ H)
      (λ p h. rw (dropping_nil (struck id up P)) (chain_nil id up p))
      (λ c L p e ih h. rw (dropping_miss (struck id up P) c L h, chain_hit id up c (strike id up P L) p e, ih (above_spared P L c h)))
      (λ c L p e ih h. cases (struck id up P L c) (λ f. rw (dropping_hit (struck id up P) c L f) (ih h))
      (λ f. rw (dropping_miss (struck id up P) c L f, chain_miss id up c (strike id up P L) p e) (ih h)))

  -- what is left has the chain that it had
  pub above_kept : (P : C → Bool) (L : List C) (c : C) → struck id up P L c ≡ false → chain id up (strike id up P L) (up c) ≡ chain id up L (up c)
  above_kept P L c e = chain_strike P L (up c) (above_spared P L c e)

  -- what had something named on its chain does not stand afterwards
  pub chain_gone : (P : C → Bool) (L : List C) (p : ℕ) → Distinct L → any P (chain id up L p) ≡ true → chain id up (strike id up P L) p ≡ []
  chain_gone P = chain_ind id up (λ L p H. Distinct L → any P H ≡ true → chain id up (strike id up P L) p ≡ [])
      (λ p d k. rw (dropping_nil (struck id up P)) (chain_nil id up p))
      (λ c L p e ih d k. rw (dropping_hit (struck id up P) c L k) (chain_absent id up (strike id up P L) p (all_dropping (struck id up P) _ L
      (all_imp (λ x. id c ≡ id x → ⊥) _ (λ x apart. numbered_other id up p x (λ same. apart (numbered_id id up p c e ∙ sym same))) L d.0.1))))
      (λ c L p e ih d k. cases (struck id up P L c) (λ f. rw (dropping_hit (struck id up P) c L f) (ih d.1 k))
      (λ f. rw (dropping_miss (struck id up P) c L f, chain_miss id up c (strike id up P L) p e) (ih d.1 k)))

  -- tests that agree strike alike, and a test that names none strikes none
  pub strike_same : (P Q : C → Bool) (L : List C) → All (λ c. P c ≡ Q c) L → strike id up P L ≡ strike id up Q L
  strike_same P Q L h = dropping_same (struck id up P) (struck id up Q) L (each_imp _ _
      (λ M c k. rw (k.0, any_same P Q (chain id up M (up c)) (all_chain id up (λ c. P c ≡ Q c) M (up c) k.1))) L (each_behind (λ M c. P c ≡ Q c) L h))

  pub strike_none : (P : C → Bool) (L : List C) → All (λ c. P c ≡ false) L → strike id up P L ≡ L
  strike_none P L h = dropping_none (struck id up P) L (each_imp _ _
      (λ M c k. rw k.0 (all_none P (chain id up M (up c)) (all_chain id up (λ c. P c ≡ false) M (up c) k.1))) L (each_behind (λ M c. P c ≡ false) L h))

  -- to strike twice is to strike what either test names
  pub strike_strike : (P Q : C → Bool) (L : List C) → strike id up P (strike id up Q L) ≡ strike id up (λ c. P c || Q c) L
  strike_strike P Q L = dropping_dropping (struck id up (λ c. P c || Q c)) (struck id up P) (struck id up Q) L (each_all _ (λ M c.
      let both : struck id up (λ c. P c || Q c) M c ≡ struck id up P M c || struck id up Q M c =
      rw (any_either P Q (chain id up M (up c))) (or_middle (P c) (Q c) (any P (chain id up M (up c))) (any Q (chain id up M (up c)))) in (
        (λ e. both ∙ rw e (or-true (struck id up P M c))),
        λ e. rw (above_kept Q M c e) (sym (both ∙ rw e (or-false (struck id up P M c)))),
      )) L)

  -- where numbers are distinct, a thing's chain is found by its own number among all
  pub chain_own : (L : List C) → Distinct L → Each (λ M c. chain id up L (id c) ≡ c ∷ chain id up M (up c)) L
  chain_own [] h = tt
  chain_own (c ∷ L) h = (
    chain_hit id up c L (id c) (numbered_own id up c h.0.0),
    each_both (λ M d. id c ≡ id d → ⊥) _ _ (λ M d apart found. chain_miss id up c L (id d) (numbered_other id up (id d) c apart) ∙ found) L h.0.1
        (chain_own L h.1),
  )

  -- so what goes is what has something named on its chain among all, itself included
  pub strike_natural : (P : C → Bool) (L : List C) → Distinct L → strike id up P L ≡ filter (λ c. not (any P (chain id up L (id c)))) L
  strike_natural P L h = dropping_same (struck id up P) (λ M c. any P (chain id up L (id c))) L (each_imp _ _ (λ M c e. ap (λ H. any P H) (sym e)) L (chain_own L h))
      ∙ sym (filter_not (λ c. any P (chain id up L (id c))) L)

  -- the same in the order of a register
  pub strike_latest : (P : C → Bool) (cs : List C) → Distinct (latest cs)
      → latest (strike id up P (latest cs)) ≡ filter (λ c. not (any P (chain id up (latest cs) (id c)))) cs
  strike_latest P cs h = ap latest (strike_natural P (latest cs) h ∙ filter_reverse (λ c. not (any P (chain id up (latest cs) (id c)))) cs) ∙ reverse-reverse _

module _ (w : World) where
  -- in a sound list ids are above 0 and distinct
  pub sound_distinct : (L : List Claim) → sound_claims w L ≡ true → Distinct (λ c. c.id) (λ c. c.parent) L
  sound_distinct [] h = tt
  sound_distinct (c ∷ L) h = let told = acceptable_out w L c (latest_acceptable w c L h) in
      (((claim_fits_out w.version c told.by_itself.fits).id_least, fresh_out L c told.over_earlier.apart), sound_distinct L (earlier_sound w c L h))

  acceptable_strike : (P : Claim → Bool) (L : List Claim) (c : Claim) → struck (λ c. c.id) (λ c. c.parent) P L c ≡ false
      → acceptable w L c ≡ true → acceptable w (strike (λ c. c.id) (λ c. c.parent) P L) c ≡ true
  acceptable_strike P L c spared h =
      let K : List Claim = strike (λ c. c.id) (λ c. c.parent) P L in
      let told = acceptable_out w L c h in
      let kept = drawn_same w.version K L c (above_kept (λ c. c.id) (λ c. c.parent) P L c spared) in
      acceptable_in w K c record {
        by_itself = told.by_itself;
        over_earlier = record {
          apart = fresh_in K c (all_dropping (struck (λ c. c.id) (λ c. c.parent) P) (λ d. c.id ≡ d.id → ⊥) L (fresh_out L c told.over_earlier.apart));
          chained = kept ∙ told.over_earlier.chained;
        };
      }

  -- what is left of a sound list is sound
  pub strike_sound : (P : Claim → Bool) (L : List Claim) → sound_claims w L ≡ true → sound_claims w (strike (λ c. c.id) (λ c. c.parent) P L) ≡ true
  strike_sound P = dropping_ind (struck (λ c. c.id) (λ c. c.parent) P) (λ L K. sound_claims w L ≡ true → sound_claims w K ≡ true) (λ h. h)
      (λ c L e ih h. ih (earlier_sound w c L h))
      (λ c L e ih h. sound_claims_in w c (strike (λ c. c.id) (λ c. c.parent) P L) (acceptable_strike P L c e (latest_acceptable w c L h)) (ih (earlier_sound w c L h)))
