-- Laws: What soundness says of claims at their places, latest first: of the earlier claims, of one more claim, of chains and of ids. Assumes nothing.
use Rattle.std.specs.Prelude.{◌≡◌, true, false, ◌&&◌, List, [], ◌∷◌, ◌++◌, ℕ, suc, ◌+◌, ◌≤◌, ◌<◌, eqb, take, drop, length, get_or}
use Rattle.std.proofs.Math.Path.{refl}
use Rattle.std.proofs.Common.{sym, ap, ◌∙◌, arith, eqb-true, take-append-drop, take-suc, take-take}
use Rattle.std.proofs.lemmas.List.{reverse-append}
use Rattle.std.proofs.lemmas.Bool.{eqb-false}
use Rattle.lists.specs.Tests.{cases, and_left, and_right, and_both}
use Rattle.lists.specs.Lists.{any}
use Rattle.lists.specs.Each.{all_imp, all_append_right, none_all, cons_clash}
use Rattle.register.specs.Limits.{hop_limit, left_limit, tells_left}
use Rattle.register.specs.Register.{no_claim}
use Rattle.register.specs.Chain.{latest, chain, above, hops_of, numbered}
use Rattle.register.specs.Laws.{chain_ind, chain_absent, chain_zero, numbered_other}
use Rattle.register.specs.declared.Claim.{Claim}
use Rattle.soundness_rules.specs.Sound.{World, claim_fits, hands_left, acceptable, sound_claims}
use Rattle.soundness_rules.proofs.Laws.{Acceptable, acceptable_out, drawn_out, drawn_stands, fresh_out, claim_fits_out}

-- a root that fits has at most 16 hands left
root_within : (version : ℕ) (c : Claim) → claim_fits version c ≡ true → hands_left version [] c ≤ left_limit
root_within version c h = cases (tells_left version) (λ e. rw e ((claim_fits_out version c h).left_greatest e)) (λ e. rw e (omega arith))

module _ (w : World) where
  pub sound_claims_nil : sound_claims w [] ≡ true
  unfolding sound_claims
  sound_claims_nil = refl

  -- one more claim asks that it is acceptable behind the others
  pub sound_claims_cons : (c : Claim) (L : List Claim) → sound_claims w (c ∷ L) ≡ acceptable w L c && sound_claims w L
  unfolding sound_claims
  sound_claims_cons c L = refl

  pub sound_claims_in : (c : Claim) (L : List Claim) → acceptable w L c ≡ true → sound_claims w L ≡ true → sound_claims w (c ∷ L) ≡ true
  sound_claims_in c L h k = rw (sound_claims_cons c L) (and_both (acceptable w L c) (sound_claims w L) h k)

  -- the latest claim is acceptable behind the others, and those are sound
  pub latest_acceptable : (c : Claim) (L : List Claim) → sound_claims w (c ∷ L) ≡ true → acceptable w L c ≡ true
  latest_acceptable c L h = and_left (acceptable w L c) (sound_claims w L) (rw (sound_claims_cons c L) at h)

  pub earlier_sound : (c : Claim) (L : List Claim) → sound_claims w (c ∷ L) ≡ true → sound_claims w L ≡ true
  earlier_sound c L h = and_right (acceptable w L c) (sound_claims w L) (rw (sound_claims_cons c L) at h)

  pub prefix_sound : (L M : List Claim) → sound_claims w (L ++ M) ≡ true → sound_claims w M ≡ true
  prefix_sound [] M h = h
  prefix_sound (c ∷ L) M h = prefix_sound L M (earlier_sound c (L ++ M) h)

  -- the first n of a register's claims
  pub take_sound : (n : ℕ) (cs : List Claim) → sound_claims w (latest cs) ≡ true → sound_claims w (latest (take n cs)) ≡ true
  take_sound n cs h =
      prefix_sound (latest (drop n cs)) (latest (take n cs))
      (rw (← reverse-append (take n cs) (drop n cs), take-append-drop n cs) h)

  -- no claim of a register has the number 0
  pub claim_numbered : (n : ℕ) (cs : List Claim) → sound_claims w (latest (take n cs)) ≡ true → (j : ℕ) → j < n → j < length cs → (get_or cs j no_claim).id ≡ 0 → ⊥
  claim_numbered n cs h j below inside none =
      let first : sound_claims w (latest (take (suc j) cs)) ≡ true = rw (take-take (suc j) n cs below) at (take_sound (suc j) (take n cs) h) in
      let last : latest (take (suc j) cs) ≡ get_or cs j no_claim ∷ latest (take j cs) =
      ap latest (take-suc cs j no_claim inside) ∙ reverse-append (take j cs) (get_or cs j no_claim ∷ []) in
      let fits = claim_fits_out w.version (get_or cs j no_claim)
      (acceptable_out w (latest (take j cs)) (get_or cs j no_claim) (latest_acceptable (get_or cs j no_claim) (latest (take j cs)) (rw last at first))).by_itself.fits in
      omega (arith, none, fits.id_least)

  -- one more claim at the end of a register's claims
  pub append_sound : (cs : List Claim) (c : Claim) → sound_claims w (latest (cs ++ (c ∷ []))) ≡ acceptable w (latest cs) c && sound_claims w (latest cs)
  append_sound cs c = rw (reverse-append cs (c ∷ [])) (sound_claims_cons c (latest cs))

  -- the hops of the latest claim and the hands that it has left are at most 16, where those of its parent are
  latest_within : (c : Claim) (L : List Claim) → sound_claims w (c ∷ L) ≡ true
      → ((p : Claim) (higher : List Claim) → above L c ≡ p ∷ higher → length higher + hands_left w.version higher p ≤ left_limit)
      → hops_of L c + hands_left w.version (above L c) c ≤ left_limit
  latest_within c L h parent =
      let told = acceptable_out w L c (latest_acceptable c L h) in
      cases (eqb c.parent 0)
      (λ e. rw (eqb-true c.parent 0 e, chain_zero (λ d. d.id) (λ d. d.parent) L) (omega (arith, root_within w.version c told.by_itself.fits)))
      (λ e. let d = drawn_out w.version L c told.over_earlier.chained (eqb-false c.parent 0 e) in
      rw d.chained (omega (arith, d.over_it.fewer, parent d.parent d.higher d.chained)))

  chain_within : (L : List Claim) (p : ℕ) → sound_claims w L ≡ true → (d : Claim) (H : List Claim) → chain (λ d. d.id) (λ d. d.parent) L p ≡ d ∷ H
      → length H + hands_left w.version H d ≤ left_limit
  chain_within = chain_ind (λ d. d.id) (λ d. d.parent)
      (λ L p K. sound_claims w L ≡ true → (d : Claim) (H : List Claim) → K ≡ d ∷ H → length H + hands_left w.version H d ≤ left_limit)
      (λ p h d H none. cons_clash (sym none))
      (λ c L p e ih h d H same. let first : d ≡ c = cc in
      let rest : H ≡ above L c = cc in
      rw (first, rest) (latest_within c L h (ih (earlier_sound c L h))))
      (λ c L p e ih h. ih (earlier_sound c L h))

  -- a claim at its place, with the earlier claims M
  module _ (L : List Claim) (c : Claim) (M : List Claim) (h : sound_claims w (L ++ c ∷ M) ≡ true) where
    pub place_acceptable : Acceptable w M c
    place_acceptable = acceptable_out w M c (latest_acceptable c M (prefix_sound L (c ∷ M) h))

    -- its hops and the hands that it has left are at most 16
    pub left_within : hops_of M c + hands_left w.version (above M c) c ≤ left_limit
    left_within =
        let behind = prefix_sound L (c ∷ M) h in
        latest_within c M behind (chain_within M c.parent (earlier_sound c M behind))

    -- so it has at most 16 hops
    pub place_hops : hops_of M c ≤ hop_limit
    place_hops = omega (arith, left_within)

    -- its parent's number, where not 0, is the id of an earlier claim
    pub place_parent : (c.parent ≡ 0 → ⊥) → any (λ d. eqb c.parent d.id) M ≡ true
    place_parent other =
        cases (any (λ d. eqb c.parent d.id) M) (λ e. e)
        (λ e. absurd (other (drawn_stands w.version M c place_acceptable.over_earlier.chained (chain_absent (λ d. d.id) (λ d. d.parent) M c.parent
        (all_imp (λ d. eqb c.parent d.id ≡ false) (λ d. numbered (λ d. d.id) (λ d. d.parent) c.parent d ≡ false)
        (λ d k. numbered_other (λ d. d.id) (λ d. d.parent) c.parent d (λ same. eqb-false c.parent d.id k (sym same)))
        M (none_all (λ d. eqb c.parent d.id) M e))))))

  -- two claims with one id are never sound
  pub doubled_unsound : (L : List Claim) (c : Claim) (M : List Claim) (d : Claim) (N : List Claim) → c.id ≡ d.id
      → sound_claims w (L ++ c ∷ (M ++ d ∷ N)) ≡ false
  doubled_unsound L c M d N same =
      cases (sound_claims w (L ++ c ∷ (M ++ d ∷ N)))
      (λ h. absurd ((all_append_right (λ e. c.id ≡ e.id → ⊥) M (d ∷ N)
      (fresh_out (M ++ d ∷ N) c (place_acceptable L c (M ++ d ∷ N) h).over_earlier.apart)).0 same))
      (λ e. e)
