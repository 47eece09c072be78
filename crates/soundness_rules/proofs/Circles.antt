-- (e) along a chain, in plain words: no two claims of it have one holder, and none but the root is
-- held by who granted the root. Assumes nothing.
use Rattle.std.proofs.Common.{◌≡◌, refl, sym, ◌∙◌, true, false, List, [], ◌∷◌, ◌++◌, map, ℕ, eqb-true, eqb}
use mathlib.Core.Path.{subst⁻¹}
use borrow.Author.Tests.{eqb-false}
use Rattle.lists.specs.Tests.{cases, or_left, or_right, eqb_turned}
use Rattle.lists.specs.Lists.{any, All, distinct}
use Rattle.lists.specs.Each.{any_map, any_same, cons_clash}
use Rattle.register.specs.Chain.{chain, above, chain_of, root_granted, circling}
use Rattle.register.specs.Laws.{chain_ind, chain_zero}
use Rattle.register.specs.declared.Claim.{Claim}
use Rattle.soundness_rules.specs.Sound.{World, sound_claims}
use Rattle.soundness_rules.proofs.Laws.{acceptable_out, drawn_out}
use Rattle.lists.specs.Distinct.{distinct_nil, distinct_cons}
use Rattle.soundness_rules.proofs.Places.{latest_acceptable, earlier_sound, prefix_sound}
use Rattle.soundness_rules.specs.Roots.{root_of}

-- of a claim that is no root: not held by who granted the root
abbrev pub Unreturned : ℕ → Claim → Type 0
Unreturned grantor d = (d.parent ≡ 0 → ⊥) → d.holder ≡ grantor → ⊥

-- the root's grantor is asked of the last of a chain
root_granted_lem : (p : Claim) (higher : List Claim) (h : ℕ) → root_granted (λ d. d.grantor) (p ∷ higher) h ≡ eqb (root_of p higher).grantor h
unfolding root_granted
root_granted_lem p [] h = refl
root_granted_lem p (q ∷ higher) h = root_granted_lem q higher h

-- who circles on no chain holds none of its claims, and did not grant its root
module _ (p : Claim) (higher : List Claim) (h : ℕ) (free : circling (λ d. d.grantor) (λ d. d.holder) (p ∷ higher) h ≡ false) where
  holds_none : any (eqb h) (map (λ d. d.holder) (p ∷ higher)) ≡ false
  unfolding circling
  holds_none =
      any_map (λ d. d.holder) (eqb h) (p ∷ higher)
      ∙ any_same (λ d. eqb h d.holder) (λ d. eqb d.holder h) (p ∷ higher) (turned (p ∷ higher))
      ∙ or_left (any (λ d. eqb d.holder h) (p ∷ higher)) (root_granted (λ d. d.grantor) (p ∷ higher) h) free
    where
      turned : (L : List Claim) → All (λ d. eqb h d.holder ≡ eqb d.holder h) L
      turned [] = tt
      turned (d ∷ L) = (eqb_turned h d.holder, turned L)

  granted_other : h ≡ (root_of p higher).grantor → ⊥
  unfolding circling
  granted_other same =
      eqb-false (root_of p higher).grantor h
      (sym (root_granted_lem p higher h) ∙ or_right (any (λ d. eqb d.holder h) (p ∷ higher)) (root_granted (λ d. d.grantor) (p ∷ higher) h) free)
      (sym same)

module _ (w : World) where
  -- the latest claim is a root, or is drawn from a chain on which its holder does not circle
  latest_cases : {A : Type 0} (c : Claim) (L : List Claim) → sound_claims w (c ∷ L) ≡ true → (c.parent ≡ 0 → above L c ≡ [] → A)
      → ((p : Claim) (higher : List Claim) → above L c ≡ p ∷ higher → circling (λ d. d.grantor) (λ d. d.holder) (p ∷ higher) c.holder ≡ false → A) → A
  latest_cases c L h root below =
      let chained = (acceptable_out w L c (latest_acceptable w c L h)).over_earlier.chained in
      cases (eqb c.parent 0)
      (λ e. let none = eqb-true c.parent 0 e in root none (rw none (chain_zero (λ d. d.id) (λ d. d.parent) L)))
      (λ e. let d = drawn_out w.version L c chained (eqb-false c.parent 0 e) in below d.parent d.higher d.chained d.over_it.uncircled)

  -- its holder holds no claim above it
  apart : (c : Claim) (L : List Claim) → sound_claims w (c ∷ L) ≡ true → any (eqb c.holder) (map (λ d. d.holder) (above L c)) ≡ false
  apart c L h = latest_cases c L h (λ root none. rw none) (λ p higher found free. rw found (holds_none p higher c.holder free))

  chain_holders : (L : List Claim) (p : ℕ) → sound_claims w L ≡ true → distinct (map (λ d. d.holder) (chain (λ d. d.id) (λ d. d.parent) L p)) ≡ true
  chain_holders = chain_ind (λ d. d.id) (λ d. d.parent) (λ L p H. sound_claims w L ≡ true → distinct (map (λ d. d.holder) H) ≡ true)
      (λ p h. distinct_nil)
      (λ c L p e ih h. distinct_cons c.holder (map (λ d. d.holder) (above L c)) ∙ rw (ih (earlier_sound w c L h), apart c L h))
      (λ c L p e ih h. ih (earlier_sound w c L h))

  -- where what is above it is unreturned, so is its chain
  from_latest : (c : Claim) (L : List Claim) → sound_claims w (c ∷ L) ≡ true
      → ((d : Claim) (H : List Claim) → above L c ≡ d ∷ H → All (Unreturned (root_of d H).grantor) (d ∷ H))
      → All (Unreturned (root_of c (above L c)).grantor) (c ∷ above L c)
  from_latest c L h ih = latest_cases c L h
      (λ root none. subst⁻¹ (λ (H : List Claim). All (Unreturned (root_of c H).grantor) (c ∷ H)) none ((λ other same. other root), tt))
      (λ p higher found free. subst⁻¹ (λ (H : List Claim). All (Unreturned (root_of c H).grantor) (c ∷ H)) found ((λ other same. granted_other p higher c.holder free same), ih p higher found))

  chain_unreturned : (L : List Claim) (p : ℕ) → sound_claims w L ≡ true → (d : Claim) (H : List Claim)
      → chain (λ d. d.id) (λ d. d.parent) L p ≡ d ∷ H → All (Unreturned (root_of d H).grantor) (d ∷ H)
  chain_unreturned = chain_ind (λ d. d.id) (λ d. d.parent)
      (λ L p K. sound_claims w L ≡ true → (d : Claim) (H : List Claim) → K ≡ d ∷ H → All (Unreturned (root_of d H).grantor) (d ∷ H))
      (λ p h d H none. cons_clash (sym none))
      (λ c L p e ih h d H same. let first : d ≡ c = cc in
      let rest : H ≡ above L c = cc in
      subst⁻¹ (λ (e : Claim). All (Unreturned (root_of e H).grantor) (e ∷ H)) first
      (subst⁻¹ (λ (K : List Claim). All (Unreturned (root_of c K).grantor) (c ∷ K)) rest (from_latest c L h (ih (earlier_sound w c L h)))))
      (λ c L p e ih h. ih (earlier_sound w c L h))

  -- a claim at its place, with the earlier claims M
  module _ (L : List Claim) (c : Claim) (M : List Claim) (h : sound_claims w (L ++ c ∷ M) ≡ true) where
    pub holders_distinct : distinct (map (λ d. d.holder) (chain_of M c)) ≡ true
    holders_distinct =
        distinct_cons c.holder (map (λ d. d.holder) (above M c))
        ∙ rw (chain_holders M c.parent (earlier_sound w c M (prefix_sound w L (c ∷ M) h)), apart c M (prefix_sound w L (c ∷ M) h))

    pub root_unreturned : All (Unreturned (root_of c (above M c)).grantor) (chain_of M c)
    root_unreturned =
        let behind = prefix_sound w L (c ∷ M) h in
        from_latest c M behind (chain_unreturned M c.parent (earlier_sound w c M behind))
