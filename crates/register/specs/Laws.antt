-- Laws: Laws of chains, for any things that have a number and a parent's number; and that the empty register has its shape. Assumes nothing.
use Rattle.std.specs.Prelude.{◌≡◌, true, false, ℕ, ◌<◌, ltb, length, List, [], ◌∷◌, map}
use Rattle.std.proofs.Common.{ap, sym, ◌∙◌, eqb-true, eq-eqb, ne_eqb, lt-ltb}
use Rattle.std.proofs.Math.Path.{refl}
use Rattle.std.proofs.Math.Bool.{and-false}
use Rattle.std.proofs.Math.Dec.{eqb}
use Rattle.std.proofs.lemmas.List.{length-replicate}
use Rattle.lists.specs.Tests.{cases, and_right}
use Rattle.lists.specs.Each.{cons_clash, any_map}
use Rattle.lists.specs.Fills.{all_replicate}
use Rattle.lists.specs.Lists.{All}
use Rattle.register.specs.Limits.{actor_limit, resource_limit, claim_limit, path_limit, tells_left}
use Rattle.register.specs.Register.{claims_of, with_left, claim_as, Same, no_actor, no_resource, no_claim, empty_register, Shaped}
use Rattle.register.specs.Chain.{numbered, chain, root_granted, circling}
use Rattle.register.specs.declared.Claim.{Claim}
use Rattle.register.specs.declared.Register.{Register}

module _ {C : Type 0} (id up : C → ℕ) where
  pub chain_nil : (p : ℕ) → chain id up [] p ≡ []
  unfolding chain
  chain_nil p = refl

  pub chain_hit : (c : C) (L : List C) (p : ℕ) → numbered id up p c ≡ true → chain id up (c ∷ L) p ≡ c ∷ chain id up L (up c)
  unfolding chain
  chain_hit c L p e = rw e

  pub chain_miss : (c : C) (L : List C) (p : ℕ) → numbered id up p c ≡ false → chain id up (c ∷ L) p ≡ chain id up L p
  unfolding chain
  chain_miss c L p e = rw e

  -- what holds of the chains of no claim, of a claim found and of a claim passed over holds of every chain
  pub chain_ind : (M : List C → ℕ → List C → Type 0) → ((p : ℕ) → M [] p [])
      → ((c : C) (L : List C) (p : ℕ) → numbered id up p c ≡ true → M L (up c) (chain id up L (up c)) → M (c ∷ L) p (c ∷ chain id up L (up c)))
      → ((c : C) (L : List C) (p : ℕ) → numbered id up p c ≡ false → M L p (chain id up L p) → M (c ∷ L) p (chain id up L p))
      → (L : List C) (p : ℕ) → M L p (chain id up L p)
  chain_ind M z f g [] p = rw chain_nil (z p)
  chain_ind M z f g (c ∷ L) p =
      cases (numbered id up p c) (λ e. rw (chain_hit c L p e) (f c L p e (chain_ind M z f g L (up c))))
      (λ e. rw (chain_miss c L p e) (g c L p e (chain_ind M z f g L p)))

  -- a thing is numbered by its own number, where that is not 0, and by no other
  pub numbered_own : (c : C) → 0 < id c → numbered id up (id c) c ≡ true
  numbered_own c above = rw (lt-ltb 0 (id c) above) (eq-eqb (id c) (id c) refl)

  pub numbered_id : (p : ℕ) (c : C) → numbered id up p c ≡ true → id c ≡ p
  numbered_id p c e = eqb-true (id c) p (and_right (ltb 0 p) (eqb (id c) p) e)

  pub numbered_other : (p : ℕ) (c : C) → (id c ≡ p → ⊥) → numbered id up p c ≡ false
  numbered_other p c other = rw (ne_eqb (id c) p other) (and-false (ltb 0 p))

  -- the first of the chain of number p has that number
  pub chain_id : (L : List C) (p : ℕ) (d : C) (H : List C) → chain id up L p ≡ d ∷ H → id d ≡ p
  chain_id = chain_ind (λ L p K. (d : C) (H : List C) → K ≡ d ∷ H → id d ≡ p) (λ p d H k. cons_clash (sym k))
      (λ c L p e ih d H k. let same : d ≡ c = cc in rw same (numbered_id p c e)) (λ c L p e ih d H k. ih d H k)

  -- what holds of each holds of each on a chain
  pub all_chain : (Q : C → Type 0) (L : List C) (p : ℕ) → All Q L → All Q (chain id up L p)
  all_chain Q = chain_ind (λ L p H. All Q L → All Q H) (λ p h. h) (λ c L p e ih h. (h.0, ih h.1)) (λ c L p e ih h. ih h.1)

  -- a number has no chain exactly where nothing has that number
  pub chain_absent : (L : List C) (p : ℕ) → All (λ c. numbered id up p c ≡ false) L → chain id up L p ≡ []
  chain_absent [] p h = chain_nil p
  chain_absent (c ∷ L) p h = chain_miss c L p h.0 ∙ chain_absent L p h.1

  -- 0 is the number of none, so a root has no chain above it
  pub chain_zero : (L : List C) → chain id up L 0 ≡ []
  chain_zero [] = chain_nil 0
  chain_zero (c ∷ L) = chain_miss c L 0 refl ∙ chain_zero L

-- things read through f
module _ {E C : Type 0} (f : E → C) (id up : C → ℕ) where
  pub chain_map : (L : List E) (p : ℕ) → chain id up (map f L) p ≡ map f (chain (λ e. id (f e)) (λ e. up (f e)) L p)
  chain_map = chain_ind (λ e. id (f e)) (λ e. up (f e)) (λ L p H. chain id up (map f L) p ≡ map f H) (λ p. chain_nil id up p)
      (λ e L p k ih. chain_hit id up (f e) (map f L) p k ∙ ap (λ H. f e ∷ H) ih) (λ e L p k ih. chain_miss id up (f e) (map f L) p k ∙ ih)

module _ {E C : Type 0} (f : E → C) (grantor holder : C → ℕ) where
  pub root_granted_map : (L : List E) (h : ℕ) → root_granted grantor (map f L) h ≡ root_granted (λ e. grantor (f e)) L h
  unfolding root_granted
  root_granted_map [] h = refl
  root_granted_map (c ∷ []) h = refl
  root_granted_map (c ∷ d ∷ L) h = root_granted_map (d ∷ L) h

  pub circling_map : (L : List E) (h : ℕ) → circling grantor holder (map f L) h ≡ circling (λ e. grantor (f e)) (λ e. holder (f e)) L h
  unfolding circling
  circling_map L h = rw (root_granted_map L h, any_map f (λ c. eqb (holder c) h) L)

-- claims with nothing left: all else that they hold
abbrev pub bare : Claim → Claim
bare c = with_left 0 c

pub bare_as : (version : ℕ) (L : List Claim) → map bare (map (claim_as version) L) ≡ map bare L
bare_as version [] = refl
bare_as version (c ∷ L) = ap (λ K. bare c ∷ K) (bare_as version L)

pub as_as : (version : ℕ) (L : List Claim) → map (claim_as version) (map (claim_as version) L) ≡ map (claim_as version) L
as_as version [] = refl
as_as version (c ∷ L) = cases (tells_left version) (λ e. rw (as_as version L, e)) (λ e. rw (as_as version L, e))

-- in version 2 claims count as they stand, in another without what they hold as left
pub claims_told : (version : ℕ) → tells_left version ≡ true → (L : List Claim) → map (claim_as version) L ≡ L
claims_told version tells [] = refl
claims_told version tells (c ∷ L) = rw (tells, claims_told version tells L)

pub claims_untold : (version : ℕ) → tells_left version ≡ false → (L : List Claim) → map (claim_as version) L ≡ map bare L
claims_untold version untold [] = refl
claims_untold version untold (c ∷ L) = rw (untold, claims_untold version untold L)

-- registers that are the same hold the same but for what claims hold as left
pub same_bare : (r s : Register) → Same r s → map bare (claims_of r.claims) ≡ map bare (claims_of s.claims)
same_bare r s same = sym (bare_as r.version (claims_of r.claims)) ∙ ap (map bare) same.claims ∙ bare_as s.version (claims_of s.claims)

pub empty_shaped : Shaped empty_register
unfolding empty_register
empty_shaped = record {
  actors = length-replicate actor_limit no_actor;
  resources = length-replicate resource_limit no_resource;
  paths = all_replicate (λ o. length o.path ≡ path_limit) resource_limit no_resource (length-replicate {A = ℕ} path_limit 0);
  claims = length-replicate claim_limit no_claim;
}
