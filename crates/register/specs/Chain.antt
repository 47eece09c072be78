-- Believed: The chain of a claim, its hop count, and when a claim is live.
use Rattle.std.specs.Prelude.{Bool, false, not, ◌&&◌, ◌||◌, cond, List, [], ◌∷◌, reverse, ℕ, ◌<◌, eqb, leb, ltb, length, ◌≡◌, ◌⊎◌}
use Rattle.lists.specs.Lists.{any, every}
use Rattle.register.specs.declared.Claim.{Claim}

-- a list from its last element to its first: what stands earlier comes later
abbrev pub latest : {A : Type 0} → List A → List A
latest l = reverse l

module _ {C : Type 0} (id up : C → ℕ) where
  -- whether p is the number of c: 0 is no claim's number
  abbrev pub numbered : ℕ → C → Bool
  numbered p c = ltb 0 p && eqb (id c) p

  -- the one numbered p, the one that its parent number names, and so on up to a root; latest first, so a parent stands further along
  unfoldable pub chain : List C → ℕ → List C
  chain [] p = []
  chain (c ∷ earlier) p = let here = c ∷ chain earlier (up c) in let past = chain earlier p in cond (numbered p c) here past

-- the chain above a claim, among those earlier than it, latest first: the chain without the claim itself
abbrev pub above : List Claim → Claim → List Claim
above earlier c = chain (λ d. d.id) (λ d. d.parent) earlier c.parent

-- the hop count of a claim: the number of steps up to the root
abbrev pub hops_of : List Claim → Claim → ℕ
hops_of earlier c = length (above earlier c)

-- the chain of a claim: the claim, its parent, and so on
abbrev pub chain_of : List Claim → Claim → List Claim
chain_of earlier c = c ∷ above earlier c

-- whether h granted the root of a chain, which is its last member
unfoldable pub root_granted : {A : Type 0} → (A → ℕ) → List A → ℕ → Bool
root_granted grantor [] h = false
root_granted grantor (c ∷ []) h = eqb (grantor c) h
root_granted grantor (c ∷ d ∷ l) h = root_granted grantor (d ∷ l) h

-- whether h holds a claim on a chain, or granted its root
unfoldable pub circling : {A : Type 0} → (A → ℕ) → (A → ℕ) → List A → ℕ → Bool
circling grantor holder l h = any (λ c. eqb (holder c) h) l || root_granted grantor l h

-- a claim has expired at a moment when its expiry is not 0 and not above that moment
abbrev pub expired : ℕ → Claim → Bool
expired moment c = not (eqb c.expiry 0) && leb c.expiry moment

-- a claim by itself is current at a moment when its weight is above 0 and it has not expired
abbrev pub current : ℕ → Claim → Bool
current moment c = ltb 0 c.weight && not (expired moment c)

-- a claim of this weight and expiry, and zeros besides
abbrev pub weighing : ℕ → ℕ → Claim
weighing weight expiry = record {
  id = 0;
  parent = 0;
  grantor = 0;
  holder = 0;
  resource = 0;
  rights = 0;
  weight = weight;
  left = 0;
  expiry = expiry;
}

-- a claim is live at a moment when every claim on its chain, the claim included, is current
abbrev pub live : ℕ → List Claim → Claim → Bool
live moment earlier c = every (current moment) (chain_of earlier c)

-- a claim that has weight, and that never expires or does so after the moment
pub record Lasting (moment : ℕ) (c : Claim) : Type 0 where
  pub weighs : 0 < c.weight
  pub lasts : (c.expiry ≡ 0) ⊎ (moment < c.expiry)
