-- The liveness that refusal 11 asks of a grant is that of the parent, as the gate asks it. Assumes
-- nothing.
use Rattle.std.proofs.Common.{◌≡◌, refl, sym, ap, ◌∙◌, true, List, ◌∷◌, ◌++◌, ℕ}
use Rattle.lists.specs.Lists.{every}
use Rattle.register.specs.Chain.{chain, above, chain_of, current, live}
use Rattle.register.specs.declared.Claim.{Claim}
use Rattle.register.specs.declared.Register.{Register}
use Rattle.soundness_rules.specs.Sound.{sound, sound_claims}
use Rattle.soundness_rules.proofs.Registers.{sound_out}
use Rattle.soundness_rules.proofs.Chains.{place_above, place_chain}
use Rattle.change_rules.specs.Changes.{world_in, standing, source_live}

-- asked of a parent and what is above it, it is that each of them is current
source_current : (moment : ℕ) (p : Claim) (higher : List Claim) → source_live moment (p ∷ higher) ≡ every (current moment) (p ∷ higher)
unfolding source_live
source_current moment p higher = refl

-- a parent p that stands in a sound register, with the claims M before it and L behind it
module _ (r : Register) (fine : sound r ≡ true) (L : List Claim) (p : Claim) (M : List Claim) (place : standing r ≡ L ++ p ∷ M) where
  placed : sound_claims (world_in r) (L ++ p ∷ M) ≡ true
  placed = ap (sound_claims (world_in r)) (sym place) ∙ (sound_out r fine).claims

  -- the chain above a claim drawn from p is the chain of p, among those before it and among all
  above_chain : (c : Claim) → c.parent ≡ p.id → above (standing r) c ≡ chain_of M p
  above_chain c drawn =
      ap (λ n. chain (λ d. d.id) (λ d. d.parent) (standing r) n) drawn
      ∙ ap (λ l. chain (λ d. d.id) (λ d. d.parent) l p.id) place
      ∙ place_chain (world_in r) L p M placed

  chain_standing : chain_of (standing r) p ≡ chain_of M p
  chain_standing = ap (λ l. chain_of l p) place ∙ ap (λ l. p ∷ l) (place_above (world_in r) L p M placed)

  pub source_natural : (c : Claim) → c.parent ≡ p.id → (moment : ℕ) → source_live moment (above (standing r) c) ≡ live moment (standing r) p
  source_natural c drawn moment =
      ap (source_live moment) (above_chain c drawn) ∙ source_current moment p (above M p) ∙ ap (every (current moment)) (sym chain_standing)
