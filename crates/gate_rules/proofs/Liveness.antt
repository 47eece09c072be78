-- Where a claim of a sound register is live, so is each claim that it is drawn from. Assumes nothing.
use Rattle.std.proofs.Common.{◌≡◌, true, List, [], ◌∷◌, ◌++◌, ℕ}
use lib.Seq.{append_snoc}
use Rattle.lists.specs.Tests.{and_right}
use Rattle.lists.specs.Lists.{every, All}
use Rattle.register.specs.Register.{actors_of, resources_of, claims_of}
use Rattle.register.specs.Chain.{latest, chain, above, current, live}
use Rattle.register.specs.Laws.{chain_ind}
use Rattle.register.specs.declared.Claim.{Claim}
use Rattle.register.specs.declared.Register.{Register}
use Rattle.soundness_rules.specs.Sound.{World, world_of, sound_claims, sound}
use Rattle.soundness_rules.proofs.Registers.{sound_out}
use Rattle.soundness_rules.proofs.Chains.{place_above}
use Rattle.gate_rules.specs.Authority.{higher_than}

-- the chain above each claim of a chain is what follows it there
abbrev Nested : List Claim → List Claim → Type 0
Nested L [] = Unit {0}
Nested L (d ∷ higher) = (above L d ≡ higher) × Nested L higher

chain_nested : (w : World) (L : List Claim) (p : ℕ) (later : List Claim) → sound_claims w (later ++ L) ≡ true
    → Nested (later ++ L) (chain (λ d. d.id) (λ d. d.parent) L p)
chain_nested w =
    chain_ind (λ d. d.id) (λ d. d.parent) (λ L p H. (later : List Claim) → sound_claims w (later ++ L) ≡ true → Nested (later ++ L) H)
    (λ p later h. tt)
    (λ c L p e ih later h. (place_above w later c L h, rw (append_snoc later c L) at (ih (later ++ (c ∷ [])) (rw (append_snoc later c L) h))))
    (λ c L p e ih later h. rw (append_snoc later c L) at (ih (later ++ (c ∷ [])) (rw (append_snoc later c L) h)))

nested_lives : (moment : ℕ) (L higher : List Claim) → Nested L higher → every (current moment) higher ≡ true → All (λ d. live moment L d ≡ true) higher
nested_lives moment L [] nested h = tt
nested_lives moment L (d ∷ higher) nested h =
    (rw nested.0 h, nested_lives moment L higher nested.1 (and_right (current moment d) (every (current moment) higher) h))

pub source_lives : (r : Register) → sound r ≡ true → (moment : ℕ) (c : Claim) → live moment (latest (claims_of r.claims)) c ≡ true
    → All (λ d. live moment (latest (claims_of r.claims)) d ≡ true) (higher_than r c)
source_lives r h moment c lives =
    nested_lives moment (latest (claims_of r.claims)) (higher_than r c)
    (chain_nested (world_of r.version (actors_of r.actors) (resources_of r.resources)) (latest (claims_of r.claims)) c.parent [] (sound_out r h).claims)
    (and_right (current moment c) (every (current moment) (higher_than r c)) lives)
