-- What is proved of a grant's answer `granted` and a withdrawal's `withdrawn`. What any calls of them come to is in the crate `history`.
-- Assumes nothing.
use Rattle.std.proofs.Common.{◌≡◌, true, false, List, ◌∷◌, ◌++◌, ℕ, length}
use Rattle.register.specs.Limits.{tells_left}
use Rattle.register.specs.Register.{Same, with_left}
use Rattle.register.specs.Chain.{above, live}
use Rattle.register.specs.declared.Claim.{Claim}
use Rattle.register.specs.declared.Register.{Register}
use Rattle.soundness_rules.specs.Sound.{sound}
use Rattle.change_rules.specs.Changes.{standing, source_live, granted, Withdrawal, withdrawn}
use Rattle.change_rules.proofs.Sameness as sameness
use Rattle.change_rules.proofs.Sources as sources
use Rattle.change_rules.proofs.Versions as versions

-- 1a. Registers that are the same get the same outcome of a grant and the same registers back. Their arrays of claims have as many places as each
-- other, as those of all registers of the program have by their type.
pub granted_same : (r s : Register) → Same r s → length r.claims.list ≡ length s.claims.list → (c : Claim) (moment : ℕ)
    → ((granted r c moment).outcome ≡ (granted s c moment).outcome) × Same (granted r c moment).register (granted s c moment).register
granted_same = sameness.granted_same

-- 1b. Registers that are the same get the same outcome of a withdrawal, the same number of claims that went and the same registers back.
pub withdrawn_same : (r s : Register) → Same r s → (w : Withdrawal)
    → ((withdrawn r w).outcome ≡ (withdrawn s w).outcome) × ((withdrawn r w).removed ≡ (withdrawn s w).removed)
    × Same (withdrawn r w).register (withdrawn s w).register
withdrawn_same = sameness.withdrawn_same

-- 1c. In a sound register the liveness that refusal 11 asks of a claim drawn from p is that p is live, as the gate asks it of any claim.
pub source_natural : (r : Register) → sound r ≡ true → (later : List Claim) (p : Claim) (earlier : List Claim) → standing r ≡ later ++ p ∷ earlier
    → (c : Claim) → c.parent ≡ p.id → (moment : ℕ) → source_live moment (above (standing r) c) ≡ live moment (standing r) p
source_natural = sources.source_natural

-- 2a. A grant keeps the version of any register, accepted or refused.
pub granted_version : (r : Register) (c : Claim) (moment : ℕ) → (granted r c moment).register.version ≡ r.version
granted_version = versions.granted_version

-- 2b. So does a withdrawal.
pub withdrawn_version : (r : Register) (w : Withdrawal) → (withdrawn r w).register.version ≡ r.version
withdrawn_version = versions.withdrawn_version

-- 2c. Outside version 2 the whole answer of a grant is the same whatever the claim holds as left.
pub grant_left_unasked : (r : Register) → tells_left r.version ≡ false → (n : ℕ) (c : Claim) (moment : ℕ) → granted r (with_left n c) moment ≡ granted r c moment
grant_left_unasked = versions.grant_left_unasked
