-- What is proved of soundness in the two versions, over claims latest first (L, M): how many hands a claim may still pass through, and what the
-- number that it holds has to do with it. Assumes nothing.
use Rattle.std.proofs.Common.{◌≡◌, true, false, ◌⊎◌, List, ◌∷◌, ◌++◌, map, ℕ, ◌+◌, ◌≤◌, leb, ltb, length}
use Rattle.register.specs.Limits.{hop_limit, left_limit, version_one, version_two, tells_left}
use Rattle.register.specs.Register.{claim_as}
use Rattle.register.specs.Chain.{latest, above, hops_of}
use Rattle.register.specs.declared.Claim.{Claim}
use Rattle.register.specs.declared.Register.{Register}
use Rattle.soundness_rules.specs.Sound.{World, hands_left, fewer_left, acceptable, sound_claims, sound, stored}
use Rattle.soundness_rules.proofs.Places as places
use Rattle.soundness_rules.proofs.Alike as alike
use Rattle.soundness_rules.proofs.Sameness as sameness
use Rattle.soundness_rules.proofs.Versions as versions

-- 8a. A sound register is of version 1 or of version 2.
pub sound_version : (r : Register) → sound r ≡ true → (r.version ≡ version_one) ⊎ (r.version ≡ version_two)
sound_version = versions.sound_version

-- 8b. In a sound register of either version a claim's hops and the hands that it has left are at most 16.
pub left_within : (w : World) (L : List Claim) (c : Claim) (M : List Claim) → sound_claims w (L ++ c ∷ M) ≡ true
    → hops_of M c + hands_left w.version (above M c) c ≤ left_limit
left_within = places.left_within

-- 8c. (d) says in version 1 that there are at most 16 hops.
pub fewer_hops : (version : ℕ) → tells_left version ≡ false → (p : Claim) (higher : List Claim) (c : Claim)
    → fewer_left version p higher c ≡ leb (length (p ∷ higher)) hop_limit
fewer_hops = versions.fewer_hops

-- 8d. (d) says in version 2 that what a claim holds as left is below what its parent holds.
pub fewer_told : (version : ℕ) → tells_left version ≡ true → (p : Claim) (higher : List Claim) (c : Claim) → fewer_left version p higher c ≡ ltb c.left p.left
fewer_told = versions.fewer_told

-- 8e. Claims that count alike in a version are judged alike in it: outside version 2 what they hold as left is not asked.
pub sound_claims_same : (w : World) (cs ds : List Claim) → map (claim_as w.version) cs ≡ map (claim_as w.version) ds
    → sound_claims w (latest cs) ≡ sound_claims w (latest ds)
sound_claims_same = sameness.sound_claims_same

-- 8f. A claim is acceptable exactly where what is stored of it is.
pub acceptable_stored : (w : World) (L : List Claim) (c : Claim) → acceptable w L (stored w.version L c) ≡ acceptable w L c
acceptable_stored = alike.acceptable_stored
