-- What is proved of any calls of grant and withdrawal, over the definitions that their contracts cite. Where a grant's claim has to come into its
-- place, the array of claims has the 256 places of its type: every register of the program has its shape (`Shaped`). Assumes nothing.
use Rattle.std.proofs.Common.{◌≡◌, true, false, ◌&&◌, ◌||◌, List, [], ◌∷◌, ◌++◌, ℕ, eqb, ltb}
use Rattle.register.specs.Limits.{claim_limit, moment_end}
use Rattle.register.specs.Register.{claims_of, Shaped}
use Rattle.register.specs.Chain.{above}
use Rattle.register.specs.declared.Claim.{Claim}
use Rattle.register.specs.declared.Register.{Register}
use Rattle.soundness_rules.specs.Sound.{sound, fresh, stored}
use Rattle.change_rules.specs.Changes.{world_in, standing, source_live, appended, granted, Withdrawal, withdrawn}
use Rattle.history.specs.History.{Change, grant, changed, took, register_after, History, withdraw}
use Rattle.history.proofs.Changing as calls
use Rattle.history.proofs.Holds as holds
use Rattle.history.proofs.Laws as laws
use Rattle.history.proofs.Replay as replay

-- 1. From any sound register, whatever the calls: the end is what is left once the withdrawn is struck with all drawn from it, and the grants that are left, made again, end there too.
pub history : (r : Register) → Shaped r → sound r ≡ true → (ks : List Change) → History r ks
history = replay.history

-- 2a. Every call leaves a sound register.
pub changed_sound : (r : Register) (k : Change) → sound r ≡ true → sound (changed r k) ≡ true
changed_sound = holds.changed_sound

-- 2b. So does every run of calls.
pub after_sound : (r : Register) (ks : List Change) → sound r ≡ true → sound (register_after r ks) ≡ true
after_sound = replay.after_sound

-- 2c. Every call leaves a register its shape.
pub changed_shaped : (r : Register) (k : Change) → Shaped r → Shaped (changed r k)
changed_shaped = holds.changed_shaped

-- 2d. So does every run of calls.
pub after_shaped : (r : Register) (ks : List Change) → Shaped r → Shaped (register_after r ks)
after_shaped = replay.after_shaped

-- 2e. Every run of calls from any register leaves it in its version.
pub after_version : (r : Register) (ks : List Change) → (register_after r ks).version ≡ r.version
after_version = replay.after_version

-- 3a. A grant is accepted exactly where the register is sound, the moment is in range, the register with the claim is sound, and the source of a claim that is no root lives.
pub grant_exact : (r : Register) (c : Claim) (moment : ℕ) → Shaped r
    → took r (grant c moment) ≡ sound r && (ltb moment moment_end && (sound (appended r c) && (eqb c.parent 0 || source_live moment (above (standing r) c))))
grant_exact = laws.grant_exact

-- 3b. An accepted grant puts the claim, as it is stored, at the end of the claims.
pub granted_claims : (r : Register) (c : Claim) (moment : ℕ) → Shaped r → took r (grant c moment) ≡ true
    → claims_of (changed r (grant c moment)).claims ≡ claims_of r.claims ++ (stored r.version (standing r) c ∷ [])
granted_claims = laws.granted_claims

-- 3c. Of the other claims of two sound registers a grant's outcome depends on the chain above it, on whether its id stands and on whether there is room.
pub grant_looks : (r s : Register) (c : Claim) (moment : ℕ) → sound r ≡ sound s → world_in r ≡ world_in s → above (standing r) c ≡ above (standing s) c
    → fresh (standing r) c ≡ fresh (standing s) c → ltb r.claims.count claim_limit ≡ ltb s.claims.count claim_limit
    → (granted r c moment).outcome ≡ (granted s c moment).outcome
grant_looks = laws.grant_looks

-- 4a. A refused call hands back the register as it came.
pub refused_register : (r : Register) (k : Change) → took r k ≡ false → changed r k ≡ r
refused_register = calls.refused_register

-- 4b. A refused withdrawal tells that none went.
pub refused_removed : (r : Register) (w : Withdrawal) → took r (withdraw w) ≡ false → (withdrawn r w).removed ≡ 0
refused_removed = calls.refused_removed
