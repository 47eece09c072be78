-- What is proved of a withdrawal by itself: when it is accepted, what it removes, how many went. Assumes nothing.
use Rattle.std.proofs.Common.{◌≡◌, true, not, [], ◌∷◌, ℕ, ◌+◌, eqb, ltb, length}
use Rattle.lists.specs.Lists.{any, ands, filter}
use Rattle.register.specs.Limits.{moment_end}
use Rattle.register.specs.Register.{claims_of, actors_of}
use Rattle.register.specs.Chain.{chain, expired}
use Rattle.register.specs.declared.Register.{Register}
use Rattle.soundness_rules.specs.Sound.{sound, human}
use Rattle.change_rules.specs.Changes.{world_in, standing, Withdrawal, revoke, clear_resource, clear_expired, withdrawn}
use Rattle.history.specs.History.{changed, took, withdraw}
use Rattle.history.proofs.Changing as calls
use Rattle.history.proofs.Laws as laws

-- 5a. A revocation is accepted exactly where the register is sound, the revoker is known, the claim stands and the revoker is a grantor on its chain.
pub revoke_exact : (r : Register) (who x : ℕ) → took r (withdraw (revoke who x))
    ≡ ands (sound r ∷ (world_in r).known who ∷ any (λ c. eqb c.id x) (standing r)
    ∷ any (λ c. eqb c.grantor who) (chain (λ c. c.id) (λ c. c.parent) (standing r) x) ∷ [])
revoke_exact = calls.revoke_accepted

-- 5b. An accepted revocation removes exactly the claims with the named one on their chain, itself included, and the others keep their order.
pub revoke_removes : (r : Register) (who x : ℕ) → sound r ≡ true → took r (withdraw (revoke who x)) ≡ true
    → claims_of (changed r (withdraw (revoke who x))).claims ≡ filter (λ c. not (any (λ d. eqb d.id x) (chain (λ d. d.id) (λ d. d.parent) (standing r) c.id))) (claims_of r.claims)
revoke_removes r who x = laws.withdraw_removes r (revoke who x)

-- 5c. A clearing of a resource is accepted exactly where the register is sound, the caller is known, the resource stands and the caller keeps it.
pub clear_resource_exact : (r : Register) (who o : ℕ)
    → took r (withdraw (clear_resource who o)) ≡ ands (sound r ∷ (world_in r).known who ∷ (world_in r).listed o ∷ (world_in r).keeps who o ∷ [])
clear_resource_exact = calls.clear_resource_accepted

-- 5d. It removes exactly the claims on that resource, and the others keep their order.
pub clear_resource_removes : (r : Register) (who o : ℕ) → sound r ≡ true → took r (withdraw (clear_resource who o)) ≡ true
    → claims_of (changed r (withdraw (clear_resource who o))).claims ≡ filter (λ c. not (eqb c.resource o)) (claims_of r.claims)
clear_resource_removes = laws.clear_resource_removes

-- 5e. A clearing of old claims is accepted exactly where the register is sound, the moment is in range, the caller is known and human.
pub clear_expired_exact : (r : Register) (who moment : ℕ)
    → took r (withdraw (clear_expired who moment)) ≡ ands (sound r ∷ ltb moment moment_end ∷ (world_in r).known who ∷ human (actors_of r.actors) who ∷ [])
clear_expired_exact = calls.clear_expired_accepted

-- 5f. It removes exactly the claims with one on their chain that has expired at the moment, themselves included, and the others keep their order.
pub clear_expired_removes : (r : Register) (who moment : ℕ) → sound r ≡ true → took r (withdraw (clear_expired who moment)) ≡ true
    → claims_of (changed r (withdraw (clear_expired who moment))).claims ≡ filter (λ c. not (any (expired moment) (chain (λ d. d.id) (λ d. d.parent) (standing r) c.id))) (claims_of r.claims)
clear_expired_removes r who moment = laws.withdraw_removes r (clear_expired who moment)

-- 5g. An accepted withdrawal tells how many went.
pub withdraw_counts : (r : Register) (w : Withdrawal) → took r (withdraw w) ≡ true
    → (withdrawn r w).removed + length (claims_of (changed r (withdraw w)).claims) ≡ length (claims_of r.claims)
withdraw_counts = laws.withdraw_counts
