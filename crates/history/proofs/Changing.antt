-- When a withdrawal is accepted, test by test, and the register that a call hands back. Assumes nothing.
use Rattle.std.proofs.Common.{◌≡◌, ap, sym, ◌∙◌, Bool, true, false, cond, List, [], ◌∷◌, ℕ, ◌-◌, eqb, ltb, length}
use Rattle.lists.specs.Lists.{any, ands}
use Rattle.lists.specs.Each.{ands_out}
use Rattle.register.specs.Limits.{moment_end}
use Rattle.register.specs.Register.{actors_of}
use Rattle.register.specs.Chain.{chain}
use Rattle.register.specs.declared.Register.{Register}
use Rattle.soundness_rules.specs.Sound.{sound, stored, human}
use Rattle.change_rules.specs.Changes.{world_in, standing, appended, granted, revoke_tests, unstruck, holding, Withdrawal, revoke, clear_resource, clear_expired, names, clear_resource_tests, clear_expired_tests, withdrawn}
use Rattle.change_rules.proofs.Grants.{every_passed}
use Rattle.history.specs.History.{Change, grant, changed, took, withdraw}

-- what tests 1, 3, 17 and 18 of a revocation ask
abbrev pub revoke_asks : Register → ℕ → ℕ → List Bool
revoke_asks r who x =
    sound r
    ∷ (world_in r).known who
    ∷ any (λ c. eqb c.id x) (standing r)
    ∷ any (λ c. eqb c.grantor who) (chain (λ c. c.id) (λ c. c.parent) (standing r) x)
    ∷ []

pub revoke_accepted : (r : Register) (who x : ℕ) → took r (withdraw (revoke who x)) ≡ ands (revoke_asks r who x)
unfolding withdrawn revoke_tests
revoke_accepted r who x = every_passed (revoke_tests r who x)

-- what tests 1, 3 and 18 of a clearing of a resource ask, and tests 1, 2, 3 and 18 of a clearing of old claims
abbrev pub clear_resource_asks : Register → ℕ → ℕ → List Bool
clear_resource_asks r who o = sound r ∷ (world_in r).known who ∷ (world_in r).listed o ∷ (world_in r).keeps who o ∷ []

pub clear_resource_accepted : (r : Register) (who o : ℕ) → took r (withdraw (clear_resource who o)) ≡ ands (clear_resource_asks r who o)
unfolding withdrawn clear_resource_tests
clear_resource_accepted r who o = every_passed (clear_resource_tests r who o)

abbrev pub clear_expired_asks : Register → ℕ → ℕ → List Bool
clear_expired_asks r who moment = sound r ∷ ltb moment moment_end ∷ (world_in r).known who ∷ human (actors_of r.actors) who ∷ []

pub clear_expired_accepted : (r : Register) (who moment : ℕ) → took r (withdraw (clear_expired who moment)) ≡ ands (clear_expired_asks r who moment)
unfolding withdrawn clear_expired_tests
clear_expired_accepted r who moment = every_passed (clear_expired_tests r who moment)

-- only in a sound register is a withdrawal accepted
pub took_sound : (r : Register) (w : Withdrawal) → took r (withdraw w) ≡ true → sound r ≡ true
took_sound r (revoke who x) e = (ands_out (revoke_asks r who x) (sym (revoke_accepted r who x) ∙ e)).0
took_sound r (clear_resource who o) e = (ands_out (clear_resource_asks r who o) (sym (clear_resource_accepted r who o) ∙ e)).0
took_sound r (clear_expired who moment) e = (ands_out (clear_expired_asks r who moment) (sym (clear_expired_accepted r who moment) ∙ e)).0

-- the register that a withdrawal hands back
pub withdrawn_register : (r : Register) (w : Withdrawal) → took r (withdraw w) ≡ true → changed r (withdraw w) ≡ holding r (unstruck (names w) r)
unfolding withdrawn
withdrawn_register r w e = ap (λ b. cond b (holding r (unstruck (names w) r)) r) e

pub withdrawn_removed : (r : Register) (w : Withdrawal) → took r (withdraw w) ≡ true
    → (withdrawn r w).removed ≡ length (standing r) - length (unstruck (names w) r)
unfolding withdrawn
withdrawn_removed r w e = ap (λ b. cond b (length (standing r) - length (unstruck (names w) r)) 0) e

-- refused, it is the register as it came
pub refused_register : (r : Register) (k : Change) → took r k ≡ false → changed r k ≡ r
unfolding granted withdrawn
refused_register r (grant c moment) e = ap (λ b. cond b (appended r (stored r.version (standing r) c)) r) e
refused_register r (withdraw w) e = ap (λ b. cond b (holding r (unstruck (names w) r)) r) e

pub refused_removed : (r : Register) (w : Withdrawal) → took r (withdraw w) ≡ false → (withdrawn r w).removed ≡ 0
unfolding withdrawn
refused_removed r w e = ap (λ b. cond b (length (standing r) - length (unstruck (names w) r)) 0) e
