-- What is proved of two withdrawals, one after the other, in either order. Assumes nothing.
use Rattle.std.proofs.Common.{◌≡◌, true, ℕ, ◌+◌}
use Rattle.register.specs.declared.Register.{Register}
use Rattle.change_rules.specs.Changes.{Withdrawal, revoke, withdrawn}
use Rattle.history.specs.Order.{SameOrAbsent, AcceptedOrBarred, turns_absent, takes, SecondTold}
use Rattle.history.proofs.Ordering as ordering

-- 6a. Any two withdrawals, each a revocation or a clearing with its own caller and moment, leave the same register in either order, past the counts too: whatever the register and the numbers.
pub withdraw_order : (r : Register) (v w : Withdrawal)
    → (withdrawn (withdrawn r v).register w).register ≡ (withdrawn (withdrawn r w).register v).register
withdraw_order = ordering.withdraw_order

-- 6b. The one that comes second is told what it would be told alone or, a revocation only, 17.
pub withdraw_second : (r : Register) (v w : Withdrawal) → SecondTold w (withdrawn r w).outcome (withdrawn (withdrawn r v).register w).outcome
withdraw_second = ordering.withdraw_second

-- 6c. That changes to 17 exactly where the first is accepted, the second is a revocation by a known caller, and its claim stands with something that the first names on its chain, itself included.
pub withdraw_told : (r : Register) (v w : Withdrawal)
    → turns_absent (withdrawn r w).outcome (withdrawn (withdrawn r v).register w).outcome ≡ takes r v w
withdraw_told = ordering.withdraw_told

-- 6d. The numbers removed come to the same sum in either order.
pub withdraw_sum : (r : Register) (v w : Withdrawal)
    → (withdrawn r v).removed + (withdrawn (withdrawn r v).register w).removed ≡ (withdrawn r w).removed + (withdrawn (withdrawn r w).register v).removed
withdraw_sum = ordering.withdraw_sum

-- 6e. A call that changes to 17 would be accepted alone, or told 18.
pub withdraw_lost : (r : Register) (v w : Withdrawal) → takes r v w ≡ true → AcceptedOrBarred (withdrawn r w).outcome
withdraw_lost = ordering.withdraw_lost

-- 7a. So two revocations, of any two claims by any callers, leave the same register in either order.
pub revoke_order : (r : Register) (v x w y : ℕ)
    → (withdrawn (withdrawn r (revoke v x)).register (revoke w y)).register ≡ (withdrawn (withdrawn r (revoke w y)).register (revoke v x)).register
revoke_order r v x w y = withdraw_order r (revoke v x) (revoke w y)

-- 7b. And the one that comes second is told what it would be told alone, or 17.
pub revoke_second : (r : Register) (v x w y : ℕ)
    → SameOrAbsent (withdrawn r (revoke w y)).outcome (withdrawn (withdrawn r (revoke v x)).register (revoke w y)).outcome
revoke_second r v x w y = withdraw_second r (revoke v x) (revoke w y)
