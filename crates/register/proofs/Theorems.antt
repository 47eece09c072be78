-- What is proved of the sameness of registers. Assumes nothing.
use Rattle.std.proofs.Common.{◌≡◌, false, map, ℕ}
use Rattle.register.specs.Limits.{tells_left}
use Rattle.register.specs.Register.{with_left, Same, with_claims}
use Rattle.register.specs.declared.Claim.{Claim}
use Rattle.register.specs.declared.Register.{Register}
use Rattle.register.proofs.Unasked as unasked

-- 1. Outside version 2 a register is the same whatever its claims hold as left.
pub left_unasked : (r : Register) → tells_left r.version ≡ false → (n : Claim → ℕ)
    → Same (with_claims r (record { list = map (λ c. with_left (n c) c) r.claims.list; count = r.claims.count })) r
left_unasked = unasked.left_unasked
