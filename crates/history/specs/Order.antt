-- Believed: Two withdrawals, one after the other: what the call that comes second is told, beside what it would be told alone.
use Rattle.refusals.specs.declared.Refusal.{Refusal}
use Rattle.std.specs.Prelude.{◌≡◌, ◌⊎◌, Bool, false, not, ◌&&◌, eqb, Result, Err, Ok}
use Rattle.lists.specs.Lists.{any}
use Rattle.register.specs.Chain.{chain}
use Rattle.register.specs.declared.Claim.{Claim}
use Rattle.register.specs.declared.Register.{Register}
use Rattle.refusals.specs.Refusals.{number_of}
use Rattle.change_rules.specs.Changes.{world_in, standing, Withdrawal, revoke, clear_resource, clear_expired, names}
use Rattle.refusals.specs.declared.Refusal.TheVariants.{NoClaim, NoGrantor}
use Rattle.history.specs.History.{took, withdraw}

-- told the same, or 17
abbrev pub SameOrAbsent : Result Unit Refusal → Result Unit Refusal → Type 0
SameOrAbsent alone second = (second ≡ alone) ⊎ (second ≡ Err NoClaim)

-- what a withdrawal that comes second is told: as alone, or, a revocation only, 17
abbrev pub SecondTold : Withdrawal → Result Unit Refusal → Result Unit Refusal → Type 0
SecondTold (revoke who x) alone second = SameOrAbsent alone second
SecondTold (clear_resource who o) alone second = second ≡ alone
SecondTold (clear_expired who moment) alone second = second ≡ alone

-- accepted, or told 18
abbrev pub AcceptedOrBarred : Result Unit Refusal → Type 0
AcceptedOrBarred alone = (alone ≡ Ok tt) ⊎ (alone ≡ Err NoGrantor)

-- whether an outcome is 17
abbrev pub is_absent : Result Unit Refusal → Bool
is_absent (Ok _) = false
is_absent (Err why) = eqb (number_of why) (number_of NoClaim)

-- whether a call that would not be told 17 alone is told 17 when it comes second
abbrev pub turns_absent : Result Unit Refusal → Result Unit Refusal → Bool
turns_absent alone second = is_absent second && not (is_absent alone)

-- Whether a withdrawal loses its claim where what P names goes with all drawn from it: its caller is known, and the claim to revoke stands
-- with something that P names on its chain, itself included. A clearing has no such claim.
abbrev pub loses : Register → (Claim → Bool) → Withdrawal → Bool
loses r P (revoke who y) = (world_in r).known who && any P (chain (λ c. c.id) (λ c. c.parent) (standing r) y)
loses r P (clear_resource who o) = false
loses r P (clear_expired who moment) = false

-- whether v takes from w its claim: v is accepted, and w loses its claim by what v names
abbrev pub takes : Register → Withdrawal → Withdrawal → Bool
takes r v w = took r (withdraw v) && loses r (names v) w
