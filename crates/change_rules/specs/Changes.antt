-- Believed: Grant and the three withdrawals in 01's and 02's words: the tests of each in their order, and the register that it hands back.
use Rattle.std.specs.Prelude.{Bool, false, not, ◌&&◌, cond, List, [], ◌∷◌, ◌++◌, ℕ, ◌+◌, ◌-◌, eqb, leb, ltb, length, set, replicate}
use Rattle.lists.specs.Lists.{any, every}
use Rattle.rights.specs.Rights.{delegating, has_right, has_rights, bars_machine}
use Rattle.register.specs.Limits.{claim_limit, moment_end}
use Rattle.register.specs.Register.{actors_of, resources_of, claims_of, no_claim, with_claims}
use Rattle.register.specs.Chain.{latest, chain, above, circling, current, expired}
use Rattle.register.specs.declared.Claim.{Claim}
use Rattle.register.specs.declared.Register.{Register}
use Rattle.soundness_rules.specs.Sound.{World, world_of, sound, claim_fits, names_stand, root_kept, fewer_left, fresh, stored, human}
use Rattle.refusals.specs.Refusals.{Test, outcome_of, is_accepted}
use Rattle.change_rules.specs.declared.Granted.{Granted}
use Rattle.change_rules.specs.declared.Revoked.{Revoked}
use Rattle.refusals.specs.declared.Refusal.TheVariants.{Unsound, Range, Absent, Stands, Full, NotKeeper, Ownerless, NotByMachine, NoParent, NotHeld, NotLive, NoDelegate, RightLacking, WeightAbove, TooManyHops, Circle, NoClaim, NoGrantor}
use Rattle.soundness_rules.specs.Struck.{strike}

-- the world of a register, and its claims latest first
abbrev pub world_in : Register → World
world_in r = world_of r.version (actors_of r.actors) (resources_of r.resources)

abbrev pub standing : Register → List Claim
standing r = latest (claims_of r.claims)

-- The liveness that a grant asks for, of the chain above the claim, whose first member is the parent: the parent is live, so every claim of
-- that chain is current. The claim itself is not asked.
unfoldable pub source_live : ℕ → List Claim → Bool
source_live moment [] = false
source_live moment (p ∷ higher) = every (current moment) (p ∷ higher)

-- the tests of a grant with a parent, over the chain above the claim: 9 to 16
unfoldable pub parent_tests : ℕ → ℕ → List Claim → Claim → List Test
parent_tests version moment [] c = record { passed = false; refusal = NoParent } ∷ []
parent_tests version moment (p ∷ higher) c =
    record { passed = eqb p.holder c.grantor && eqb p.resource c.resource; refusal = NotHeld }
    ∷ record { passed = source_live moment (p ∷ higher); refusal = NotLive }
    ∷ record { passed = has_right p.rights delegating; refusal = NoDelegate }
    ∷ record { passed = has_rights p.rights c.rights; refusal = RightLacking }
    ∷ record { passed = leb c.weight p.weight; refusal = WeightAbove }
    ∷ record { passed = fewer_left version p higher c; refusal = TooManyHops }
    ∷ record { passed = not (circling (λ d. d.grantor) (λ d. d.holder) (p ∷ higher) c.holder); refusal = Circle }
    ∷ []

-- tests 3 to 8 of a grant, in a world and behind the claims that stand, of which there are n
unfoldable pub world_tests : World → List Claim → ℕ → Claim → List Test
world_tests w earlier n c =
    record { passed = names_stand w c; refusal = Absent }
    ∷ record { passed = fresh earlier c; refusal = Stands }
    ∷ record { passed = ltb n claim_limit; refusal = Full }
    ∷ record { passed = root_kept w c; refusal = NotKeeper }
    ∷ record { passed = not (w.machine c.grantor && w.ownerless c.grantor); refusal = Ownerless }
    ∷ record { passed = not (w.machine c.grantor && bars_machine c.rights); refusal = NotByMachine }
    ∷ []

-- the tests of a grant: 1 to 8 and, with a parent, 9 to 16
unfoldable pub grant_tests : Register → Claim → ℕ → List Test
grant_tests r c moment =
    record { passed = sound r; refusal = Unsound }
    ∷ record { passed = claim_fits r.version c && ltb moment moment_end; refusal = Range }
    ∷ (world_tests (world_in r) (standing r) r.claims.count c
    ++ cond (eqb c.parent 0) [] (parent_tests r.version moment (above (standing r) c) c))

-- the register with a claim at the end of its list
abbrev pub appended : Register → Claim → Register
appended r c = with_claims r (record { list = set r.claims.list r.claims.count c; count = r.claims.count + 1 })

-- the answer of a grant: accepted, the claim as it is stored goes to the end of the list; refused, the register is as it came
unfoldable pub granted : Register → Claim → ℕ → Granted
granted r c moment = record {
  register = cond (is_accepted (outcome_of (grant_tests r c moment))) (appended r (stored r.version (standing r) c)) r;
  outcome = outcome_of (grant_tests r c moment);
}

-- the tests of a revocation: 1, 3, 17 and 18
unfoldable pub revoke_tests : Register → ℕ → ℕ → List Test
revoke_tests r who x =
    record { passed = sound r; refusal = Unsound }
    ∷ record { passed = (world_in r).known who; refusal = Absent }
    ∷ record { passed = any (λ c. eqb c.id x) (standing r); refusal = NoClaim }
    ∷ record { passed = any (λ c. eqb c.grantor who) (chain (λ c. c.id) (λ c. c.parent) (standing r) x); refusal = NoGrantor }
    ∷ []

-- the tests of a clearing of a resource: 1, 3 for the caller, 3 for the resource, and 18 for a caller who is not its keeper
unfoldable pub clear_resource_tests : Register → ℕ → ℕ → List Test
clear_resource_tests r who o =
    record { passed = sound r; refusal = Unsound }
    ∷ record { passed = (world_in r).known who; refusal = Absent }
    ∷ record { passed = (world_in r).listed o; refusal = Absent }
    ∷ record { passed = (world_in r).keeps who o; refusal = NoGrantor }
    ∷ []

-- the tests of a clearing of old claims: 1, 2 for the moment, 3 for the caller, and 18 for a caller who is not human
unfoldable pub clear_expired_tests : Register → ℕ → ℕ → List Test
clear_expired_tests r who moment =
    record { passed = sound r; refusal = Unsound }
    ∷ record { passed = ltb moment moment_end; refusal = Range }
    ∷ record { passed = (world_in r).known who; refusal = Absent }
    ∷ record { passed = human (actors_of r.actors) who; refusal = NoGrantor }
    ∷ []

-- a withdrawal: who revokes, and the id of the claim; who clears, and the resource; who clears what is old, and the moment
pub data Withdrawal : Type 0 where
  revoke : ℕ → ℕ → Withdrawal
  clear_resource : ℕ → ℕ → Withdrawal
  clear_expired : ℕ → ℕ → Withdrawal

-- the claims that it names: the one with the id; those on the resource; those that have expired at the moment
abbrev pub names : Withdrawal → Claim → Bool
names (revoke who x) c = eqb c.id x
names (clear_resource who o) c = eqb c.resource o
names (clear_expired who moment) c = expired moment c

-- its tests
abbrev pub withdraw_tests : Register → Withdrawal → List Test
withdraw_tests r (revoke who x) = revoke_tests r who x
withdraw_tests r (clear_resource who o) = clear_resource_tests r who o
withdraw_tests r (clear_expired who moment) = clear_expired_tests r who moment

-- the claims that are left, in their order, when those that P names go with all that is drawn from them
abbrev pub unstruck : (Claim → Bool) → Register → List Claim
unstruck P r = latest (strike (λ c. c.id) (λ c. c.parent) P (standing r))

-- the register with just these claims: every place behind them holds the zero claim
abbrev pub holding : Register → List Claim → Register
holding r cs = with_claims r (record { list = cs ++ replicate (claim_limit - length cs) no_claim; count = length cs })

-- the answer of a withdrawal: accepted, what it names and every claim with such a one on its chain go; refused, the register is as it came
unfoldable pub withdrawn : Register → Withdrawal → Revoked
withdrawn r w = record {
  register = cond (is_accepted (outcome_of (withdraw_tests r w))) (holding r (unstruck (names w) r)) r;
  outcome = outcome_of (withdraw_tests r w);
  removed = cond (is_accepted (outcome_of (withdraw_tests r w))) (length (standing r) - length (unstruck (names w) r)) 0;
}
