-- Working: Who may make a use, by the columns of a register: the holders of the claims that cover it, each at the claim's place. Those who may are the
-- register's (`permitted_natural`).
use Rattle.std.specs.Prelude.{Bool, false, not, ◌&&◌, ◌||◌, cond, List, ℕ, min, eqb, ltb, get_or, replicate}
use Rattle.lists.specs.Lists.{any}
use Rattle.lists.specs.Fills.{filled_by}
use Rattle.rights.specs.Rights.{has_right}
use Rattle.register.specs.Limits.{resource_limit, claim_limit, machine_kind}
use Rattle.register.specs.declared.Actor.{Actor}
use Rattle.register.specs.declared.Resources.{Resources}
use Rattle.coverage.specs.Laws.{containing}

-- of each resource whether its path contains that of the one at a place; of none where none stands there
unfoldable pub containers_of : Resources → ℕ → List Bool
containers_of o spot =
    cond (ltb spot (min o.count resource_limit)) (filled_by resource_limit (λ k. containing o k spot) (min o.count resource_limit) false) (replicate resource_limit false)

-- the holder of a claim that has not ended, has the right and is marked; 0 of any other
abbrev pub coverer_of : ℕ → ℕ → ℕ → Bool → ℕ → ℕ → ℕ
coverer_of holder end rights marked right moment = cond (marked && (ltb moment end && has_right rights right)) holder 0

-- those of the first n claims, each at its place, and 0 behind them
unfoldable pub coverers_of : List ℕ → List ℕ → List ℕ → List ℕ → List Bool → ℕ → ℕ → ℕ → List ℕ
coverers_of holders rights ends spots marks n right moment =
    filled_by claim_limit (λ j. coverer_of (get_or holders j 0) (get_or ends j 0) (get_or rights j 0) (get_or marks (get_or spots j 0) false) right moment) (min n claim_limit) 0

-- whether x covers the use: it is open to all, or x is one of those holders
abbrev pub covers_by : Bool → List ℕ → ℕ → Bool
covers_by freely coverers x = freely || any (eqb x) coverers

-- an actor covers it and, where it is a machine, has an owner who covers it too
abbrev pub may_by : Bool → List ℕ → Actor → Bool
may_by freely coverers a = covers_by freely coverers a.id && (not (eqb machine_kind a.kind) || (not (eqb a.owner 0) && covers_by freely coverers a.owner))
