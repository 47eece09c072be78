-- Working: The actors and the resources by columns: who is a human, and what they are asked but for distinct ids. They are shaped for the code; what
-- they are in 01's words is proved in proofs/WorldLaws (`actors_natural`, `resources_natural`).
use Rattle.std.specs.Prelude.{Bool, true, cond, List, [], ◌∷◌, ◌++◌, ℕ, ◌-◌, min, eqb, ltb, length, take, get_or, replicate}
use Rattle.lists.specs.Lists.{every, counted}
use Rattle.register.specs.Limits.{actor_limit, resource_limit, claim_limit, human_kind}
use Rattle.register.specs.Register.{resources_of}
use Rattle.register.specs.declared.Actor.{Actor}
use Rattle.register.specs.declared.Resource.{Resource}
use Rattle.register.specs.declared.Resources.{Resources}
use Rattle.columns.specs.Columns.{beside}
use Rattle.lookup.specs.Finding.{places_of}
use Rattle.soundness_rules.specs.Sound.{actor_fits, resource_fits}

-- whether x is a human's number, by the first n of the columns of ids and kinds
abbrev pub human_in : List ℕ → List ℕ → ℕ → ℕ → Bool
human_in names kinds n x = beside (take n names) (take n kinds) x human_kind

-- the actors that the columns of ids, kinds and owners are those of
unfoldable pub actors_in : List ℕ → List ℕ → List ℕ → List Actor
actors_in [] kinds owners = []
actors_in (x ∷ ids) [] owners = []
actors_in (x ∷ ids) (k ∷ kinds) [] = []
actors_in (x ∷ ids) (k ∷ kinds) (o ∷ owners) = record { id = x; kind = k; owner = o } ∷ actors_in ids kinds owners

-- whether each of the first n actors is as it should be by itself
unfoldable pub actors_fit : List ℕ → List ℕ → List ℕ → ℕ → Bool
actors_fit ids kinds owners n = every (actor_fits (human_in ids kinds n)) (take n (actors_in ids kinds owners))

-- a human's id, and 0 of any other
abbrev pub human_id : ℕ → ℕ → ℕ
human_id x kind = cond (eqb kind human_kind) x 0

unfoldable pub humans_in : List ℕ → List ℕ → List ℕ
humans_in [] kinds = []
humans_in (x ∷ ids) [] = []
humans_in (x ∷ ids) (k ∷ kinds) = human_id x k ∷ humans_in ids kinds

-- the humans' ids of the first n actors, each at its place in an array
unfoldable pub human_ids : List ℕ → List ℕ → ℕ → List ℕ
human_ids ids kinds n =
    let top = min n (min actor_limit (min (length ids) (length kinds))) in take top (humans_in ids kinds) ++ replicate (actor_limit - top) 0

-- what a read of a list of resources gives past its end
abbrev pub beyond : Resource
beyond = record { id = 0; public = 0; keeper = 0; len = 0; path = [] }

-- whether each resource that stands is as it should be by itself, its keeper aside
unfoldable pub resources_alone : Resources → Bool
resources_alone o = every (resource_fits (λ x. true)) (resources_of o)

-- whether each of the first m keepers has a place among the first h of the humans' ids
unfoldable pub keepers_fit : List ℕ → ℕ → List ℕ → ℕ → Bool
keepers_fit humans h keepers m =
    let top = min m resource_limit in every (λ i. ltb (get_or (places_of humans h keepers top) i 0) claim_limit) (counted 0 top)
