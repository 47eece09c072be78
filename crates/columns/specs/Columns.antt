-- Working: The columns of a register's lists, and chains as places of columns. They are shaped for the code; what they are in 01's words is proved in
-- Laws (`chain_natural`).
use Rattle.std.specs.Prelude.{Bool, false, ◌&&◌, ◌||◌, cond, List, [], ◌∷◌, ◌++◌, map, ℕ, zero, suc, ◌-◌, eqb, ltb, leb, length, take, get_or, replicate, Option, None, Some}
use Rattle.register.specs.Limits.{hop_limit}
use Rattle.register.specs.Register.{no_actor, no_resource}
use Rattle.register.specs.Chain.{chain, current, weighing}
use Rattle.register.specs.declared.Actor.{Actor}
use Rattle.register.specs.declared.Actors.{Actors}
use Rattle.register.specs.declared.Resources.{Resources}
use Rattle.register.specs.declared.Resource.{Resource}
use Rattle.register.specs.declared.Claim.{Claim}
use Rattle.columns.specs.declared.ActorColumns.{ActorColumns}
use Rattle.columns.specs.declared.ResourceColumns.{ResourceColumns}

abbrev pub actor_id : Actor → ℕ
actor_id a = a.id

abbrev pub actor_kind : Actor → ℕ
actor_kind a = a.kind

abbrev pub actor_owner : Actor → ℕ
actor_owner a = a.owner

abbrev pub resource_id : Resource → ℕ
resource_id o = o.id

abbrev pub keeper_of : Resource → ℕ
keeper_of o = o.keeper

abbrev pub public_of : Resource → ℕ
public_of o = o.public

abbrev pub claim_id : Claim → ℕ
claim_id c = c.id

abbrev pub parent_of : Claim → ℕ
parent_of c = c.parent

abbrev pub grantor_of : Claim → ℕ
grantor_of c = c.grantor

abbrev pub holder_of : Claim → ℕ
holder_of c = c.holder

abbrev pub claimed_of : Claim → ℕ
claimed_of c = c.resource

abbrev pub rights_of : Claim → ℕ
rights_of c = c.rights

abbrev pub weight_of : Claim → ℕ
weight_of c = c.weight

abbrev pub expiry_of : Claim → ℕ
expiry_of c = c.expiry

-- the first n of a list, with the same behind them as far as the list goes
unfoldable pub up_to : {A : Type 0} → A → ℕ → List A → List A
up_to none n l = take n l ++ replicate (length l - n) none

-- the actors, the resources that stand, with zeros behind them
abbrev pub actors_to : Actors → Actors
actors_to k = record { list = up_to no_actor k.count k.list; count = k.count }

abbrev pub resources_to : Resources → Resources
resources_to k = record { list = up_to no_resource k.count k.list; count = k.count }

-- the columns of a list of actors, of resources
abbrev pub actor_columns : List Actor → ActorColumns
actor_columns l = record { names = map actor_id l; kinds = map actor_kind l; owners = map actor_owner l }

abbrev pub resource_columns : List Resource → ResourceColumns
resource_columns l = record { reports = map resource_id l; keepers = map keeper_of l; publics = map public_of l }

-- the places below n of an array, the latest first
unfoldable pub places : ℕ → List ℕ
places zero = []
places (suc n) = n ∷ places n

-- the latest place below n at which the column holds x
unfoldable pub latest_place : List ℕ → ℕ → ℕ → Option ℕ
latest_place column zero x = None
latest_place column (suc n) x = let more = latest_place column n x in cond (ltb n (length column) && eqb (get_or column n 0) x) (Some n) more

-- whether a place holds x in one column and y in the other
unfoldable pub beside : List ℕ → List ℕ → ℕ → ℕ → Bool
beside [] other x y = false
beside (a ∷ column) [] x y = false
beside (a ∷ column) (b ∷ other) x y = (eqb x a && eqb y b) || beside column other x y

-- the chain from the parent number p up, as places below n, by the columns of ids and of parent numbers
abbrev pub chain_places : List ℕ → List ℕ → ℕ → ℕ → List ℕ
chain_places ids parents n p = chain (λ j. get_or ids j 0) (λ j. get_or parents j 0) (places n) p

-- the chain above the claim at a place, as places, by the places of the parents. Place j is numbered j + 1, and a parent stands at an earlier
-- place: what is kept for a place and is no earlier one says that there is none.
abbrev pub places_up : List ℕ → ℕ → List ℕ
places_up ups at = chain (λ j. suc j) (λ j. suc (get_or ups j j)) (places at) (suc (get_or ups at at))

-- the number of steps of a chain, where it is not more than the limit
abbrev pub steps_up : {A : Type 0} → List A → Option ℕ
steps_up l = cond (leb (length l) hop_limit) (Some (length l)) None

-- whether the claim at a place is current, by the columns of weights and expiries
abbrev pub current_at : List ℕ → List ℕ → ℕ → ℕ → Bool
current_at weights expiries moment j = current moment (weighing (get_or weights j 0) (get_or expiries j 0))
