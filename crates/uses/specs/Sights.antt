-- Working: What the gate sees of a register for an actor at a moment, by columns: what the passes over the uses are handed. That a use is then judged in 01's
-- words is `use_natural` of SightsLaws.
use Rattle.std.specs.Prelude.{Bool, not, ◌&&◌, cond, List, [], map, ℕ, eqb, get_or, Option, None, Some}
use Rattle.register.specs.Register.{actors_of}
use Rattle.register.specs.declared.Register.{Register}
use Rattle.soundness_rules.specs.Sound.{is_machine}
use Rattle.columns.specs.Columns.{actor_id, actor_owner, resource_id, public_of, claim_id, parent_of, claimed_of, rights_of, latest_place, weight_of, expiry_of}
use Rattle.actions.specs.declared.Usage.{Usage}
use Rattle.lookup.specs.Finding.{places_of, earlier_places}
use Rattle.coverage.specs.Gathering.{spot_in, cover_places, ends_of}
use Rattle.coverage.specs.Laid.{laid}
use Rattle.uses.specs.Uses.{Sight}

-- the owner's number of the actor at a place, 0 for none
abbrev pub owner_at : List ℕ → Option ℕ → ℕ
owner_at owners (Some j) = get_or owners j 0
owner_at owners None = 0

-- the owner's number of the actor numbered x
abbrev pub owner_number : Register → ℕ → ℕ
owner_number r x = owner_at (map actor_owner r.actors.list) (latest_place (map actor_id r.actors.list) r.actors.count x)

-- whether the actor numbered x is a machine with an owner
abbrev pub owned_in : Register → ℕ → Bool
owned_in r x = is_machine (actors_of r.actors) x && not (eqb (owner_number r x) 0)

-- the place of each claim's resource, 256 for none
abbrev pub spots_of : Register → List ℕ
spots_of r =
    places_of (map resource_id r.resources.list) r.resources.count (map claimed_of r.claims.list) r.claims.count

-- the place of each claim's parent among the claims before it
abbrev pub ups_of : Register → List ℕ
ups_of r = earlier_places (map claim_id r.claims.list) (map parent_of r.claims.list) r.claims.count

-- the end of each claim
abbrev pub ends_in : Register → List ℕ
ends_in r = ends_of (map weight_of r.claims.list) (map expiry_of r.claims.list) (ups_of r) r.claims.count

-- the columns of a register, with the gathered claims of the actor numbered x and of its owner, which a machine alone is asked for
abbrev pub sight_of : Register → ℕ → ℕ → Sight
sight_of r moment x = record {
  own = cover_places r.claims x moment;
  theirs = cond (owned_in r x) (cover_places r.claims (owner_number r x) moment) [];
  owned = owned_in r x;
  rights = map rights_of r.claims.list;
  spots = spots_of r;
  bytes = (laid r.resources).bytes;
  lens = (laid r.resources).lens;
  publics = map public_of r.resources.list;
  ups = ups_of r;
}

-- the place of the used resource
abbrev pub spot_for : Register → Usage → ℕ
spot_for r u = spot_in (map resource_id r.resources.list) r.resources.count u.resource
