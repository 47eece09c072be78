-- Working: The world by columns, and a claim by what was looked up of it. They are shaped for the code; what they are in 01's words is proved in AloneLaws
-- (`alone_natural`).
use Rattle.std.specs.Prelude.{Bool, not, ◌&&◌, ◌||◌, List, [], ◌∷◌, map, ℕ, eqb, ltb, take, get_or}
use Rattle.lists.specs.Lists.{any, ands}
use Rattle.rights.specs.Rights.{bars_machine}
use Rattle.register.specs.Limits.{claim_limit, machine_kind}
use Rattle.register.specs.declared.Actor.{Actor}
use Rattle.register.specs.declared.Resource.{Resource}
use Rattle.register.specs.declared.Claim.{Claim}
use Rattle.columns.specs.Columns.{actor_id, actor_kind, actor_owner, resource_id, keeper_of, latest_place, beside}
use Rattle.lookup.specs.Finding.{place_number}
use Rattle.soundness_rules.specs.Sound.{World, claim_fits}

-- the world of a version by the first n of the columns of the actors, and the first m of those of the resources
abbrev pub world_by : ℕ → List ℕ → List ℕ → List ℕ → ℕ → List ℕ → List ℕ → ℕ → World
world_by version names kinds owners n reports keepers m = record {
  known = λ x. any (eqb x) (take n names);
  machine = λ x. beside (take n names) (take n kinds) x machine_kind;
  ownerless = λ x. beside (take n names) (take n owners) x 0;
  listed = λ x. any (eqb x) (take m reports);
  keeps = λ g x. beside (take m reports) (take m keepers) x g;
  version = version;
}

-- what was looked up of a claim: the places of its grantor, holder and resource, the grantor's kind and owner, the resource's keeper
pub record Found : Type 0 where
  pub grantor : ℕ
  pub holder : ℕ
  pub report : ℕ
  pub kind : ℕ
  pub owner : ℕ
  pub keeper : ℕ

-- the place of a number among the first n of a column, the claims' limit for nowhere
abbrev pub place_in : List ℕ → ℕ → ℕ → ℕ
place_in column n x = place_number claim_limit (latest_place column n x)

-- what is looked up of a claim among the first n actors and the first m resources
abbrev pub found_in : List Actor → ℕ → List Resource → ℕ → Claim → Found
found_in actors n resources m c = record {
  grantor = place_in (map actor_id actors) n c.grantor;
  holder = place_in (map actor_id actors) n c.holder;
  report = place_in (map resource_id resources) m c.resource;
  kind = get_or (map actor_kind actors) (place_in (map actor_id actors) n c.grantor) 0;
  owner = get_or (map actor_owner actors) (place_in (map actor_id actors) n c.grantor) 0;
  keeper = get_or (map keeper_of resources) (place_in (map resource_id resources) m c.resource) 0;
}

-- what a claim whose numbers are in range is asked by itself, by what was looked up of it: a place that is not below the claims' limit is none
unfoldable pub named_at : Claim → Found → Bool
named_at c f = ands (
    ltb f.grantor claim_limit
    ∷ ltb f.holder claim_limit
    ∷ ltb f.report claim_limit
    ∷ (not (eqb c.parent 0) || eqb c.grantor f.keeper)
    ∷ (not (eqb machine_kind f.kind) || (not (eqb 0 f.owner) && not (bars_machine c.rights)))
    ∷ [])

-- what a claim is asked by itself, by what was looked up of it
abbrev pub alone_at : ℕ → Claim → Found → Bool
alone_at version c f = claim_fits version c && named_at c f
