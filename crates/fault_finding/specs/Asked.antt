-- Working: The tests of a record in the parts that the code decides, where it is told who is named and whether the id is taken; the fault of the
-- version and the counts by itself. They are shaped for the code; that they are those of `faults` is proved in proofs/Parts and proofs/Claims
-- (`actor_asked_lem`, `resource_asked_lem`, `limits_told`, `higher_told`).
use Rattle.std.specs.Prelude.{◌≡◌, Bool, true, false, not, ◌&&◌, ◌||◌, cond, List, [], ◌∷◌, map, ℕ, ◌<◌, eqb, leb, length, Option}
use Rattle.lists.specs.Lists.{every}
use Rattle.register.specs.Limits.{actor_limit, resource_limit, claim_limit, id_limit, path_limit, version_one, version_two, path_byte_least, path_byte_greatest, human_kind, machine_kind, ranged, is_id}
use Rattle.register.specs.Register.{path_of}
use Rattle.register.specs.declared.Actor.{Actor}
use Rattle.register.specs.declared.Actors.{Actors}
use Rattle.register.specs.declared.Resource.{Resource}
use Rattle.register.specs.declared.Resources.{Resources}
use Rattle.register.specs.declared.Claim.{Claim}
use Rattle.columns.specs.Sheet.{sheet_limit, claim_at}
use Rattle.lookup.specs.Walks.{up_from}
use Rattle.soundness_rules.specs.Sound.{sound}
use Rattle.soundness.specs.Judged.{register_by}
use Rattle.refusals.specs.Refusals.{Test}
use Rattle.refusals.specs.declared.Refusal.{Refusal}
use Rattle.refusals.specs.declared.Refusal.TheVariants.{Range, Doubled, BadOwner, BadKeeper}
use Rattle.faults.specs.Faults.{higher_tests, FirstFault, no_fault, bad_version, many_actors, many_resources, many_claims}

-- the three tests of an actor or a resource: its fields, who it names, its id
abbrev pub three_tests : Bool → Bool → Refusal → Bool → List Test
three_tests fit named other taken =
    record { passed = fit; refusal = Range } ∷ record { passed = named; refusal = other } ∷ record { passed = not taken; refusal = Doubled } ∷ []

-- of an actor, where it is told whether its owner is a human of the register, and whether its id is taken
abbrev pub actor_asked : Bool → Bool → Actor → List Test
actor_asked owned taken a =
    three_tests (is_id a.id && ((eqb a.kind human_kind || eqb a.kind machine_kind) && leb a.owner id_limit))
    (eqb a.owner 0 || (eqb a.kind machine_kind && owned)) BadOwner taken

-- of a resource, where it is told whether its keeper is a human of the register, and whether its id is taken
abbrev pub resource_asked : Bool → Bool → Resource → List Test
resource_asked kept taken o =
    three_tests (is_id o.id && ((leb o.public 1 && (is_id o.keeper && leb o.len path_limit)) && every (ranged path_byte_least path_byte_greatest) (path_of o)))
    kept BadKeeper taken

-- of a claim with a parent, over the chain above it as the claims of a sheet and the places of the parents have it; of a root there are none
abbrev pub higher_asked : ℕ → List ℕ → List ℕ → Option ℕ → Claim → List Test
higher_asked version s ups place c = cond (eqb c.parent 0) [] (higher_tests version (map (claim_at s) (up_from ups place)) c)

-- the fault of the version and of the counts of actors, resources and claims
abbrev pub limits_fault : ℕ → ℕ → ℕ → ℕ → FirstFault
limits_fault version h m n =
    cond (ranged version_one version_two version)
    (cond (leb h actor_limit) (cond (leb m resource_limit) (cond (leb n claim_limit) no_fault many_claims) many_resources) many_actors)
    bad_version

-- the register of a sheet is sound with its first `low` claims, and not with its first `high`
pub record Turning (version : ℕ) (a : Actors) (o : Resources) (s : List ℕ) (low high : ℕ) : Type 0 where
  pub long : length s ≡ sheet_limit
  pub holds : sound (register_by version a o s low) ≡ true
  pub fails : sound (register_by version a o s high) ≡ false
  pub apart : low < high
