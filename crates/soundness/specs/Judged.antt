-- Working: The judgement of a register whose claims stand in a sheet. It is shaped for the code; what it is in 01's words is proved in Laws
-- (`register_same`).
use Rattle.std.specs.Prelude.{Bool, ◌&&◌, List, ℕ, ◌+◌, ◌*◌, min, eqb, leb, ltb, length, take, get_or}
use Rattle.lists.specs.Lists.{every, counted, distinct}
use Rattle.register.specs.Limits.{actor_limit, resource_limit, claim_limit, version_one, version_two, moment_end, ranged}
use Rattle.register.specs.Chain.{latest}
use Rattle.register.specs.declared.Actors.{Actors}
use Rattle.register.specs.declared.Resources.{Resources}
use Rattle.register.specs.declared.Register.{Register}
use Rattle.columns.specs.Columns.{actors_to, resources_to, actor_columns, resource_columns}
use Rattle.columns.specs.Sheet.{sheet_limit, column_of, claim_at, claims_in, id_column, parent_column, grantor_column, holder_column, resource_column}
use Rattle.columns.specs.declared.ActorColumns.{ActorColumns}
use Rattle.columns.specs.declared.ResourceColumns.{ResourceColumns}
use Rattle.lookup.specs.Finding.{asked, places_of, earlier_places}
use Rattle.soundness_rules.specs.Sound.{claim_fits, sound}
use Rattle.claim_judging.specs.Alone.{Found, alone_at}
use Rattle.claim_judging.specs.Over.{stand_over}
use Rattle.soundness.specs.World.{actors_fit, human_ids, keepers_fit}
use Rattle.soundness.specs.declared.Findings.{Findings}
use Rattle.soundness.specs.declared.Looked.{Looked}

-- the register of a version, of actors and resources, and of the first n claims of a sheet
abbrev pub register_by : ℕ → Actors → Resources → List ℕ → ℕ → Register
register_by version a o s n = record { actors = a; resources = o; claims = record { list = claims_in s; count = n }; version = version }

-- whether nothing is against soundness so far, by the counts and the ids of the resources: the counts are within their limits, the ids of the claims
-- and of the resources distinct, and the sheet is one
abbrev pub so_far : ℕ → List ℕ → ℕ → List ℕ → ℕ → Bool
so_far h reports m s n =
    (((leb n claim_limit && leb h actor_limit) && leb m resource_limit)
    && (distinct (take (asked n (column_of parent_column s)) (column_of id_column s)) && distinct (take (min m claim_limit) reports)))
    && eqb (length s) sheet_limit

-- what is looked up by the ids of the resources and the claims: whether nothing is against soundness so far, the place of each claim's parent before it
-- and that of its resource, the claims' limit for none
abbrev pub looked_in : ℕ → List ℕ → ℕ → List ℕ → ℕ → Looked
looked_in h reports m s n = record {
  begun = so_far h reports m s n;
  ups = earlier_places (column_of id_column s) (column_of parent_column s) n;
  spots = places_of reports m (column_of resource_column s) n;
}

-- what is found by the columns of actors and resources, with whether it is sound: the place of each claim's parent before it and that of its resource, the
-- claims' limit for none, and these columns
abbrev pub findings_in : ActorColumns → ResourceColumns → ℕ → List ℕ → ℕ → Bool → Findings
findings_in actors resources m s n whole = record {
  sound = whole;
  ups = earlier_places (column_of id_column s) (column_of parent_column s) n;
  spots = places_of resources.reports m (column_of resource_column s) n;
  actors = actors;
  resources = resources;
}

-- what is found of the register of a version, actors and resources, by the columns of those that stand
abbrev pub findings_by : ℕ → Actors → Resources → List ℕ → ℕ → Findings
findings_by version a o s n =
    findings_in (actor_columns (actors_to a).list) (resource_columns (resources_to o).list) o.count s n (eqb (length s) sheet_limit && sound (register_by version a o s n))

-- what was looked up of the claim at a place: the places of its grantor, its holder and its resource, and what stands there
abbrev pub found_at : ActorColumns → List ℕ → List ℕ → List ℕ → List ℕ → ℕ → Found
found_at actors keepers granting holding spots i = record {
  grantor = get_or granting i 0;
  holder = get_or holding i 0;
  report = get_or spots i 0;
  kind = get_or actors.kinds (get_or granting i 0) 0;
  owner = get_or actors.owners (get_or granting i 0) 0;
  keeper = get_or keepers (get_or spots i 0) 0;
}

-- whether the expiry at a place is a moment, by the two columns that keep it
abbrev pub expiry_fits : List ℕ → List ℕ → ℕ → Bool
expiry_fits expiries late i = ltb (get_or expiries i 0 + moment_end * get_or late i 0) moment_end

-- whether the numbers of the claim at a place of a sheet are in range
abbrev pub fits_at : ℕ → List ℕ → ℕ → Bool
fits_at version s i = claim_fits version (claim_at s i)

-- whether the ids of the first h actors are distinct, and each of the first n claims of a sheet is as it should be by itself, its grantor and its
-- holder looked up among those
unfoldable pub claims_alone : ℕ → ActorColumns → ℕ → List ℕ → List ℕ → List ℕ → ℕ → Bool
claims_alone version actors h keepers spots s n =
    let granting = places_of actors.names h (column_of grantor_column s) n in
    let holding = places_of actors.names h (column_of holder_column s) n in
    distinct (take (min h claim_limit) actors.names)
    && every (λ i. alone_at version (claim_at s i) (found_at actors keepers granting holding spots i)) (counted 0 n)

-- whether what the columns of the first h actors and the first m resources and the first n claims of a sheet say is sound, where `alone` says
-- whether each resource is as it should be by itself, its keeper aside
unfoldable pub columns_sound : ℕ → ActorColumns → ℕ → ResourceColumns → ℕ → Bool → List ℕ → ℕ → Bool
columns_sound version actors h resources m alone s n =
    so_far h resources.reports m s n
    && (((((ranged version_one version_two version && actors_fit actors.names actors.kinds actors.owners h) && alone)
    && keepers_fit (human_ids actors.names actors.kinds h) h resources.keepers m)
    && stand_over version (latest (take n (claims_in s))))
    && claims_alone version actors h resources.keepers (places_of resources.reports m (column_of resource_column s) n) s n)

-- what is found by these columns
abbrev pub findings_over : ℕ → ActorColumns → ℕ → ResourceColumns → ℕ → Bool → List ℕ → ℕ → Findings
findings_over version actors h resources m alone s n = findings_in actors resources m s n (columns_sound version actors h resources m alone s n)
