-- What is found by columns: what was looked up, put together, decides where something is against it; else what is asked then does. Assumes
-- nothing.
use Rattle.std.proofs.Common.{◌≡◌, sym, ap, ◌∙◌, Bool, true, false, ◌&&◌, List, ℕ, eqb, leb, length, take}
use Rattle.register.specs.Limits.{actor_limit, resource_limit, claim_limit, version_one, version_two, ranged}
use Rattle.register.specs.Chain.{latest}
use Rattle.columns.specs.declared.ActorColumns.{ActorColumns}
use Rattle.columns.specs.declared.ResourceColumns.{ResourceColumns}
use Rattle.columns.specs.Sheet.{sheet_limit, column_of, claims_in, id_column, parent_column, resource_column}
use Rattle.lookup.specs.Finding.{earlier_places, places_found, earlier_found}
use Rattle.lookup.specs.declared.Found.{Found}
use Rattle.claim_judging.specs.Over.{stand_over}
use Rattle.soundness.specs.World.{actors_fit, human_ids, keepers_fit}
use Rattle.soundness.specs.Judged.{so_far, looked_in, findings_over, claims_alone, columns_sound}
use Rattle.soundness.specs.Whole.{Begun, begun}
use Rattle.soundness.specs.declared.Findings.{Findings}
use Rattle.soundness.specs.declared.Looked.{Looked}

module _ (h : ℕ) (reports : List ℕ) (m : ℕ) (s : List ℕ) (n : ℕ) where
  pub looked_told : {ids parents claimed : List ℕ} {earlier reported : Found} → ids ≡ column_of id_column s → parents ≡ column_of parent_column s → claimed ≡ column_of resource_column s
      → earlier ≡ earlier_found ids parents n → reported ≡ places_found reports m claimed n
      → ◌≡◌ {A = Looked} (record {
        begun = (((leb n claim_limit && leb h actor_limit) && leb m resource_limit) && (earlier.distinct && reported.distinct)) && eqb (length s) sheet_limit;
        ups = earlier.places;
        spots = reported.places;
      }) (looked_in h reports m s n)
  unfolding earlier_found places_found
  looked_told of-ids of-parents of-claimed of-earlier of-reported = rw (of-earlier, of-reported, of-ids, of-parents, of-claimed)

  -- by what was looked up
  module _ {looked : Looked} (told : looked ≡ looked_in h reports m s n) where
    pub begun_told : looked.begun ≡ true → Begun h reports m s n
    begun_told e = begun h reports m s n (sym (ap (λ k. k.begun) told) ∙ e)

    pub ups_told : looked.ups ≡ earlier_places (column_of id_column s) (column_of parent_column s) n
    ups_told = ap (λ k. k.ups) told

-- what is found
module _ (version : ℕ) (actors : ActorColumns) (h : ℕ) (resources : ResourceColumns) (m : ℕ) (alone : Bool) (s : List ℕ) (n : ℕ)
    {looked : Looked} (told : looked ≡ looked_in h resources.reports m s n) where
  abbrev found : Bool → Findings
  found b = record { sound = b; ups = looked.ups; spots = looked.spots; actors = actors; resources = resources }

  starts_told : (b : Bool) → looked.begun ≡ b → so_far h resources.reports m s n ≡ b
  starts_told b e = sym (ap (λ k. k.begun) told) ∙ e

  -- something is against it
  pub refused_told : looked.begun ≡ false → found false ≡ findings_over version actors h resources m alone s n
  unfolding columns_sound
  refused_told e = rw (starts_told false e, told)

  -- nothing is: what is asked then decides
  pub judged_told : looked.begun ≡ true → {x y z w : Bool}
      → x ≡ actors_fit actors.names actors.kinds actors.owners h
      → y ≡ keepers_fit (human_ids actors.names actors.kinds h) h resources.keepers m
      → z ≡ stand_over version (latest (take n (claims_in s)))
      → w ≡ claims_alone version actors h resources.keepers looked.spots s n
      → found (((((ranged version_one version_two version && x) && alone) && y) && z) && w) ≡ findings_over version actors h resources m alone s n
  unfolding columns_sound
  judged_told e of-x of-y of-z of-w = rw (of-x, of-y, of-z, of-w, starts_told true e, told)
