-- Laws: The judgement of a whole register by its columns: the tests that are asked first, what is left to ask where they pass, and that both
-- come to 01's soundness (`columns_natural`). Assumes nothing.
use Rattle.std.specs.Prelude.{◌≡◌, refl, Bool, false, ◌&&◌, List, [], ◌∷◌, map, ℕ, ◌≤◌, ◌<◌, min, eqb, leb, length, take, get_or}
use Rattle.std.proofs.Common.{sym, ◌∙◌, arith, eq-eqb, eqb-true, le-leb, leb-true}
use Rattle.std.proofs.Math.Path.{ap}
use Rattle.std.proofs.Math.Bool.{true, and_assoc}
use Rattle.std.proofs.lemmas.List.{length-map}
use Rattle.std.proofs.Math.ListN.{get_or-map}
use Rattle.lists.specs.Tests.{cases, clash, and_left, and_right}
use Rattle.lists.specs.Lists.{every, ands, distinct}
use Rattle.lists.specs.Each.{every_reverse, take_map}
use Rattle.register.specs.Limits.{actor_limit, resource_limit, claim_limit, version_one, version_two, ranged}
use Rattle.register.specs.Register.{actors_of, resources_of, no_actor, no_resource}
use Rattle.register.specs.Chain.{latest}
use Rattle.register.specs.declared.Actor.{Actor}
use Rattle.register.specs.declared.Resource.{Resource}
use Rattle.register.specs.declared.Actors.{Actors}
use Rattle.register.specs.declared.Resources.{Resources}
use Rattle.columns.specs.Columns.{actor_id, actor_kind, actor_owner, resource_id, keeper_of, claim_id, actors_to, resources_to, actor_columns, resource_columns}
use Rattle.columns.specs.Laws.{up_to_length, up_to_first, up_to_at}
use Rattle.columns.specs.Sheet.{sheet_limit, column_of, claims_in, id_column, parent_column, resource_column}
use Rattle.columns.specs.SheetLaws.{claims_in_length, column_natural, column_length}
use Rattle.lookup.specs.Finding.{asked, places_of}
use Rattle.soundness_rules.specs.Sound.{human, world_of, actor_fits, resource_fits, alone, sound_actors, sound_resources, within_limits, sound}
use Rattle.soundness_rules.proofs.Registers.{sound_out, within_limits_in}
use Rattle.claim_judging.specs.Over.{stand_over}
use Rattle.soundness.specs.World.{actors_fit, human_ids, beyond, resources_alone, keepers_fit}
use Rattle.soundness.specs.WorldLaws.{actors_natural, resources_natural}
use Rattle.soundness.specs.Judged.{register_by, so_far, findings_in, findings_by, claims_alone, columns_sound, findings_over}
use Rattle.soundness.specs.Standing.{stand_distinct}
use Rattle.soundness.specs.Judging.{sound_apart, claims_alone_natural}

-- the tests in the order of the code are those of 01, where the ids of the resources are distinct and the counts within their limits
regrouped : (v a b c d e : Bool) → ((((v && a) && b) && c) && (d && e)) ≡ ands (v ∷ true ∷ (a && d) ∷ (b && true) ∷ (e && c) ∷ [])
regrouped false a b c d e = refl
regrouped true false b c d e = refl
regrouped true true false c true e = refl
regrouped true true false c false e = refl
regrouped true true true false true true = refl
regrouped true true true false true false = refl
regrouped true true true false false e = refl
regrouped true true true true true true = refl
regrouped true true true true true false = refl
regrouped true true true true false e = refl

-- what the tests that are asked first say
module _ (h : ℕ) (reports : List ℕ) (m : ℕ) (s : List ℕ) (n : ℕ) where
  pub record Begun : Type 0 where
    pub short : n ≤ claim_limit
    pub few : h ≤ actor_limit
    pub scant : m ≤ resource_limit
    pub long : length s ≡ sheet_limit
    pub single : distinct (take n (column_of id_column s)) ≡ true
    pub distant : distinct (take (min m claim_limit) reports) ≡ true

  all_asked : n ≤ claim_limit → length s ≡ sheet_limit → asked n (column_of parent_column s) ≡ n
  all_asked short long = omega (arith, short, column_length s 1 long (omega arith))

  pub begun : so_far h reports m s n ≡ true → Begun
  begun passed =
      let counted = leb n claim_limit && leb h actor_limit in
      let within = counted && leb m resource_limit in
      let claims = distinct (take (asked n (column_of parent_column s)) (column_of id_column s)) in
      let resources = distinct (take (min m claim_limit) reports) in
      let before = and_left (within && (claims && resources)) (eqb (length s) sheet_limit) passed in
      let long = eqb-true (length s) sheet_limit (and_right (within && (claims && resources)) (eqb (length s) sheet_limit) passed) in
      let counts = and_left within (claims && resources) before in
      let ids = and_right within (claims && resources) before in
      let two = and_left counted (leb m resource_limit) counts in
      let short = leb-true n claim_limit (and_left (leb n claim_limit) (leb h actor_limit) two) in
      let scant = leb-true m resource_limit (and_right counted (leb m resource_limit) counts) in
      record {
        short = short;
        few = leb-true h actor_limit (and_right (leb n claim_limit) (leb h actor_limit) two);
        scant = scant;
        long = long;
        single = ap (λ k. distinct (take k (column_of id_column s))) (sym (all_asked short long)) ∙ and_left claims resources ids;
        distant = and_right claims resources ids;
      }

module _ (version : ℕ) (a : Actors) (o : Resources) (s : List ℕ) (n : ℕ) where
  -- those that stand, with zeros behind them
  abbrev standing_actors : List Actor
  standing_actors = (actors_to a).list

  abbrev standing_resources : List Resource
  standing_resources = (resources_to o).list

  -- the tests that are asked first
  abbrev so_far_passed : Bool
  so_far_passed = so_far a.count (map resource_id standing_resources) o.count s n

  resource_ids : o.count ≤ resource_limit → take (min o.count claim_limit) (map resource_id standing_resources) ≡ map resource_id (resources_of o)
  resource_ids scant =
      let all : min o.count claim_limit ≡ o.count = omega (arith, scant) in
      rw all (take_map resource_id o.count standing_resources ∙ ap (map resource_id) (up_to_first no_resource o.count o.list))

  -- they pass where the register is sound
  pub sound_begins : length s ≡ sheet_limit → sound (register_by version a o s n) ≡ true → so_far_passed ≡ true
  sound_begins long h =
      let told = sound_out (register_by version a o s n) h in
      let w = world_of version (actors_of a) (resources_of o) in
      let claims = latest (take n (claims_in s)) in
      let short = told.limits.claim_count in
      let scant = told.limits.resource_count in
      let stands : stand_over version claims ≡ true = and_right (every (alone w) claims) (stand_over version claims) (sym (sound_apart w claims) ∙ told.claims) in
      let single : distinct (take n (map claim_id (claims_in s))) ≡ true =
      stand_distinct version (claims_in s) n (omega (arith, short, claims_in_length s)) stands in
      rw (
        le-leb n claim_limit short,
        le-leb a.count actor_limit told.limits.actor_count,
        le-leb o.count resource_limit scant,
        all_asked a.count (map resource_id standing_resources) o.count s n short long,
        column_natural s long claim_id id_column (omega arith) (λ g. refl),
        single,
        resource_ids scant,
        told.resources.apart,
      )
      (eq-eqb (length s) sheet_limit long)

  not_begun : so_far_passed ≡ false → false ≡ eqb (length s) sheet_limit && sound (register_by version a o s n)
  not_begun h =
      cases (eqb (length s) sheet_limit && sound (register_by version a o s n))
      (λ t. clash (so_far_passed)
      (sound_begins (eqb-true (length s) sheet_limit (and_left (eqb (length s) sheet_limit) (sound (register_by version a o s n)) t))
      (and_right (eqb (length s) sheet_limit) (sound (register_by version a o s n)) t)) h)
      (λ t. sym t)

  -- where they pass, what is left decides
  abbrev left : Bool
  left =
      ((((ranged version_one version_two version && actors_fit (map actor_id standing_actors) (map actor_kind standing_actors) (map actor_owner standing_actors) a.count) && resources_alone o)
      && keepers_fit (human_ids (map actor_id standing_actors) (map actor_kind standing_actors) a.count) a.count (map keeper_of standing_resources) o.count)
      && stand_over version (latest (take n (claims_in s))))
      && claims_alone version (actor_columns standing_actors) a.count (map keeper_of standing_resources)
      (places_of (map resource_id standing_resources) o.count (column_of resource_column s) n) s n

  module _ (many : length a.list ≡ actor_limit) (full : length o.list ≡ resource_limit) (b : Begun a.count (map resource_id standing_resources) o.count s n) where
    -- the keepers' column has the keepers of those that stand
    keepers_long : length (map keeper_of standing_resources) ≡ resource_limit
    keepers_long = length-map standing_resources keeper_of ∙ up_to_length no_resource o.count o.list ∙ full

    keepers_at : (i : ℕ) → i < o.count → get_or (map keeper_of standing_resources) i 0 ≡ keeper_of (get_or o.list i beyond)
    keepers_at i inside = get_or-map keeper_of standing_resources i beyond ∙ ap keeper_of (up_to_at no_resource o.count o.list i beyond inside)

    distant : distinct (map resource_id (resources_of o)) ≡ true
    distant = ap distinct (sym (resource_ids b.scant)) ∙ b.distant

    apart_ids : distinct (map resource_id (resources_of (resources_to o))) ≡ true
    apart_ids = ap (λ l. distinct (map resource_id l)) (up_to_first no_resource o.count o.list) ∙ distant

    pub begun_decides : left ≡ (eqb (length s) sheet_limit && sound (register_by version a o s n))
    unfolding sound sound_actors sound_resources
    begun_decides =
        let w = world_of version (actors_of a) (resources_of o) in
        let within : within_limits (register_by version a o s n) ≡ true =
        within_limits_in (register_by version a o s n) (record { actor_count = b.few; resource_count = b.scant; claim_count = b.short }) in
        rw (
          and_assoc (ranged version_one version_two version && actors_fit (map actor_id standing_actors) (map actor_kind standing_actors) (map actor_owner standing_actors) a.count) (resources_alone o) (keepers_fit (human_ids (map actor_id standing_actors) (map actor_kind standing_actors) a.count) a.count (map keeper_of standing_resources) o.count),
          actors_natural standing_actors a.count,
          resources_natural standing_actors a.count (up_to_length no_actor a.count a.list ∙ many) b.few o full b.scant (map keeper_of standing_resources) keepers_long keepers_at,
          claims_alone_natural version (actors_to a) (resources_to o) s n (omega (arith, b.few)) (omega (arith, b.scant)) b.short b.long apart_ids,
          up_to_first no_actor a.count a.list,
          up_to_first no_resource o.count o.list,
          eq-eqb (length s) sheet_limit b.long,
          within,
          distant,
          sound_apart w (latest (take n (claims_in s))),
          every_reverse (alone w) (take n (claims_in s)),
        )
        (regrouped
        (ranged version_one version_two version)
        (every (actor_fits (human (actors_of a))) (actors_of a))
        (every (resource_fits (human (actors_of a))) (resources_of o))
        (stand_over version (latest (take n (claims_in s))))
        (distinct (map actor_id (actors_of a)))
        (every (alone w) (take n (claims_in s))))

  -- what is found by the columns of those that stand is what is found of the register
  pub columns_natural : length a.list ≡ actor_limit → length o.list ≡ resource_limit
      → findings_over version (actor_columns standing_actors) a.count (resource_columns standing_resources) o.count (resources_alone o) s n ≡ findings_by version a o s n
  unfolding columns_sound
  columns_natural many full =
      ap (findings_in (actor_columns standing_actors) (resource_columns standing_resources) o.count s n)
      (cases so_far_passed
      (λ t. rw t (begun_decides many full (begun a.count (map resource_id standing_resources) o.count s n t)))
      (λ t. rw t (not_begun t)))
