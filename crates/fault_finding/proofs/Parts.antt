-- The first fault of a register in the parts that the code decides one after the other: the version and the counts, the actors, the resources, the
-- claims. Assumes nothing.
use Rattle.std.proofs.Common.{Result, ◌≡◌, refl, ap, sym, ◌∙◌, Bool, true, false, ◌&&◌, List, [], ◌∷◌, ℕ, zero, suc, ◌≤◌, ◌<◌, arith, le-leb, leb-true, eqb, leb, length, take}
use mathlib.Core.Bool.{and-true}
use Rattle.lists.specs.Tests.{cases, clash}
use Rattle.lists.specs.Lists.{every, any}
use Rattle.register.specs.Limits.{actor_limit, resource_limit, claim_limit, id_limit, path_limit, version_one, version_two, human_kind, path_byte_least, path_byte_greatest, ranged, is_id}
use Rattle.register.specs.Register.{actors_of, resources_of, claims_of, path_of, no_actor, no_resource}
use Rattle.register.specs.Chain.{latest}
use Rattle.register.specs.declared.Actor.{Actor}
use Rattle.register.specs.declared.Resource.{Resource}
use Rattle.register.specs.declared.Actors.{Actors}
use Rattle.register.specs.declared.Resources.{Resources}
use Rattle.register.specs.declared.Register.{Register}
use Rattle.columns.specs.Columns.{beside, actor_id, resource_id, actors_to, resources_to, actor_columns, resource_columns}
use Rattle.columns.specs.declared.ActorColumns.{ActorColumns}
use Rattle.columns.specs.declared.ResourceColumns.{ResourceColumns}
use Rattle.columns.specs.Sheet.{sheet_of}
use Rattle.columns.specs.SheetLaws.{sheet_long, sheet_claims}
use Rattle.soundness_rules.specs.Sound.{sound, human}
use Rattle.soundness_rules.proofs.Registers.{Within, sound_out}
use Rattle.soundness_rules.proofs.Places.{sound_claims_nil}
use Rattle.soundness.specs.Judged.{register_by}
use Rattle.soundness.specs.Laws.{register_same}
use Rattle.refusals.specs.Refusals.{outcome_of, number_of}
use Rattle.refusals.specs.declared.Refusal.{Refusal}
use Rattle.lines.specs.Reading.{going, failed}
use Rattle.text_rules.specs.Registers.{register_from}
use Rattle.change_rules.specs.Changes.{world_in}
use Rattle.faults.specs.Faults.{Broken, id_taken, actor_tests, resource_tests, claim_tests, FirstFault, no_fault, of_actor, of_resource, of_claim, fault_from, broken_actors, broken_resources, broken_claims, record_fault, first_fault, fault_numbers, fault_of}
use Rattle.faults.specs.Unread.{why_unread}
use Rattle.faults.proofs.Faulting.{in_none}
use Rattle.faults.proofs.Telling.{people, none_passing, actors_in_lem, actors_out, resources_in, resources_out, claims_out, first_claims_in}
use Rattle.fault_finding.specs.Asked.{actor_asked, resource_asked, limits_fault, Turning}
use Rattle.fault_finding.proofs.Walking.{taken_told, human_told}

-- a record's tests are those that the code asks
pub actor_asked_lem : (people : ℕ → Bool) (earlier : List Actor) (a : Actor) → actor_tests people earlier a ≡ actor_asked (people a.owner) (id_taken (λ d. d.id) earlier a.id) a
unfolding actor_tests
actor_asked_lem people earlier a = rw (and-true (leb a.owner id_limit))

regrouped : (p k l b : Bool) → p && (k && (l && (b && true))) ≡ (p && (k && l)) && b
regrouped false k l b = refl
regrouped true false l b = refl
regrouped true true false b = refl
regrouped true true true b = and-true b

pub resource_asked_lem : (people : ℕ → Bool) (earlier : List Resource) (o : Resource)
    → resource_tests people earlier o ≡ resource_asked (people o.keeper) (id_taken (λ d. d.id) earlier o.id) o
unfolding resource_tests
resource_asked_lem people earlier o =
    rw (regrouped (leb o.public 1) (is_id o.keeper) (leb o.len path_limit) (every (ranged path_byte_least path_byte_greatest) (path_of o)))

-- an actor and a resource behind the earlier ones, by the columns
module _ (a : Actors) (i : ℕ) {people : ActorColumns} (columns : people ≡ actor_columns (actors_to a).list) where
  pub actor_walked : (x : Actor) → i ≤ a.count → {owned taken : Bool}
      → owned ≡ beside (take a.count people.names) (take a.count people.kinds) x.owner human_kind
      → taken ≡ any (eqb x.id) (take i people.names) → {y : Result Unit Refusal} → y ≡ outcome_of (actor_asked owned taken x)
      → outcome_of (actor_tests (human (actors_of a)) (latest (take i (actors_of a))) x) ≡ y
  actor_walked x below {owned} {taken} ownedly takenly told =
      sym
      (told
      ∙ ap (λ b. outcome_of (actor_asked b taken x)) (ownedly ∙ human_told a x.owner columns)
      ∙ ap (λ b. outcome_of (actor_asked (human (actors_of a) x.owner) b x))
      (takenly ∙ ap (λ p. any (eqb x.id) (take i p.names)) columns ∙ taken_told actor_id no_actor a.count a.list i x.id below)
      ∙ ap outcome_of (sym (actor_asked_lem (human (actors_of a)) (latest (take i (actors_of a))) x)))

  pub resource_walked : (o : Resources) {things : ResourceColumns} → things ≡ resource_columns (resources_to o).list → (x : Resource) → i ≤ o.count → {kept taken : Bool}
      → kept ≡ beside (take a.count people.names) (take a.count people.kinds) x.keeper human_kind
      → taken ≡ any (eqb x.id) (take i things.reports) → {y : Result Unit Refusal} → y ≡ outcome_of (resource_asked kept taken x)
      → outcome_of (resource_tests (human (actors_of a)) (latest (take i (resources_of o))) x) ≡ y
  resource_walked o listed x below {kept} {taken} keptly takenly told =
      sym
      (told
      ∙ ap (λ b. outcome_of (resource_asked b taken x)) (keptly ∙ human_told a x.keeper columns)
      ∙ ap (λ b. outcome_of (resource_asked (human (actors_of a) x.keeper) b x))
      (takenly ∙ ap (λ p. any (eqb x.id) (take i p.reports)) listed ∙ taken_told resource_id no_resource o.count o.list i x.id below)
      ∙ ap outcome_of (sym (resource_asked_lem (human (actors_of a)) (latest (take i (resources_of o))) x)))

-- a fault that is told of a list comes before those behind it; where none is told, no record is broken
from_told : {A : Type 0} (of : Broken A → FirstFault) (l : List (Broken A)) (more : FirstFault) → (fault_numbers (fault_from of l no_fault)).sound ≡ 0
    → fault_from of l no_fault ≡ fault_from of l more
from_told of [] more e = absurd (omega (arith, e))
from_told of (b ∷ bs) more e = refl

from_none : {A : Type 0} (of : Broken A → FirstFault) → ((b : Broken A) → (fault_numbers (of b)).sound ≡ 0) → (l : List (Broken A))
    → ((fault_numbers (fault_from of l no_fault)).sound ≡ 0 → ⊥) → l ≡ []
from_none of told [] h = refl
from_none of told (b ∷ bs) h = absurd (h (told b))

module _ (r : Register) where
  abbrev versioned : Bool
  versioned = ranged version_one version_two r.version

  abbrev limits : FirstFault
  limits = limits_fault r.version r.actors.count r.resources.count r.claims.count

  -- a sound register has no fault
  pub sound_faultless : sound r ≡ true → fault_numbers no_fault ≡ fault_of r
  unfolding fault_of first_fault record_fault
  sound_faultless h =
      let told = sound_out r h in
      let a : broken_actors r ≡ [] = in_none (actor_tests (people r)) 0 [] (actors_of r.actors) (actors_out r told.actors) in
      let o : broken_resources r ≡ [] = in_none (resource_tests (people r)) 0 [] (resources_of r.resources) (resources_out r told.resources) in
      let c : broken_claims r ≡ [] = in_none (claim_tests (world_in r)) 0 [] (claims_of r.claims) (claims_out r (claims_of r.claims) told.claims) in
      rw (
        told.version,
        le-leb r.actors.count actor_limit told.limits.actor_count,
        le-leb r.resources.count resource_limit told.limits.resource_count,
        le-leb r.claims.count claim_limit told.limits.claim_count,
        a,
        o,
        c,
      )

  -- the version and the counts come first
  pub limits_told : (fault_numbers limits).sound ≡ 0 → fault_numbers limits ≡ fault_of r
  unfolding fault_of first_fault
  limits_told e =
      cases versioned
      (λ v. cases (leb r.actors.count actor_limit)
      (λ h. cases (leb r.resources.count resource_limit)
      (λ m. cases (leb r.claims.count claim_limit) (λ n. absurd (omega (arith, rw (v, h, m, n) at e))) (λ n. rw (v, h, m, n)))
      (λ m. rw (v, h, m)))
      (λ h. rw (v, h)))
      (λ v. rw v)

  -- where they are not told, they are as they should be
  pub record Passed : Type 0 where
    pub version : versioned ≡ true
    pub within : Within r

  pub limits_passed : ((fault_numbers limits).sound ≡ 0 → ⊥) → Passed
  limits_passed other =
      cases versioned
      (λ v. cases (leb r.actors.count actor_limit)
      (λ h. cases (leb r.resources.count resource_limit)
      (λ m. cases (leb r.claims.count claim_limit)
      (λ n. record {
        version = v;
        within = record {
          actor_count = leb-true r.actors.count actor_limit h;
          resource_count = leb-true r.resources.count resource_limit m;
          claim_count = leb-true r.claims.count claim_limit n;
        };
      })
      (λ n. absurd (other (rw (v, h, m, n)))))
      (λ m. absurd (other (rw (v, h, m)))))
      (λ h. absurd (other (rw (v, h)))))
      (λ v. absurd (other (rw v)))

  module _ (passed : Passed) where
    records_told : fault_numbers (record_fault r) ≡ fault_of r
    unfolding fault_of first_fault
    records_told =
        rw (
          passed.version,
          le-leb r.actors.count actor_limit passed.within.actor_count,
          le-leb r.resources.count resource_limit passed.within.resource_count,
          le-leb r.claims.count claim_limit passed.within.claim_count,
        )

    -- then the actors
    abbrev actor_fault : FirstFault
    actor_fault = fault_from of_actor (broken_actors r) no_fault

    pub actors_told : (fault_numbers actor_fault).sound ≡ 0 → fault_numbers actor_fault ≡ fault_of r
    unfolding record_fault
    actors_told e =
        ap fault_numbers (from_told of_actor (broken_actors r) (fault_from of_resource (broken_resources r) (fault_from of_claim (broken_claims r) no_fault)) e) ∙ records_told

    pub actors_none : ((fault_numbers actor_fault).sound ≡ 0 → ⊥) → broken_actors r ≡ []
    actors_none other = from_none of_actor (λ b. refl) (broken_actors r) other

    -- then the resources
    abbrev resource_fault : FirstFault
    resource_fault = fault_from of_resource (broken_resources r) no_fault

    pub resources_told : broken_actors r ≡ [] → (fault_numbers resource_fault).sound ≡ 0 → fault_numbers resource_fault ≡ fault_of r
    unfolding record_fault
    resources_told none e =
        ap fault_numbers (from_told of_resource (broken_resources r) (fault_from of_claim (broken_claims r) no_fault) e)
        ∙ ap (λ l. fault_numbers (fault_from of_actor l (fault_from of_resource (broken_resources r) (fault_from of_claim (broken_claims r) no_fault)))) (sym none)
        ∙ records_told

    pub resources_none : ((fault_numbers resource_fault).sound ≡ 0 → ⊥) → broken_resources r ≡ []
    resources_none other = from_none of_resource (λ b. refl) (broken_resources r) other

    -- then the claims: by their sheet the register is sound without any, and not with all
    module _ (places : length r.claims.list ≡ claim_limit) where
      abbrev by : ℕ → Register
      by n = register_by r.version r.actors r.resources (sheet_of r.claims) n

      pub claims_turning : broken_actors r ≡ [] → broken_resources r ≡ [] → sound r ≡ false
          → Turning r.version r.actors r.resources (sheet_of r.claims) 0 r.claims.count
      claims_turning a o unsound =
          let low : sound (by 0) ≡ true =
          first_claims_in (by r.claims.count) 0 passed.version record {
            actor_count = passed.within.actor_count;
            resource_count = passed.within.resource_count;
            claim_count = passed.within.claim_count;
          } (omega arith)
          (actors_in_lem r (none_passing (actor_tests (people r)) (actors_of r.actors) a))
          (resources_in r (none_passing (resource_tests (people r)) (resources_of r.resources) o))
          (sound_claims_nil (world_in r)) in
          let high : sound (by r.claims.count) ≡ false = register_same r places ∙ unsound in
          record { long = sheet_long r.claims; holds = low; fails = high; apart = some r.claims.count low high }
        where
          some : (n : ℕ) → sound (by 0) ≡ true → sound (by n) ≡ false → 0 < n
          some zero low high = clash (sound (by 0)) low high
          some (suc n) low high = omega arith

-- the register of its sheet has the register's fault
pub sheet_fault : (r : Register) → length r.claims.list ≡ claim_limit
    → fault_of (register_by r.version r.actors r.resources (sheet_of r.claims) r.claims.count) ≡ fault_of r
unfolding fault_of first_fault record_fault
sheet_fault r places = rw (sheet_claims r.claims places)

-- a text whose reading fails is told of by the line; of one whose reading goes on to its end, the register is
pub unread_failed : (t : List ℕ) {why : Refusal} {l : ℕ} → (register_from t).state ≡ failed why l
    → why_unread t ≡ record { sound = 0; why = number_of why; list = 0; id = 0; place = 0; line = l }
unfolding why_unread
unread_failed t e = rw e

pub unread_going : (t : List ℕ) {r : Register} → r ≡ (register_from t).value → {rest : List ℕ} {l : ℕ} → (register_from t).state ≡ going rest l → why_unread t ≡ fault_of r
unfolding why_unread
unread_going t read e = rw (e, read)
