-- Laws: Actors and resources: each passes its tests exactly where the list is sound, and the test that fails breaks the rule that it names. Assumes nothing.
use Rattle.std.proofs.Common.{◌≡◌, refl, Bool, true, false, not, ◌&&◌, ◌||◌, ℕ, eqb, leb, sym, ◌∙◌, List, [], ◌∷◌, ◌++◌, map, append_assoc, append-nil}
use mathlib.Core.List.{map-append, reverse-cons}
use Rattle.std.proofs.lemmas.Bool.{not-true}
use Rattle.lists.specs.Tests.{cases, clash, and_left, and_right, and_both}
use Rattle.lists.specs.Distinct.{distinct_last, distinct_again}
use Rattle.lists.specs.Lists.{any, every, All, distinct}
use Rattle.lists.specs.Each.{any_map, any_reverse}
use Rattle.register.specs.Limits.{is_id, id_limit, human_kind, machine_kind, path_limit, ranged, path_byte_least, path_byte_greatest}
use Rattle.register.specs.Register.{path_of}
use Rattle.register.specs.Chain.{latest}
use Rattle.register.specs.declared.Actor.{Actor}
use Rattle.register.specs.declared.Resource.{Resource}
use Rattle.soundness_rules.specs.Sound.{actor_fits, resource_fits}
use Rattle.refusals.specs.Refusals.{Test}
use Rattle.faults.specs.Faults.{each_passes, id_taken, actor_tests, resource_tests, actor_rule, resource_rule}
use Rattle.faults.proofs.Faulting.{passing_first, passing_rest}

module _ {A : Type 0} (tests : List A → A → List Test) (fits : A → Bool) (id : A → ℕ)
    (asks : (earlier : List A) (a : A) → every (λ t. t.passed) (tests earlier a) ≡ fits a && not (id_taken id earlier (id a))) where
  turned : (earlier : List A) (x : ℕ) → any (eqb x) (map id (latest earlier)) ≡ id_taken id earlier x
  turned earlier x = any_map id (eqb x) (latest earlier) ∙ any_reverse (λ d. eqb x (id d)) earlier

  moved : (earlier : List A) (c : A) (rest : List A) → latest (c ∷ earlier) ++ rest ≡ latest earlier ++ c ∷ rest
  moved earlier c rest = rw (reverse-cons c earlier) (append_assoc (latest earlier) (c ∷ []) rest)

  -- each passes exactly where each fits and the ids are distinct
  pub passing_fits : (earlier rest : List A) → each_passes tests earlier rest ≡ true → every fits rest ≡ true
  passing_fits earlier [] h = refl
  passing_fits earlier (c ∷ rest) h =
      and_both (fits c) (every fits rest)
      (and_left (fits c) (not (id_taken id earlier (id c))) (sym (asks earlier c) ∙ passing_first tests earlier c rest h))
      (passing_fits (c ∷ earlier) rest (passing_rest tests earlier c rest h))

  pub passing_distinct : (earlier rest : List A) → each_passes tests earlier rest ≡ true → distinct (map id (latest earlier)) ≡ true
      → distinct (map id (latest earlier ++ rest)) ≡ true
  passing_distinct earlier [] h k = rw (append-nil (latest earlier)) k
  passing_distinct earlier (c ∷ rest) h k =
      let free : id_taken id earlier (id c) ≡ false =
      not-true (id_taken id earlier (id c)) (and_right (fits c) (not (id_taken id earlier (id c))) (sym (asks earlier c) ∙ passing_first tests earlier c rest h)) in
      let more : distinct (map id (latest (c ∷ earlier))) ≡ true =
      rw (reverse-cons c earlier, map-append id (latest earlier) (c ∷ [])) (distinct_last (map id (latest earlier)) (id c) k (turned earlier (id c) ∙ free)) in
      rw (← moved earlier c rest) (passing_distinct (c ∷ earlier) rest (passing_rest tests earlier c rest h) more)

  pub distinct_passing : (earlier rest : List A) → every fits rest ≡ true → distinct (map id (latest earlier ++ rest)) ≡ true → each_passes tests earlier rest ≡ true
  distinct_passing earlier [] h k = refl
  distinct_passing earlier (c ∷ rest) h k =
      let free : id_taken id earlier (id c) ≡ false =
      cases (id_taken id earlier (id c))
      (λ e. clash (distinct (map id (latest earlier ++ c ∷ rest))) k
      (rw (map-append id (latest earlier) (c ∷ rest)) (distinct_again (map id (latest earlier)) (id c) (map id rest) (turned earlier (id c) ∙ e))))
      (λ e. e) in
      rw (asks earlier c, and_left (fits c) (every fits rest) h, free)
      (distinct_passing (c ∷ earlier) rest (and_right (fits c) (every fits rest) h) (rw (moved earlier c rest) k))

-- an actor's tests are its fields and a fresh id
actor_tests_lem : (i k o own free : Bool) → (i && (k && (o && true))) && (own && (free && true)) ≡ (i && (k && (o && (own && true)))) && free
actor_tests_lem false k o own free = refl
actor_tests_lem true false o own free = refl
actor_tests_lem true true false own free = refl
actor_tests_lem true true true false free = refl
actor_tests_lem true true true true false = refl
actor_tests_lem true true true true true = refl

pub actor_asks : (people : ℕ → Bool) (earlier : List Actor) (a : Actor)
    → every (λ t. t.passed) (actor_tests people earlier a) ≡ actor_fits people a && not (id_taken (λ d. d.id) earlier a.id)
unfolding actor_tests actor_fits
actor_asks people earlier a =
    actor_tests_lem (is_id a.id) (eqb a.kind human_kind || eqb a.kind machine_kind) (leb a.owner id_limit)
    (eqb a.owner 0 || (eqb a.kind machine_kind && people a.owner)) (not (id_taken (λ d. d.id) earlier a.id))

resource_tests_lem : (i p k l b human free : Bool)
    → (i && (p && (k && (l && (b && true))))) && (human && (free && true)) ≡ (i && (p && (k && (human && (l && (b && true)))))) && free
resource_tests_lem false p k l b human free = refl
resource_tests_lem true false k l b human free = refl
resource_tests_lem true true false l b human free = refl
resource_tests_lem true true true false b true free = refl
resource_tests_lem true true true false b false free = refl
resource_tests_lem true true true true false true free = refl
resource_tests_lem true true true true false false free = refl
resource_tests_lem true true true true true false free = refl
resource_tests_lem true true true true true true false = refl
resource_tests_lem true true true true true true true = refl

pub resource_asks : (people : ℕ → Bool) (earlier : List Resource) (o : Resource)
    → every (λ t. t.passed) (resource_tests people earlier o) ≡ resource_fits people o && not (id_taken (λ d. d.id) earlier o.id)
unfolding resource_tests resource_fits
resource_asks people earlier o =
    resource_tests_lem (is_id o.id) (leb o.public 1) (is_id o.keeper) (leb o.len path_limit) (every (ranged path_byte_least path_byte_greatest) (path_of o))
    (people o.keeper) (not (id_taken (λ d. d.id) earlier o.id))

-- the fields of a record are broken where a part of them is
field_broken : (i k o own : Bool) → i && (k && (o && true)) ≡ false → i && (k && (o && (own && true))) ≡ false
field_broken false k o own h = refl
field_broken true false o own h = refl
field_broken true true false own h = refl
field_broken true true true own h = clash true refl h

owner_broken : (i k o own : Bool) → own ≡ false → i && (k && (o && (own && true))) ≡ false
owner_broken false k o own h = refl
owner_broken true false o own h = refl
owner_broken true true false own h = refl
owner_broken true true true own h = rw h

pub actor_breaks : (people : ℕ → Bool) (earlier : List Actor) (a : Actor)
    → All (λ t. t.passed ≡ false → actor_rule people t.refusal earlier a ≡ false) (actor_tests people earlier a)
unfolding actor_tests actor_fits
actor_breaks people earlier a = (
  field_broken (is_id a.id) (eqb a.kind human_kind || eqb a.kind machine_kind) (leb a.owner id_limit)
      (eqb a.owner 0 || (eqb a.kind machine_kind && people a.owner)),
  (
    owner_broken (is_id a.id) (eqb a.kind human_kind || eqb a.kind machine_kind) (leb a.owner id_limit)
        (eqb a.owner 0 || (eqb a.kind machine_kind && people a.owner)),
    ((λ e. e), tt),
  ),
)

part_broken : (i p k l b human : Bool) → i && (p && (k && (l && (b && true)))) ≡ false → i && (p && (k && (human && (l && (b && true))))) ≡ false
part_broken false p k l b human h = refl
part_broken true false k l b human h = refl
part_broken true true false l b human h = refl
part_broken true true true l b true h = h
part_broken true true true l b false h = refl

keeper_broken : (i p k l b human : Bool) → human ≡ false → i && (p && (k && (human && (l && (b && true))))) ≡ false
keeper_broken false p k l b human h = refl
keeper_broken true false k l b human h = refl
keeper_broken true true false l b human h = refl
keeper_broken true true true l b human h = rw h

pub resource_breaks : (people : ℕ → Bool) (earlier : List Resource) (o : Resource)
    → All (λ t. t.passed ≡ false → resource_rule people t.refusal earlier o ≡ false) (resource_tests people earlier o)
unfolding resource_tests resource_fits
resource_breaks people earlier o = (
  part_broken (is_id o.id) (leb o.public 1) (is_id o.keeper) (leb o.len path_limit) (every (ranged path_byte_least path_byte_greatest) (path_of o)) (people o.keeper),
  (
    keeper_broken (is_id o.id) (leb o.public 1) (is_id o.keeper) (leb o.len path_limit) (every (ranged path_byte_least path_byte_greatest) (path_of o)) (people o.keeper),
    ((λ e. e), tt),
  ),
)
