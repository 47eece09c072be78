-- Laws: What the tests of actors and resources by columns are in 01's words, where the columns are theirs. Assumes nothing.
use Rattle.std.specs.Prelude.{◌≡◌, Bool, ◌&&◌, List, [], ◌∷◌, ◌++◌, map, eqb, ltb, leb, take, get_or, replicate, ℕ, ◌-◌, ◌≤◌, ◌<◌, min}
use Rattle.std.proofs.Common.{sym, ◌∙◌, arith, lt-ltb, ne_eqb, length-append, get_or-take}
use Rattle.std.proofs.Math.Path.{refl, ap, fun_ext}
use Rattle.std.proofs.Math.Bool.{true, false, and_comm, and-true, and-false}
use Rattle.std.proofs.Math.ListN.{length, length-map, length-take}
use Rattle.std.proofs.lemmas.List.{length-replicate}
use Rattle.std.proofs.Math.Seq.{take-append_seam}
use Rattle.lists.specs.Tests.{cases, clash, iff_same, eqb_turned}
use Rattle.lists.specs.Lists.{any, every, counted}
use Rattle.lists.specs.Each.{every_at, at_every, every_both}
use Rattle.lists.specs.Counts.{every_counted_sound, every_counted_complete}
use Rattle.register.specs.Limits.{actor_limit, resource_limit, claim_limit, path_limit, path_byte_least, path_byte_greatest, human_kind, ranged, is_id}
use Rattle.register.specs.Register.{resources_of, path_of}
use Rattle.register.specs.declared.Actor.{Actor}
use Rattle.register.specs.declared.Resource.{Resource}
use Rattle.register.specs.declared.Resources.{Resources}
use Rattle.columns.specs.Columns.{actor_id, actor_kind, actor_owner, keeper_of, latest_place}
use Rattle.columns.specs.Laws.{beside_natural, among_natural, place_cases, place_found_lem, place_among, nowhere_none}
use Rattle.lookup.specs.Finding.{place_number, places_of}
use Rattle.lookup.specs.Laws.{places_at}
use Rattle.soundness_rules.specs.Sound.{human, actor_fits, resource_fits}
use Rattle.soundness.specs.World.{human_in, actors_in, actors_fit, human_id, humans_in, human_ids, beyond, resources_alone, keepers_fit}

-- a test of each of the first n places is one of each of the first n of a list, where it asks the same of what stands there
pub every_places : {A : Type 0} (p : ℕ → Bool) (q : A → Bool) (d : A) (l : List A) (n : ℕ) → n ≤ length l → ((i : ℕ) → i < n → p i ≡ q (get_or l i d))
    → every p (counted 0 n) ≡ every q (take n l)
every_places p q d l n short same =
    iff_same (every p (counted 0 n)) (every q (take n l))
    (λ t. at_every q (take n l) d (λ i h. let inside : i < n = omega (arith, h, length-take n l) in
    rw (get_or-take n l i d inside) (sym (same i inside) ∙ every_counted_sound p n 0 t i (omega arith) (omega arith))))
    (λ t. every_counted_complete p n 0 (λ i low high. let inside : i < n = omega arith in
    same i inside ∙ rw (get_or-take n l i d inside) at (every_at q (take n l) t d i (omega (arith, inside, short, length-take n l)))))

-- the actors that a list's columns are those of are that list
actors_in_natural : (l : List Actor) → actors_in (map actor_id l) (map actor_kind l) (map actor_owner l) ≡ l
unfolding actors_in
actors_in_natural [] = refl
actors_in_natural (a ∷ l) = ap (λ m. a ∷ m) (actors_in_natural l)

pub actors_natural : (l : List Actor) (n : ℕ)
    → actors_fit (map actor_id l) (map actor_kind l) (map actor_owner l) n ≡ every (actor_fits (human (take n l))) (take n l)
unfolding actors_fit
actors_natural l n =
    let humans : ◌≡◌ {A = ℕ → Bool} (λ x. human_in (map actor_id l) (map actor_kind l) n x) (λ x. human (take n l) x) =
    fun_ext (λ x. beside_natural actor_id actor_kind x human_kind n l) in
    rw (actors_in_natural l) (ap (λ test. every (actor_fits test) (take n l)) humans)

-- the ids of a list's humans
humans_of : List Actor → List ℕ
humans_of l = map (λ a. human_id a.id a.kind) l

humans_natural : (l : List Actor) → humans_in (map actor_id l) (map actor_kind l) ≡ humans_of l
unfolding humans_in humans_of
humans_natural [] = refl
humans_natural (a ∷ l) = ap (λ m. human_id a.id a.kind ∷ m) (humans_natural l)

module _ (l : List Actor) (n : ℕ) (long : length l ≡ actor_limit) (few : n ≤ actor_limit) where
  abbrev humans : List ℕ
  humans = human_ids (map actor_id l) (map actor_kind l) n

  humans_shape : humans ≡ take n (humans_of l) ++ replicate (actor_limit - n) 0
  unfolding human_ids
  humans_shape =
      let all : min n (min actor_limit (min (length (map actor_id l)) (length (map actor_kind l)))) ≡ n =
      omega (arith, few, long, length-map l actor_id, length-map l actor_kind) in
      rw (all, humans_natural l)

  first_long : length (take n (humans_of l)) ≡ n
  unfolding humans_of
  first_long = omega (arith, length-take n (humans_of l), length-map l (λ a. human_id a.id a.kind), few, long)

  first_humans : take n humans ≡ take n (humans_of l)
  first_humans =
      ap (take n) humans_shape
      ∙ ap (λ k. take k (take n (humans_of l) ++ replicate (actor_limit - n) 0)) (sym first_long)
      ∙ take-append_seam (take n (humans_of l)) (replicate (actor_limit - n) 0)

  humans_long : length humans ≡ actor_limit
  humans_long =
      ap length humans_shape
      ∙ omega (arith, length-append (take n (humans_of l)) (replicate (actor_limit - n) 0), length-replicate {A = ℕ} (actor_limit - n) 0, first_long, few)

  -- a number that is not 0 has a place among the humans' ids exactly where it is a human's
  module _ (x : ℕ) (some : x ≡ 0 → ⊥) where
    human_told : (a : Actor) → eqb x (human_id a.id a.kind) ≡ eqb x a.id && eqb human_kind a.kind
    human_told a =
        cases (eqb a.kind human_kind)
        (λ e. rw (eqb_turned human_kind a.kind, e) (sym (and-true (eqb x a.id))))
        (λ e. rw (eqb_turned human_kind a.kind, e, ne_eqb x 0 some) (sym (and-false (eqb x a.id))))

    human_among : any (eqb x) (take n humans) ≡ human (take n l) x
    unfolding humans_of
    human_among =
        ap (any (eqb x)) first_humans
        ∙ among_natural (λ a. human_id a.id a.kind) x n l
        ∙ ap (λ test. any test (take n l)) (fun_ext human_told)

    human_found : ltb (place_number claim_limit (latest_place humans (min n claim_limit) x)) claim_limit ≡ human (take n l) x
    human_found =
        let all : min n claim_limit ≡ n = omega (arith, few) in
        ap (λ m. ltb (place_number claim_limit (latest_place humans m x)) claim_limit) all
        ∙ place_cases (latest_place humans n x)
        (λ k e. let found = place_found_lem humans x n k e in
        rw e (lt-ltb k claim_limit (omega (arith, found.1, humans_long))) ∙ sym (place_among humans x n k e) ∙ human_among)
        (λ e. ap (λ p. ltb (place_number claim_limit p) claim_limit) e ∙ sym (nowhere_none humans x n e) ∙ human_among)

  -- a resource is asked of one number whether it is a human's, the keeper; the other tests are asked without it
  resource_kept : (f : ℕ → Bool) (o : Resource) → resource_fits f o ≡ resource_fits (λ x. true) o && f o.keeper
  unfolding resource_fits
  resource_kept f o =
      moved (is_id o.id) (leb o.public 1) (is_id o.keeper) (f o.keeper) (leb o.len path_limit && (every (ranged path_byte_least path_byte_greatest) (path_of o) && true))
    where
      moved : (a b c d e : Bool) → a && (b && (c && (d && e))) ≡ (a && (b && (c && (true && e)))) && d
      moved false b c d e = refl
      moved true false c d e = refl
      moved true true false d e = refl
      moved true true true d e = and_comm d e

  -- and a keeper out of range is refused, whatever is told of it
  resource_keeperless : (f : ℕ → Bool) (o : Resource) → is_id o.keeper ≡ false → resource_fits f o ≡ false
  unfolding resource_fits
  resource_keeperless f o e = rw (e, and-false (leb o.public 1)) (and-false (is_id o.id))

  -- by a column of the keepers of the resources that stand
  module _ (o : Resources) (full : length o.list ≡ resource_limit) (scant : o.count ≤ resource_limit) (keepers : List ℕ) (many : length keepers ≡ resource_limit)
      (same : (i : ℕ) → i < o.count → get_or keepers i 0 ≡ keeper_of (get_or o.list i beyond)) where
    abbrev keeper_places : List ℕ
    keeper_places = places_of humans n keepers o.count

    -- what is asked of the resource at a place but for its keeper, and whether the keeper was found
    abbrev keeper_aside : ℕ → Bool
    keeper_aside i = resource_fits (λ x. true) (get_or o.list i beyond)

    abbrev keeper_placed : ℕ → Bool
    keeper_placed i = ltb (get_or keeper_places i 0) claim_limit

    keeper_told : (i : ℕ) → i < o.count → (keeper_of (get_or o.list i beyond) ≡ 0 → ⊥)
        → keeper_placed i ≡ human (take n l) (keeper_of (get_or o.list i beyond))
    keeper_told i inside some =
        rw (places_at humans n keepers o.count i 0 (omega (arith, inside, scant, many)), same i inside)
        (human_found (keeper_of (get_or o.list i beyond)) some)

    kept_natural : (i : ℕ) → i < o.count → keeper_aside i && keeper_placed i ≡ resource_fits (human (take n l)) (get_or o.list i beyond)
    kept_natural i inside =
        let x = get_or o.list i beyond in
        cases (is_id x.keeper)
        (λ e. ap (λ b. keeper_aside i && b) (keeper_told i inside (λ none. clash (is_id x.keeper) e (rw none)))
        ∙ sym (resource_kept (human (take n l)) x))
        (λ e. ap (λ b. b && keeper_placed i) (resource_keeperless (λ y. true) x e) ∙ sym (resource_keeperless (human (take n l)) x e))

    pub resources_natural : resources_alone o && keepers_fit humans n keepers o.count ≡ every (resource_fits (human (take n l))) (resources_of o)
    unfolding resources_alone keepers_fit
    resources_natural =
        let all : min o.count resource_limit ≡ o.count = omega (arith, scant) in
        let there : o.count ≤ length o.list = omega (arith, scant, full) in
        rw (all, ← every_places keeper_aside (resource_fits (λ x. true)) beyond o.list o.count there (λ i inside. refl))
        (every_both keeper_aside keeper_placed (counted 0 o.count)
        ∙ every_places (λ i. keeper_aside i && keeper_placed i) (resource_fits (human (take n l))) beyond o.list o.count there kept_natural)
