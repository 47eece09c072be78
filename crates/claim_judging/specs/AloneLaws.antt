-- Laws: A claim by itself, judged by what is looked up of it in the columns, is judged as 01 says: by the world of the actors and resources that they
-- are the columns of, where those have distinct ids. Assumes nothing.
use Rattle.std.specs.Prelude.{◌≡◌, refl, Bool, true, false, not, ◌&&◌, ◌||◌, List, [], ◌∷◌, map, ℕ, ◌≤◌, eqb, ltb, take, get_or}
use Rattle.std.proofs.Common.{sym, ap, ◌∙◌, arith, lt-ltb, ltb-true}
use Rattle.std.proofs.Math.Path.{fun_ext}
use Rattle.std.proofs.Math.ListN.{get_or-map}
use Rattle.lists.specs.Lists.{any, ands, distinct}
use Rattle.rights.specs.Rights.{bars_machine}
use Rattle.register.specs.Limits.{claim_limit, machine_kind}
use Rattle.register.specs.Register.{actors_of, resources_of, no_actor, no_resource}
use Rattle.register.specs.declared.Actor.{Actor}
use Rattle.register.specs.declared.Resource.{Resource}
use Rattle.register.specs.declared.Actors.{Actors}
use Rattle.register.specs.declared.Resources.{Resources}
use Rattle.register.specs.declared.Claim.{Claim}
use Rattle.columns.specs.Columns.{actor_id, actor_owner, resource_id, keeper_of, latest_place, actor_kind, beside, actors_to, resources_to, actor_columns, resource_columns}
use Rattle.columns.specs.Laws.{place_cases, place_found_lem, nowhere_none, place_among, among_natural, beside_natural, up_to_first}
use Rattle.columns.specs.declared.ActorColumns.{ActorColumns}
use Rattle.columns.specs.declared.ResourceColumns.{ResourceColumns}
use Rattle.lookup.specs.Finding.{place_number}
use Rattle.lookup.specs.Asked.{asked_at, asked_natural}
use Rattle.soundness_rules.specs.Sound.{world_of, is_machine, claim_fits, names_stand, root_kept, machine_may, alone}
use Rattle.claim_judging.specs.Alone.{world_by, place_in, found_in, named_at, alone_at}

-- what is looked up by the number x among the first n of a list
module _ {A : Type 0} (id : A → ℕ) (l : List A) (n x : ℕ) (short : n ≤ claim_limit) where
  -- a place is found exactly where x is the number of one of them
  place_known : ltb (place_in (map id l) n x) claim_limit ≡ any (λ a. eqb x (id a)) (take n l)
  place_known =
      place_cases (latest_place (map id l) n x)
      (λ k e. let found = place_found_lem (map id l) x n k e in
      rw e (lt-ltb k claim_limit (omega (arith, found.0)))
      ∙ sym (place_among (map id l) x n k e)
      ∙ among_natural id x n l)
      (λ e. ap (λ p. ltb (place_number claim_limit p) claim_limit) e ∙ sym (nowhere_none (map id l) x n e) ∙ among_natural id x n l)

  -- with distinct numbers, what is asked of the one numbered x is asked of what stands at its place
  module _ (apart : distinct (map id (take n l)) ≡ true) (d : A) (unnumbered : id d ≡ 0) (field : A → ℕ) (unset : field d ≡ 0) (y : ℕ) where
    field_asked : ltb (place_in (map id l) n x) claim_limit ≡ true
        → eqb y (get_or (map field l) (place_in (map id l) n x) 0) ≡ any (λ a. eqb x (id a) && eqb y (field a)) (take n l)
    field_asked placed =
        place_cases (latest_place (map id l) n x)
        (λ k e. let read : get_or (map field l) k 0 ≡ field (get_or l k d) = rw unset at (get_or-map field l k d) in
        ap (λ p. eqb y (get_or (map field l) (place_number claim_limit p) 0)) e
        ∙ ap (eqb y) read
        ∙ sym (ap (asked_at d l (λ a. eqb y (field a))) e)
        ∙ sym (asked_natural id d unnumbered l x (λ a. eqb y (field a)) n apart))
        (λ e. absurd (omega (arith, ltb-true claim_limit claim_limit (sym (ap (λ p. ltb (place_number claim_limit p) claim_limit) e) ∙ placed))))

-- the places are asked one by one and the names together; the tests behind them count where all of those stand
tests_same : (fits grantor holder report root machine root' machine' : Bool)
    → (grantor ≡ true → machine ≡ machine') → (report ≡ true → root ≡ root')
    → ands (fits ∷ grantor ∷ holder ∷ report ∷ root ∷ machine ∷ [])
    ≡ ands (fits ∷ ands (grantor ∷ holder ∷ report ∷ []) ∷ root' ∷ machine' ∷ [])
tests_same fits false holder report root machine root' machine' h k = refl
tests_same fits true false report root machine root' machine' h k = refl
tests_same fits true true false root machine root' machine' h k = refl
tests_same fits true true true root machine root' machine' h k = rw (h refl, k refl)

pub alone_natural : (version : ℕ) (actors : List Actor) (n : ℕ) (resources : List Resource) (m : ℕ) (c : Claim)
    → n ≤ claim_limit → distinct (map actor_id (take n actors)) ≡ true
    → m ≤ claim_limit → distinct (map resource_id (take m resources)) ≡ true
    → alone_at version c (found_in actors n resources m c) ≡ alone (world_of version (take n actors) (take m resources)) c
unfolding named_at alone names_stand root_kept machine_may
alone_natural version actors n resources m c few apart short distant =
    let f = found_in actors n resources m c in
    let w = world_of version (take n actors) (take m resources) in
    rw (
      ← place_known actor_id actors n c.grantor few,
      ← place_known actor_id actors n c.holder few,
      ← place_known resource_id resources m c.resource short,
    )
    (tests_same
    (claim_fits version c)
    (ltb f.grantor claim_limit)
    (ltb f.holder claim_limit)
    (ltb f.report claim_limit)
    (not (eqb c.parent 0) || eqb c.grantor f.keeper)
    (not (eqb machine_kind f.kind) || (not (eqb 0 f.owner) && not (bars_machine c.rights)))
    (not (eqb c.parent 0) || w.keeps c.grantor c.resource)
    (not (w.machine c.grantor) || (not (w.ownerless c.grantor) && not (bars_machine c.rights)))
    (λ placed. rw (
      ← field_asked actor_id actors n c.grantor few apart no_actor refl actor_kind refl machine_kind placed,
      ← field_asked actor_id actors n c.grantor few apart no_actor refl actor_owner refl 0 placed,
    ))
    (λ placed. rw (← field_asked resource_id resources m c.resource short distant no_resource refl keeper_of refl c.grantor placed)))

-- the world by the columns of lists is that of those lists
world_columns : (version : ℕ) (l : List Actor) (n : ℕ) (k : List Resource) (m : ℕ)
    → world_by version (map actor_id l) (map actor_kind l) (map actor_owner l) n (map resource_id k) (map keeper_of k) m ≡ world_of version (take n l) (take m k)
world_columns version l n k m =
    let known : ◌≡◌ {A = ℕ → Bool} (λ x. any (eqb x) (take n (map actor_id l))) (λ x. any (λ a. eqb x a.id) (take n l)) =
    fun_ext (λ x. among_natural actor_id x n l) in
    let machine : ◌≡◌ {A = ℕ → Bool} (λ x. beside (take n (map actor_id l)) (take n (map actor_kind l)) x machine_kind) (is_machine (take n l)) =
    fun_ext (λ x. beside_natural actor_id actor_kind x machine_kind n l) in
    let ownerless : ◌≡◌ {A = ℕ → Bool} (λ x. beside (take n (map actor_id l)) (take n (map actor_owner l)) x 0) (λ x. any (λ a. eqb x a.id && eqb 0 a.owner) (take n l)) =
    fun_ext (λ x. beside_natural actor_id actor_owner x 0 n l) in
    let listed : ◌≡◌ {A = ℕ → Bool} (λ x. any (eqb x) (take m (map resource_id k))) (λ x. any (λ o. eqb x o.id) (take m k)) =
    fun_ext (λ x. among_natural resource_id x m k) in
    let keeps : ◌≡◌ {A = ℕ → ℕ → Bool} (λ g x. beside (take m (map resource_id k)) (take m (map keeper_of k)) x g) (λ g x. any (λ o. eqb x o.id && eqb g o.keeper) (take m k)) =
    fun_ext (λ g. fun_ext (λ x. beside_natural resource_id keeper_of x g m k)) in
    rw (known, machine, ownerless, listed, keeps)

-- and that by the columns of the actors and resources that stand is theirs
pub world_natural : (version : ℕ) (a : Actors) (o : Resources) {people : ActorColumns} {things : ResourceColumns}
    → people ≡ actor_columns (actors_to a).list → things ≡ resource_columns (resources_to o).list
    → world_by version people.names people.kinds people.owners a.count things.reports things.keepers o.count ≡ world_of version (actors_of a) (resources_of o)
world_natural version a o of-people of-things =
    rw (of-people, of-things)
    (world_columns version (actors_to a).list a.count (resources_to o).list o.count
    ∙ rw (up_to_first no_actor a.count a.list, up_to_first no_resource o.count o.list))
