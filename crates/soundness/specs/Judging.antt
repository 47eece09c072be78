-- Laws: Claims judged by themselves, by what was looked up of each, and what that and the judgement over the earlier ones come to. Assumes
-- nothing.
use Rattle.std.specs.Prelude.{◌≡◌, refl, true, ◌&&◌, List, [], ◌∷◌, map, take, get_or, ℕ, ◌≤◌, ◌<◌, min}
use Rattle.std.proofs.Common.{sym, ◌∙◌, arith}
use Rattle.std.proofs.Math.Path.{ap}
use Rattle.std.proofs.Math.Bool.{Bool, and_assoc, and_comm}
use Rattle.std.proofs.Math.ListN.{length, get_or-map}
use Rattle.std.proofs.lemmas.List.{length-map}
use Rattle.lists.specs.Tests.{cases, and_middle}
use Rattle.lists.specs.Lists.{every, counted, distinct}
use Rattle.lists.specs.Each.{every_both, take_map}
use Rattle.register.specs.Limits.{claim_limit}
use Rattle.register.specs.Register.{actors_of, resources_of, no_claim}
use Rattle.register.specs.declared.Actors.{Actors}
use Rattle.register.specs.declared.Resources.{Resources}
use Rattle.register.specs.declared.Claim.{Claim}
use Rattle.columns.specs.Columns.{actor_id, resource_id, keeper_of, grantor_of, holder_of, claimed_of, actor_columns}
use Rattle.columns.specs.Sheet.{sheet_limit, column_of, claim_at, claims_in, grantor_column, holder_column, resource_column}
use Rattle.columns.specs.declared.ActorColumns.{ActorColumns}
use Rattle.columns.specs.SheetLaws.{column_length, claims_in_length, claims_in_at, column_natural}
use Rattle.lookup.specs.Finding.{places_of, both_places}
use Rattle.lookup.specs.Laws.{places_at, first_places, second_places}
use Rattle.lookup.specs.declared.Both.{Both}
use Rattle.soundness_rules.specs.Sound.{World, world_of, alone, over, acceptable, sound_claims}
use Rattle.soundness_rules.proofs.Places.{sound_claims_nil, sound_claims_cons}
use Rattle.claim_judging.specs.Alone.{Found, place_in, found_in, named_at, alone_at}
use Rattle.claim_judging.specs.AloneLaws.{alone_natural}
use Rattle.claim_judging.specs.Over.{stand_over}
use Rattle.claim_judging.specs.OverLaws.{stand_nil, stand_cons}
use Rattle.soundness.specs.WorldLaws.{every_places}
use Rattle.soundness.specs.Judged.{found_at, fits_at, claims_alone}

-- claims are sound where each is as it should be by itself, and over those before it
pub sound_apart : (w : World) (L : List Claim) → sound_claims w L ≡ every (alone w) L && stand_over w.version L
unfolding acceptable
sound_apart w [] = sound_claims_nil w ∙ sym (stand_nil w.version)
sound_apart w (c ∷ L) =
    sound_claims_cons w c L
    ∙ rw (sound_apart w L, stand_cons w.version c L) (and_middle (alone w c) (over w.version L c) (every (alone w) L) (stand_over w.version L))

-- the grantors and the holders were looked up by one table
module _ (version : ℕ) (actors : ActorColumns) (h : ℕ) (s : List ℕ) (n : ℕ) (short : n ≤ claim_limit) (long : length s ≡ sheet_limit) {named : Both}
    (looked : named ≡ both_places actors.names h (column_of grantor_column s) (column_of holder_column s) n) where
  pub ids_told : named.distinct ≡ distinct (take (min h claim_limit) actors.names)
  unfolding both_places
  ids_told = ap (λ b. b.distinct) looked

  pub alone_told : (keepers spots : List ℕ)
      → (distinct (take (min h claim_limit) actors.names)
      && every (λ i. named_at (claim_at s i) (found_at actors keepers named.first named.second spots i)) (counted 0 n))
      && every (fits_at version s) (counted 0 n)
      ≡ claims_alone version actors h keepers spots s n
  unfolding claims_alone
  alone_told keepers spots =
      let few : n ≤ length (column_of grantor_column s) = omega (arith, short, column_length s 2 long (omega arith)) in
      let fewer : n ≤ length (column_of holder_column s) = omega (arith, short, column_length s 3 long (omega arith)) in
      let apart = distinct (take (min h claim_limit) actors.names) in
      let test : ℕ → Bool = λ i. named_at (claim_at s i) (found_at actors keepers named.first named.second spots i) in
      and_assoc apart (every test (counted 0 n)) (every (fits_at version s) (counted 0 n))
      ∙ ap (λ b. apart && b) (and_comm (every test (counted 0 n)) (every (fits_at version s) (counted 0 n)) ∙ every_both (fits_at version s) test (counted 0 n))
      ∙ rw (
        ap (λ b. b.first) looked ∙ first_places actors.names (column_of grantor_column s) (column_of holder_column s) n few fewer h,
        ap (λ b. b.second) looked ∙ second_places actors.names (column_of grantor_column s) (column_of holder_column s) n few fewer h,
      )

-- the place that was looked up of the claim at a place by a field of it
place_told : {A : Type 0} (id : A → ℕ) (l : List A) (m : ℕ) (cs : List Claim) (n : ℕ) → m ≤ claim_limit → length cs ≡ claim_limit → n ≤ claim_limit
    → (f : Claim → ℕ) → f no_claim ≡ 0 → (i : ℕ) → i < n
    → get_or (places_of (map id l) m (map f cs) n) i 0 ≡ place_in (map id l) m (f (get_or cs i no_claim))
place_told id l m cs n fits long short f unset i inside =
    let all : min m claim_limit ≡ m = omega (arith, fits) in
    places_at (map id l) m (map f cs) n i 0 (omega (arith, inside, short, long, length-map cs f))
    ∙ ap (λ k. place_in (map id l) k (get_or (map f cs) i 0)) all
    ∙ ap (place_in (map id l) m) (rw unset at (get_or-map f cs i no_claim))

module _ (version : ℕ) (a : Actors) (o : Resources) (s : List ℕ) (n : ℕ) (few : a.count ≤ claim_limit) (scant : o.count ≤ claim_limit) (short : n ≤ claim_limit)
    (long : length s ≡ sheet_limit) (distant : distinct (map resource_id (resources_of o)) ≡ true) where
  abbrev granting_places : List ℕ
  granting_places = places_of (map actor_id a.list) a.count (column_of grantor_column s) n

  abbrev holding_places : List ℕ
  holding_places = places_of (map actor_id a.list) a.count (column_of holder_column s) n

  abbrev spots : List ℕ
  spots = places_of (map resource_id o.list) o.count (column_of resource_column s) n

  abbrev found : ℕ → Found
  found = found_at (actor_columns a.list) (map keeper_of o.list) granting_places holding_places spots

  found_natural : (i : ℕ) → i < n → found i ≡ found_in a.list a.count o.list o.count (get_or (claims_in s) i no_claim)
  found_natural i inside =
      rw (
        column_natural s long grantor_of grantor_column (omega arith) (λ g. refl),
        column_natural s long holder_of holder_column (omega arith) (λ g. refl),
        column_natural s long claimed_of resource_column (omega arith) (λ g. refl),
        place_told actor_id a.list a.count (claims_in s) n few (claims_in_length s) short grantor_of refl i inside,
        place_told actor_id a.list a.count (claims_in s) n few (claims_in_length s) short holder_of refl i inside,
        place_told resource_id o.list o.count (claims_in s) n scant (claims_in_length s) short claimed_of refl i inside,
      )

  module _ (apart : distinct (map actor_id (actors_of a)) ≡ true) where
    looked_natural : (i : ℕ) → i < n → alone_at version (claim_at s i) (found i) ≡ alone (world_of version (actors_of a) (resources_of o)) (get_or (claims_in s) i no_claim)
    looked_natural i inside =
        ap (λ f. alone_at version (claim_at s i) f) (found_natural i inside)
        ∙ ap (λ c. alone_at version c (found_in a.list a.count o.list o.count (get_or (claims_in s) i no_claim))) (sym (claims_in_at s i))
        ∙ alone_natural version a.list a.count o.list o.count (get_or (claims_in s) i no_claim) few apart scant distant

  -- where the ids of the actors are distinct, each claim is asked what 01 asks
  pub claims_alone_natural : claims_alone version (actor_columns a.list) a.count (map keeper_of o.list) spots s n
      ≡ distinct (map actor_id (actors_of a)) && every (alone (world_of version (actors_of a) (resources_of o))) (take n (claims_in s))
  unfolding claims_alone
  claims_alone_natural =
      let all : min a.count claim_limit ≡ a.count = omega (arith, few) in
      rw (all, take_map actor_id a.count a.list)
      (cases (distinct (map actor_id (actors_of a)))
      (λ t. rw t (every_places (λ i. alone_at version (claim_at s i) (found i)) (alone (world_of version (actors_of a) (resources_of o))) no_claim (claims_in s) n
      (omega (arith, short, claims_in_length s)) (looked_natural t)))
      (λ t. rw t))
