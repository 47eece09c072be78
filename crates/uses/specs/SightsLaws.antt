-- Laws: The judgement of a use by columns is 01's: the violations and the hop count of the use. Assumes nothing.
use Rattle.std.specs.Prelude.{◌≡◌, Bool, true, false, ◌&&◌, cond, [], ◌∷◌, ◌++◌, map, ℕ, suc, ◌≤◌, ◌<◌, get_or, take, drop, Option, None, Some}
use Rattle.std.proofs.Math.Path.{refl, sym, ap}
use Rattle.std.proofs.Common.{◌∙◌, arith, length-take, get_or-take, take-take}
use Rattle.std.proofs.Math.Bool.{not, and_assoc}
use Rattle.std.proofs.Math.Dec.{eqb}
use Rattle.std.proofs.Math.ListN.{length, get_or-map}
use Rattle.std.proofs.Math.Seq.{split_at}
use Rattle.lists.specs.Lists.{any}
use Rattle.lists.specs.Each.{all_imp}
use Rattle.register.specs.Limits.{claim_limit, machine_kind}
use Rattle.register.specs.Register.{actors_of, resources_of, claims_of, no_actor, no_claim, Shaped}
use Rattle.register.specs.Chain.{latest, hops_of}
use Rattle.register.specs.declared.Actor.{Actor}
use Rattle.register.specs.declared.Register.{Register}
use Rattle.columns.specs.Columns.{actor_id, actor_owner, public_of, latest_place, places_up}
use Rattle.columns.specs.Laws.{steps_within}
use Rattle.lookup.specs.Asked.{asked_at, asked_natural}
use Rattle.soundness_rules.specs.Sound.{World, world_of, sound_claims, sound}
use Rattle.soundness_rules.proofs.Registers.{sound_out}
use Rattle.soundness_rules.proofs.Places.{claim_numbered}
use Rattle.soundness_rules.proofs.Chains.{place_hops_whole}
use Rattle.lookup.specs.Laws.{hop_count_natural}
use Rattle.actions.specs.declared.Usage.{Usage}
use Rattle.gate_rules.specs.Gate.{covers, owner_lacks, use_violation, hops_in, hops_for}
use Rattle.gate_rules.specs.Places.{latest_split}
use Rattle.gate_rules.proofs.Coverage.{sound_place}
use Rattle.gate_rules.proofs.Trace.{place_hops_most}
use Rattle.gate_rules.specs.Authority.{IsIn}
use Rattle.coverage.specs.Laws.{nearest_any}
use Rattle.uses.specs.Uses.{open_to, hops_from, covered_by, relied_on, use_faults, use_hops, steps_told}
use Rattle.coverage.specs.Gathering.{cover_places}
use Rattle.uses.specs.Sights.{owner_at, owner_number, owned_in, ups_of, sight_of, spot_for}
use Rattle.uses.specs.Relying.{claim_standing, claim_places, places_within, relied_natural, covers_natural, only_at, reach_for, nearest_place, nearest_natural}

-- ---- the claim relied on: its hops
module _ (r : Register) (shaped : Shaped r) (h : sound r ≡ true) where
  abbrev pub around : World
  around = world_of r.version (actors_of r.actors) (resources_of r.resources)

  pub few : r.claims.count ≤ claim_limit
  few = (sound_out r h).limits.claim_count

  pub long : r.claims.count ≤ length r.claims.list
  long = omega (arith, few, shaped.claims)

  pub below : (j : ℕ) → j < length (claims_of r.claims) → j < r.claims.count
  below j inside = omega (arith, length-take r.claims.count r.claims.list)

  -- the claim at a place of the register stands there, behind the claims at the places below
  abbrev pub stands_at : (j : ℕ) → j < length (claims_of r.claims) → IsIn (claims_of r.claims) (claim_standing r j)
  stands_at j inside =
      let before = take-take j r.claims.count r.claims.list (omega (arith, below j inside)) in
      let here = get_or-take r.claims.count r.claims.list j no_claim (below j inside) in
      record {
        before = take j r.claims.list;
        after = drop (suc j) (claims_of r.claims);
        split = split_at (claims_of r.claims) j no_claim inside
            ∙ ap (λ l. l ++ get_or (claims_of r.claims) j no_claim ∷ drop (suc j) (claims_of r.claims)) before
            ∙ ap (λ c. take j r.claims.list ++ c ∷ drop (suc j) (claims_of r.claims)) here;
      }

  -- in a sound register the claims around it are sound
  pub sound_at : (j : ℕ) (inside : j < length (claims_of r.claims))
      → sound_claims around (latest (stands_at j inside).after ++ claim_standing r j ∷ latest (take j r.claims.list)) ≡ true
  sound_at j inside = sound_place r h (claim_standing r j) (stands_at j inside)

  -- the claim at a place of the register has as many hops as the walk up from there counts
  hops_at_lem : (j : ℕ) → j < length (claims_of r.claims) → hops_in r (only_at (claim_standing r) (Some j)) ≡ hops_from (ups_of r) (Some j)
  hops_at_lem j inside =
      let at = stands_at j inside in
      let whole : hops_of (latest (claims_of r.claims)) (claim_standing r j) ≡ hops_of (latest (take j r.claims.list)) (claim_standing r j) =
      ap (λ l. hops_of l (claim_standing r j)) (ap latest at.split ∙ latest_split at.before (claim_standing r j) at.after)
      ∙ place_hops_whole around (latest at.after) (claim_standing r j) (latest (take j r.claims.list)) (sound_at j inside) in
      let counted : length (places_up (ups_of r) j) ≡ hops_of (latest (take j r.claims.list)) (claim_standing r j) =
      hop_count_natural r.claims.list r.claims.count few long
      (λ i before. claim_numbered around r.claims.count r.claims.list (sound_out r h).claims i before (omega (arith, before, long)))
      j (below j inside) in
      sym (ap steps_told (steps_within (places_up (ups_of r) j) (hops_of (latest (claims_of r.claims)) (claim_standing r j)) (counted ∙ sym whole)
      (place_hops_most r h (claim_standing r j) at)))

  -- the hop count of the claim relied on, by columns
  pub relied_hops : (moment x : ℕ) (u : Usage) → hops_for r moment x u ≡ hops_from (ups_of r) (nearest_place r moment x u)
  unfolding hops_for
  relied_hops moment x u =
      ap (hops_in r) (relied_natural r moment x u)
      ∙ nearest_any (reach_for r u) (λ p. hops_in r (only_at (claim_standing r) p) ≡ hops_from (ups_of r) p) _ 0 0 (claim_places r) refl
      (all_imp (λ j. j < length (claims_of r.claims))
      (λ j. hops_in r (only_at (claim_standing r) (Some j)) ≡ hops_from (ups_of r) (Some j)) hops_at_lem (claim_places r) (places_within r))

-- ---- the actor: whether it is a machine, and its owner
module _ (r : Register) (h : sound r ≡ true) (x : ℕ) where
  -- where the actor numbered x stands
  abbrev place_of_actor : Option ℕ
  place_of_actor = latest_place (map actor_id r.actors.list) r.actors.count x

  -- some actor has the number x and passes a test where the one at the place of x does
  pub asked_actor : (q : Actor → Bool) → any (λ a. eqb x a.id && q a) (actors_of r.actors) ≡ asked_at no_actor r.actors.list q place_of_actor
  asked_actor q = asked_natural actor_id no_actor refl r.actors.list x q r.actors.count (sound_out r h).actors.apart

  -- what is asked of a machine and of its owner, place by place
  owner_asked_lem : (f : ℕ → Bool) (p : Option ℕ)
      → asked_at no_actor r.actors.list (λ a. eqb machine_kind a.kind && (not (eqb a.owner 0) && not (f a.owner))) p
      ≡ (asked_at no_actor r.actors.list (λ a. eqb machine_kind a.kind) p && not (eqb (owner_at (map actor_owner r.actors.list) p) 0))
      && not (f (owner_at (map actor_owner r.actors.list) p))
  owner_asked_lem f None = refl
  owner_asked_lem f (Some j) =
      rw (get_or-map actor_owner r.actors.list j no_actor)
      (sym (and_assoc (eqb machine_kind (get_or r.actors.list j no_actor).kind) (not (eqb (get_or r.actors.list j no_actor).owner 0))
      (not (f (get_or r.actors.list j no_actor).owner))))

  -- the owner lacks where x is a machine with an owner and the owner does not cover the use
  pub owner_natural : (moment : ℕ) (u : Usage)
      → owner_lacks r moment x u ≡ owned_in r x && not (covers r moment (owner_number r x) u)
  unfolding owner_lacks
  owner_natural moment u =
      asked_actor (λ a. eqb machine_kind a.kind && (not (eqb a.owner 0) && not (covers r moment a.owner u)))
      ∙ owner_asked_lem (λ y. covers r moment y u) place_of_actor
      ∙ sym (ap (λ b. (b && not (eqb (owner_number r x) 0)) && not (covers r moment (owner_number r x) u)) (asked_actor (λ a. eqb machine_kind a.kind)))

-- ---- the judgement

-- what is asked only where a test holds need stand only there
asked_where : {A : Type 0} (q : A → Bool) (b : Bool) (there none : A) → b && q (cond b there none) ≡ b && q there
asked_where q true there none = refl
asked_where q false there none = refl

module _ (r : Register) (shaped : Shaped r) (h : sound r ≡ true) (moment x : ℕ) (u : Usage) where
  -- the use is open
  abbrev freely : Bool
  freely = open_to (map public_of r.resources.list) (spot_for r u) u.right

  -- whoever is asked, the actor or its owner, covers the use by the nearest claim
  covered_natural : (y : ℕ) → covered_by freely (relied_on (sight_of r moment x) (cover_places r.claims y moment) (spot_for r u) u.right) ≡ covers r moment y u
  covered_natural y = ap (covered_by freely) (nearest_natural r shaped h moment y u x) ∙ sym (covers_natural r shaped h moment y u)

  lacking_natural : owned_in r x && not (covered_by freely (relied_on (sight_of r moment x) (sight_of r moment x).theirs (spot_for r u) u.right))
      ≡ owner_lacks r moment x u
  lacking_natural =
      asked_where (λ places. not (covered_by freely (relied_on (sight_of r moment x) places (spot_for r u) u.right))) (owned_in r x)
      (cover_places r.claims (owner_number r x) moment) []
      ∙ ap (λ b. owned_in r x && not b) (covered_natural (owner_number r x))
      ∙ sym (owner_natural r h x moment u)

  pub fault_natural : (n : ℕ) → use_faults (sight_of r moment x) n (spot_for r u) u.right ≡ use_violation r moment x n u
  unfolding use_faults use_violation
  fault_natural n = rw (covered_natural x, lacking_natural)

  pub hop_natural : use_hops (sight_of r moment x) (spot_for r u) u.right ≡ hops_for r moment x u
  unfolding use_hops
  hop_natural =
      ap (hops_from (ups_of r)) (nearest_natural r shaped h moment x u x) ∙ sym (relied_hops r shaped h moment x u)

-- a use judged by columns is the use as the gate judges it: its violations and its hop count
pub use_natural : (r : Register) → Shaped r → sound r ≡ true → (moment x n : ℕ) (u : Usage)
    → (use_faults (sight_of r moment x) n (spot_for r u) u.right ≡ use_violation r moment x n u)
    × (use_hops (sight_of r moment x) (spot_for r u) u.right ≡ hops_for r moment x u)
use_natural r shaped h moment x n u = (fault_natural r shaped h moment x u n, hop_natural r shaped h moment x u)
