-- A violation stands in the list of an action exactly where its sentence holds, and the whole list
-- ascends. Assumes nothing.
use Rattle.std.proofs.Common.{◌≡◌, refl, Bool, true, false, cond, List, [], ◌∷◌, ◌++◌, inl, ⊎_elim, ℕ, ◌+◌, ◌≤◌, ◌<◌, zero-le, zero-add, arith, length}
use Rattle.lists.specs.Lists.{All}
use Rattle.lists.specs.Each.{all_imp, all_append}
use Rattle.register.specs.Register.{actors_of}
use Rattle.register.specs.declared.Register.{Register}
use Rattle.soundness_rules.specs.Sound.{is_machine}
use Rattle.actions.specs.Actions.{uses_of, governs_of, value_of}
use Rattle.actions.specs.declared.Action.{Action}
use Rattle.actions.specs.declared.Violation.{Violation}
use Rattle.actions.specs.declared.Violation.TheVariants.{FlagSet, NoOwner, MachineGoverns, NotCovered, OwnerNotCovering}
use Rattle.gate_rules.specs.Gate.{is_ownerless, flags_set, governed, use_violations, violations_of}
use Rattle.gate_rules.specs.Listing.{Violates, rank_of, Precedes, Ascends}
use Rattle.gate_rules.specs.Authority.{IsIn}
use Rattle.gate_rules.specs.Places.{place_here, all_place}
use Rattle.gate_rules.proofs.Members.{place_left, place_right, each_joined}
use Rattle.gate_rules.proofs.Listed.{Ranked, flags_out, flags_ranked, flags_ascend, flag_in, governed_out, governed_ranked, governed_ascend, governed_in}
use Rattle.gate_rules.proofs.ListedUses.{OneSays, uses_out, uses_ranked, uses_ascend, not_covered_in, owner_in_lem}

-- a part of the list that stands there only where a test is passed
module _ (Q : Violation → Type 0) where
  all_where : (b : Bool) (L : List Violation) → (b ≡ true → All Q L) → All Q (cond b L [])
  all_where true L h = h refl
  all_where false L h = tt

ascends_where : (b : Bool) (L : List Violation) → Ascends L → Ascends (cond b L [])
ascends_where true L h = h
ascends_where false L h = tt

place_where : (b : Bool) (L : List Violation) (v : Violation) → b ≡ true → IsIn L v → IsIn (cond b L []) v
place_where b L v e at = rw e at

-- lists of which the first has a lower rank than all of the second
ranks_apart : (rank n : ℕ) (L M : List Violation) → All (Ranked rank n) L → All (λ w. rank < rank_of w) M → All (λ v. All (Precedes v) M) L
ranks_apart rank n L M h k =
    all_imp (Ranked rank n) (λ v. All (Precedes v) M)
    (λ v same. all_imp (λ w. rank < rank_of w) (Precedes v) (λ w above. inl (omega (arith, same.0))) M k) L h

higher : (rank n least : ℕ) → least < rank → (L : List Violation) → All (Ranked rank n) L → All (λ w. least < rank_of w) L
higher rank n least below L h = all_imp (Ranked rank n) (λ w. least < rank_of w) (λ w same. omega (arith, same.0)) L h

module _ (r : Register) (a : Action) where
  abbrev owners : List Violation
  owners = cond (is_ownerless r a.actor) (NoOwner a.actor ∷ []) []

  abbrev governing : List Violation
  governing = cond (is_machine (actors_of r.actors) a.actor) (governed 0 (governs_of a)) []

  abbrev uses : List Violation
  uses = use_violations r a.now a.actor 0 (uses_of a)

  in_parts : violations_of r a ≡ flags_set a.flags ++ (owners ++ (governing ++ uses))
  unfolding violations_of
  in_parts = refl

  owners_ranked : All (Ranked 2 0) owners
  owners_ranked = all_where (Ranked 2 0) (is_ownerless r a.actor) (NoOwner a.actor ∷ []) (λ e. ((refl, zero-le), tt))

  governing_ranked : All (Ranked 3 0) governing
  governing_ranked = all_where (Ranked 3 0) (is_machine (actors_of r.actors) a.actor) (governed 0 (governs_of a)) (λ e. governed_ranked 0 (governs_of a))

  pub violations_ascend : Ascends (violations_of r a)
  violations_ascend =
      let used : All (Ranked 4 0) uses = uses_ranked r a.now a.actor 0 (uses_of a) in
      let last = each_joined Precedes governing uses
      (ascends_where (is_machine (actors_of r.actors) a.actor) (governed 0 (governs_of a)) (governed_ascend 0 (governs_of a)))
      (uses_ascend r a.now a.actor 0 (uses_of a)) (ranks_apart 3 0 governing uses governing_ranked (higher 4 0 3 (omega arith) uses used)) in
      let middle = each_joined Precedes owners (governing ++ uses)
      (ascends_where (is_ownerless r a.actor) (NoOwner a.actor ∷ []) (tt, tt)) last
      (ranks_apart 2 0 owners (governing ++ uses) owners_ranked
      (all_append (λ w. 2 < rank_of w) governing uses (higher 3 0 2 (omega arith) governing governing_ranked) (higher 4 0 2 (omega arith) uses used))) in
      rw in_parts
      (each_joined Precedes (flags_set a.flags) (owners ++ (governing ++ uses)) (flags_ascend a.flags) middle
      (ranks_apart 1 0 (flags_set a.flags) (owners ++ (governing ++ uses)) (flags_ranked a.flags)
      (all_append (λ w. 1 < rank_of w) owners (governing ++ uses) (higher 2 0 1 (omega arith) owners owners_ranked)
      (all_append (λ w. 1 < rank_of w) governing uses (higher 3 0 1 (omega arith) governing governing_ranked) (higher 4 0 1 (omega arith) uses used)))))

  governs_violates : is_machine (actors_of r.actors) a.actor ≡ true → (v : Violation) → v ≡ MachineGoverns (value_of v) → value_of v < 0 + length (governs_of a) → Violates r a v
  governs_violates machine v e below =
      rw e (omega (arith, below, zero-add (length (governs_of a))), machine)

  use_violates : (v : Violation) → OneSays r a.now a.actor 0 (uses_of a) v → Violates r a v
  use_violates v h =
      ⊎_elim (λ k. rw (k.0, zero-add h.0) (h.1, k.1)) (λ k. rw (k.0, zero-add h.0) (h.1, k.1, k.2)) h.2

  all_violate : All (Violates r a) (violations_of r a)
  all_violate =
      rw in_parts
      (all_append (Violates r a) (flags_set a.flags) (owners ++ (governing ++ uses)) (flags_out r a)
      (all_append (Violates r a) owners (governing ++ uses)
      (all_where (Violates r a) (is_ownerless r a.actor) (NoOwner a.actor ∷ []) (λ e. ((refl, e), tt)))
      (all_append (Violates r a) governing uses
      (all_where (Violates r a) (is_machine (actors_of r.actors) a.actor) (governed 0 (governs_of a))
      (λ e. all_imp (λ v. (v ≡ MachineGoverns (value_of v)) × (0 ≤ value_of v) × (value_of v < 0 + length (governs_of a))) (Violates r a)
      (λ v h. governs_violates e v h.0 h.2) (governed 0 (governs_of a)) (governed_out 0 (governs_of a))))
      (all_imp (OneSays r a.now a.actor 0 (uses_of a)) (Violates r a) use_violates uses (uses_out r a.now a.actor 0 (uses_of a))))))

  pub listed_violates : (v : Violation) → IsIn (violations_of r a) v → Violates r a v
  listed_violates = all_place (Violates r a) (violations_of r a) all_violate

  in_uses : (v : Violation) → IsIn uses v → IsIn (violations_of r a) v
  in_uses v at =
      rw in_parts (place_right (flags_set a.flags) (owners ++ (governing ++ uses)) v (place_right owners (governing ++ uses) v (place_right governing uses v at)))

  pub violates_listed : (v : Violation) → Violates r a v → IsIn (violations_of r a) v
  violates_listed (FlagSet i) h = rw in_parts (place_left (flags_set a.flags) (owners ++ (governing ++ uses)) (FlagSet i) (flag_in a.flags i h.0 h.1))
  violates_listed (NoOwner id) h =
      rw (in_parts, h.0)
      (place_right (flags_set a.flags) (owners ++ (governing ++ uses)) (NoOwner a.actor)
      (place_left owners (governing ++ uses) (NoOwner a.actor)
      (place_where (is_ownerless r a.actor) (NoOwner a.actor ∷ []) (NoOwner a.actor) h.1 (place_here (NoOwner a.actor) []))))
  violates_listed (MachineGoverns at) h =
      rw in_parts
      (place_right (flags_set a.flags) (owners ++ (governing ++ uses)) (MachineGoverns at)
      (place_right owners (governing ++ uses) (MachineGoverns at)
      (place_left governing uses (MachineGoverns at)
      (place_where (is_machine (actors_of r.actors) a.actor) (governed 0 (governs_of a)) (MachineGoverns at) h.1
      (governed_in 0 (governs_of a) at zero-le (rw zero-add h.0))))))
  violates_listed (NotCovered at) h =
      in_uses (NotCovered at) (rw zero-add at (not_covered_in r a.now a.actor (uses_of a) 0 at h.0 h.1))
  violates_listed (OwnerNotCovering at) h =
      in_uses (OwnerNotCovering at) (rw zero-add at (owner_in_lem r a.now a.actor (uses_of a) 0 at h.0 h.1 h.2))
