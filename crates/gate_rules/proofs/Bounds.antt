-- Laws: How many violations and hop counts an answer has at most. Assumes nothing.
use Rattle.std.specs.Prelude.{◌≡◌, refl, Bool, true, false, not, cond, List, [], ◌∷◌, ◌++◌, ℕ, suc, ◌≤◌, ◌/◌, ◌%◌, ◌^◌, eqb, length}
use Rattle.std.proofs.Common.{ap, arith, length-append, length-take}
use Rattle.std.proofs.lemmas.List.{length-map}
use Rattle.lists.specs.Tests.{cases}
use Rattle.lists.specs.Lists.{any, counted, filter}
use Rattle.lists.specs.Filters.{dropping_length}
use Rattle.register.specs.Limits.{hop_limit}
use Rattle.register.specs.Register.{claims_of, actors_of}
use Rattle.register.specs.declared.Register.{Register}
use Rattle.soundness_rules.specs.Sound.{sound, is_machine}
use Rattle.actions.specs.Actions.{violation_limit, flag_count, uses_of, governs_of, action_fits}
use Rattle.actions.specs.declared.Usage.{Usage}
use Rattle.actions.specs.declared.Action.{Action}
use Rattle.actions.specs.declared.Violation.{Violation}
use Rattle.actions.specs.declared.Violation.TheVariants.{FlagSet, NoOwner, NotCovered, OwnerNotCovering}
use Rattle.gate_rules.specs.Gate.{covering, covers, is_ownerless, owner_lacks, flags_set, governed, use_violation, use_violations, violations_of, hops_for, hop_counts, reach_of}
use Rattle.gate_rules.specs.Nearest.{nearest_none}
use Rattle.gate_rules.proofs.Laws.{action_fits_out, use_violations_nil, use_violations_cons}
use Rattle.gate_rules.proofs.Coverage.{nearest}
use Rattle.gate_rules.proofs.Trace.{place_hops_most}

flags_most_lem : (flags : ℕ) → length (flags_set flags) ≤ flag_count
unfolding flags_set
flags_most_lem flags =
    omega (
      arith,
      length-map (filter (λ i. eqb (flags / 2 ^ i % 2) 1) (counted 0 flag_count)) (λ i. FlagSet i),
      dropping_length (λ M i. not (eqb (flags / 2 ^ i % 2) 1)) (counted 0 flag_count),
    )

owner_most : (b : Bool) (v : Violation) → length (cond b (v ∷ []) []) ≤ 1
owner_most true v = omega arith
owner_most false v = omega arith

governed_length : (n : ℕ) (entries : List ℕ) → length (governed n entries) ≡ length entries
unfolding governed
governed_length n [] = refl
governed_length n (g ∷ entries) = ap suc (governed_length (suc n) entries)

governed_most_lem : (b : Bool) (entries : List ℕ) → length (cond b (governed 0 entries) []) ≤ length entries
governed_most_lem true entries = omega (arith, governed_length 0 entries)
governed_most_lem false entries = omega arith

choice_most : (covered lacks : Bool) (f s : Violation) → length (cond covered (cond lacks (s ∷ []) []) (f ∷ [])) ≤ 1
choice_most true lacks f s = owner_most lacks s
choice_most false lacks f s = omega arith

use_most : (r : Register) (moment x n : ℕ) (u : Usage) → length (use_violation r moment x n u) ≤ 1
unfolding use_violation
use_most r moment x n u = choice_most (covers r moment x u) (owner_lacks r moment x u) (NotCovered n) (OwnerNotCovering n)

uses_most_lem : (r : Register) (moment x n : ℕ) (us : List Usage) → length (use_violations r moment x n us) ≤ length us
uses_most_lem r moment x n [] = rw (use_violations_nil r moment x n) (omega arith)
uses_most_lem r moment x n (u ∷ us) =
    rw (use_violations_cons r moment x n u us)
    (omega (arith, length-append (use_violation r moment x n u) (use_violations r moment x (suc n) us), use_most r moment x n u, uses_most_lem r moment x (suc n) us))

-- an action in range has at most 51 violations: ten flags, one owner, eight governed entries, thirty-two uses
pub violations_most : (r : Register) (a : Action) → action_fits a ≡ true → length (violations_of r a) ≤ violation_limit
unfolding violations_of
violations_most r a h =
    let flags = flags_set a.flags in
    let owners : List Violation = cond (is_ownerless r a.actor) (NoOwner a.actor ∷ []) [] in
    let governing : List Violation = cond (is_machine (actors_of r.actors) a.actor) (governed 0 (governs_of a)) [] in
    let uses = use_violations r a.now a.actor 0 (uses_of a) in
    four_most flags owners governing uses (flags_most_lem a.flags) (owner_most (is_ownerless r a.actor) (NoOwner a.actor))
    (omega (arith, governed_most_lem (is_machine (actors_of r.actors) a.actor) (governs_of a), length-take a.governed a.governs, (action_fits_out a h).governed_most))
    (omega (arith, uses_most_lem r a.now a.actor 0 (uses_of a), length-take a.used a.uses, (action_fits_out a h).uses_most))
  where
    four_most : (flags owners governing uses : List Violation) → length flags ≤ 10 → length owners ≤ 1 → length governing ≤ 8 → length uses ≤ 32
        → length (flags ++ (owners ++ (governing ++ uses))) ≤ 51
    four_most flags owners governing uses f o g u =
        omega (arith, length-append flags (owners ++ (governing ++ uses)), length-append owners (governing ++ uses), length-append governing uses)

-- there are as many hop counts as uses, each at most 16 in a sound register
pub hop_counts_length : (r : Register) (a : Action) → length (hop_counts r a) ≡ length (uses_of a)
hop_counts_length r a = length-map (uses_of a) (λ u. hops_for r a.now a.actor u)

pub hops_most : (r : Register) → sound r ≡ true → (moment x : ℕ) (u : Usage) → hops_for r moment x u ≤ hop_limit
unfolding hops_for
hops_most r h moment x u =
    cases (any (covering r moment x u) (claims_of r.claims))
    (λ e. let found = nearest r moment x u e in
    omega (arith, found.2, place_hops_most r h found.0 found.1.place))
    (λ e. rw (nearest_none (covering r moment x u) (λ c. reach_of r c.resource u.resource) (claims_of r.claims) e) (omega arith))
