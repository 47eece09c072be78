-- A violation stands in the list exactly where its sentence holds, and the list ascends. Assumes
-- nothing.
use Rattle.std.proofs.Common.{◌≡◌, refl, sym, ap, ◌∙◌, true, List, [], ◌∷◌, inr, ℕ, suc, ◌+◌, ◌≤◌, ◌<◌, ◌/◌, ◌%◌, ◌^◌, zero-le, arith, eqb-true, eq-eqb, eqb, length}
use borrow.Author.Tests.{eqb-false}
use Rattle.lists.specs.Tests.{cases}
use Rattle.lists.specs.Lists.{All, counted, filter}
use Rattle.lists.specs.Each.{all_imp, all_both, all_map, each_all}
use Rattle.lists.specs.Filters.{filter_passed, all_dropping}
use Rattle.lists.specs.Counts.{counted_below}
use Rattle.register.specs.declared.Register.{Register}
use Rattle.actions.specs.Actions.{flag_count, value_of}
use Rattle.actions.specs.declared.Action.{Action}
use Rattle.actions.specs.declared.Violation.{Violation}
use Rattle.actions.specs.declared.Violation.TheVariants.{FlagSet, MachineGoverns}
use Rattle.gate_rules.specs.Gate.{flags_set, governed}
use Rattle.gate_rules.specs.Listing.{Violates, rank_of, Precedes, Ascends}
use Rattle.gate_rules.specs.Authority.{IsIn}
use Rattle.gate_rules.specs.Places.{place_here, place_later}
use Rattle.gate_rules.proofs.Laws.{governed_nil, governed_cons}
use Rattle.gate_rules.proofs.Members.{place_filter, place_map, place_counted, each_filter, each_mapped, counted_ascends}

-- the violations of one rank, from a value on
abbrev pub Ranked : ℕ → ℕ → Violation → Type 0
Ranked rank n v = (rank_of v ≡ rank) × (n ≤ value_of v)

-- flags
module _ (flags : ℕ) where
  flag_out : All (λ i. (i < flag_count) × (flags / 2 ^ i % 2 ≡ 1)) (filter (λ i. eqb (flags / 2 ^ i % 2) 1) (counted 0 flag_count))
  flag_out =
      all_both (λ i. i < flag_count) (λ i. eqb (flags / 2 ^ i % 2) 1 ≡ true) (λ i. (i < flag_count) × (flags / 2 ^ i % 2 ≡ 1))
      (λ i below e. (below, eqb-true (flags / 2 ^ i % 2) 1 e))
      (filter (λ i. eqb (flags / 2 ^ i % 2) 1) (counted 0 flag_count))
      (all_dropping _ (λ i. i < flag_count) (counted 0 flag_count) (counted_below 0 flag_count))
      (filter_passed (λ i. eqb (flags / 2 ^ i % 2) 1) (counted 0 flag_count))

  pub flags_ranked : All (Ranked 1 0) (flags_set flags)
  unfolding flags_set
  flags_ranked = all_map (λ i. FlagSet i) (Ranked 1 0) (filter (λ i. eqb (flags / 2 ^ i % 2) 1) (counted 0 flag_count))
      (each_all (λ L i. Ranked 1 0 (FlagSet i)) (λ L i. (refl, zero-le)) (filter (λ i. eqb (flags / 2 ^ i % 2) 1) (counted 0 flag_count)))

  pub flags_ascend : Ascends (flags_set flags)
  unfolding flags_set
  flags_ascend = each_mapped (λ i. FlagSet i) (λ i j. i < j) Precedes (λ i j h. inr (refl, h)) (filter (λ i. eqb (flags / 2 ^ i % 2) 1) (counted 0 flag_count))
      (each_filter (λ i j. i < j) (λ i. eqb (flags / 2 ^ i % 2) 1) (counted 0 flag_count) (counted_ascends flag_count 0))

  pub flag_in : (i : ℕ) → i < flag_count → flags / 2 ^ i % 2 ≡ 1 → IsIn (flags_set flags) (FlagSet i)
  unfolding flags_set
  flag_in i below set = place_map (λ i. FlagSet i) (filter (λ i. eqb (flags / 2 ^ i % 2) 1) (counted 0 flag_count)) i
      (place_filter (λ i. eqb (flags / 2 ^ i % 2) 1) (counted 0 flag_count) i (place_counted flag_count 0 i zero-le below) (eq-eqb (flags / 2 ^ i % 2) 1 set))

pub flags_out : (r : Register) (a : Action) → All (Violates r a) (flags_set a.flags)
unfolding flags_set
flags_out r a = all_map (λ i. FlagSet i) (Violates r a) (filter (λ i. eqb (a.flags / 2 ^ i % 2) 1) (counted 0 flag_count)) (flag_out a.flags)

-- governed entries, from position n
pub governed_out : (n : ℕ) (entries : List ℕ)
    → All (λ v. (v ≡ MachineGoverns (value_of v)) × (n ≤ value_of v) × (value_of v < n + length entries)) (governed n entries)
unfolding governed
governed_out n [] = tt
governed_out n (g ∷ entries) = (
  (refl, omega arith, omega arith),
  all_imp (λ v. (v ≡ MachineGoverns (value_of v)) × (suc n ≤ value_of v) × (value_of v < suc n + length entries))
      (λ v. (v ≡ MachineGoverns (value_of v)) × (n ≤ value_of v) × (value_of v < n + length (g ∷ entries)))
      (λ v h. (h.0, omega (arith, h.1), omega (arith, h.2))) (governed (suc n) entries) (governed_out (suc n) entries),
)

governs_rank : (v : Violation) (n : ℕ) → v ≡ MachineGoverns n → rank_of v ≡ 3
governs_rank v n e = ap rank_of e

pub governed_ranked : (n : ℕ) (entries : List ℕ) → All (Ranked 3 n) (governed n entries)
governed_ranked n entries =
    all_imp (λ v. (v ≡ MachineGoverns (value_of v)) × (n ≤ value_of v) × (value_of v < n + length entries)) (Ranked 3 n)
    (λ v h. (governs_rank v (value_of v) h.0, h.1)) (governed n entries) (governed_out n entries)

-- of one rank, a value comes before all from the next value on
pub behind : (rank n : ℕ) (v : Violation) → rank_of v ≡ rank → value_of v ≡ n → (L : List Violation) → All (Ranked rank (suc n)) L → All (Precedes v) L
behind rank n v same value L h =
    all_imp (Ranked rank (suc n)) (Precedes v) (λ w k. inr (same ∙ sym k.0, omega (arith, value, k.1))) L h

pub governed_ascend : (n : ℕ) (entries : List ℕ) → Ascends (governed n entries)
governed_ascend n [] = rw (governed_nil n) tt
governed_ascend n (g ∷ entries) =
    rw (governed_cons n g entries)
    (behind 3 n (MachineGoverns n) refl refl (governed (suc n) entries) (governed_ranked (suc n) entries), governed_ascend (suc n) entries)

pub governed_in : (n : ℕ) (entries : List ℕ) (k : ℕ) → n ≤ k → k < n + length entries → IsIn (governed n entries) (MachineGoverns k)
governed_in n [] k low high = absurd (omega arith)
governed_in n (g ∷ entries) k low high =
    rw (governed_cons n g entries)
    (cases (eqb n k)
    (λ e. rw (eqb-true n k e) (place_here (MachineGoverns k) (governed (suc k) entries)))
    (λ e. let other = eqb-false n k e in
    place_later (MachineGoverns n) (governed (suc n) entries) (MachineGoverns k) (governed_in (suc n) entries k (omega arith) (omega arith))))
