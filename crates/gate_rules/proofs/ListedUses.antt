-- The violations of uses, 4 and 5: each stands where its sentence holds, and they ascend by position.
-- Assumes nothing.
use Rattle.std.proofs.Common.{◌≡◌, refl, sym, ap, Bool, true, false, cond, List, [], ◌∷◌, ◌⊎◌, inl, inr, ⊎_elim, ℕ, zero, suc, ◌+◌, ◌<◌, add-zero, arith, length, get_or}
use Rattle.lists.specs.Lists.{All}
use Rattle.lists.specs.Each.{all_imp, all_append}
use Rattle.register.specs.declared.Register.{Register}
use Rattle.actions.specs.Actions.{no_use, value_of}
use Rattle.actions.specs.declared.Usage.{Usage}
use Rattle.actions.specs.declared.Violation.{Violation}
use Rattle.actions.specs.declared.Violation.TheVariants.{NotCovered, OwnerNotCovering}
use Rattle.gate_rules.specs.Gate.{covers, owner_lacks, use_violation, use_violations}
use Rattle.gate_rules.specs.Listing.{rank_of, Precedes, Ascends}
use Rattle.gate_rules.specs.Authority.{IsIn}
use Rattle.gate_rules.specs.Places.{place_here}
use Rattle.gate_rules.proofs.Laws.{use_violations_nil, use_violations_cons}
use Rattle.gate_rules.proofs.Members.{place_left, place_right, each_joined}
use Rattle.gate_rules.proofs.Listed.{Ranked, behind}

-- what a violation of a use at position n says, where it is told whether the actor covers the use and
-- whether the owner does not
abbrev pub UseSays : Bool → Bool → ℕ → Violation → Type 0
UseSays covered lacks n v = ((v ≡ NotCovered n) × (covered ≡ false)) ⊎ ((v ≡ OwnerNotCovering n) × (covered ≡ true) × (lacks ≡ true))

abbrev chosen : Bool → Bool → ℕ → List Violation
chosen covered lacks n = cond covered (cond lacks (OwnerNotCovering n ∷ []) []) (NotCovered n ∷ [])

chosen_out : (covered lacks : Bool) (n : ℕ) → All (UseSays covered lacks n) (chosen covered lacks n)
chosen_out true true n = (inr (refl, refl, refl), tt)
chosen_out true false n = tt
chosen_out false lacks n = (inl (refl, refl), tt)

chosen_ascends : (covered lacks : Bool) (n : ℕ) → Ascends (chosen covered lacks n)
chosen_ascends true true n = (tt, tt)
chosen_ascends true false n = tt
chosen_ascends false lacks n = (tt, tt)

says_at : (covered lacks : Bool) (m n : ℕ) (v : Violation) → m ≡ n → UseSays covered lacks m v → UseSays covered lacks n v
says_at covered lacks m n v e h = rw (← e) h

says_ranked : (covered lacks : Bool) (n : ℕ) (v : Violation) → UseSays covered lacks n v → (rank_of v ≡ 4) × (value_of v ≡ n)
says_ranked covered lacks n v h = ⊎_elim (λ k. (ap rank_of k.0, ap value_of k.0)) (λ k. (ap rank_of k.0, ap value_of k.0)) h

module _ (r : Register) (moment x : ℕ) where
  -- of the uses from position n on, one says what v is
  abbrev pub OneSays : ℕ → List Usage → Violation → Type 0
  OneSays n us v = (k : ℕ) × (k < length us) × UseSays (covers r moment x (get_or us k no_use)) (owner_lacks r moment x (get_or us k no_use)) (n + k) v

  use_out : (n : ℕ) (u : Usage) → All (UseSays (covers r moment x u) (owner_lacks r moment x u) n) (use_violation r moment x n u)
  unfolding use_violation
  use_out n u = chosen_out (covers r moment x u) (owner_lacks r moment x u) n

  use_ascends : (n : ℕ) (u : Usage) → Ascends (use_violation r moment x n u)
  unfolding use_violation
  use_ascends n u = chosen_ascends (covers r moment x u) (owner_lacks r moment x u) n

  pub uses_out : (n : ℕ) (us : List Usage) → All (OneSays n us) (use_violations r moment x n us)
  uses_out n [] = rw (use_violations_nil r moment x n) tt
  uses_out n (u ∷ us) =
      rw (use_violations_cons r moment x n u us)
      (all_append (OneSays n (u ∷ us)) (use_violation r moment x n u) (use_violations r moment x (suc n) us)
      (all_imp (UseSays (covers r moment x u) (owner_lacks r moment x u) n) (OneSays n (u ∷ us))
      (λ v h. (0, omega arith, says_at (covers r moment x u) (owner_lacks r moment x u) n (n + 0) v (sym (add-zero n)) h)) (use_violation r moment x n u) (use_out n u))
      (all_imp (OneSays (suc n) us) (OneSays n (u ∷ us))
      (λ v h. (suc h.0, omega (arith, h.1), says_at (covers r moment x (get_or us h.0 no_use)) (owner_lacks r moment x (get_or us h.0 no_use)) (suc n + h.0) (n + suc h.0) v (omega arith) h.2))
      (use_violations r moment x (suc n) us) (uses_out (suc n) us)))

  pub uses_ranked : (n : ℕ) (us : List Usage) → All (Ranked 4 n) (use_violations r moment x n us)
  uses_ranked n us =
      all_imp (OneSays n us) (Ranked 4 n)
      (λ v h. let told = says_ranked (covers r moment x (get_or us h.0 no_use)) (owner_lacks r moment x (get_or us h.0 no_use)) (n + h.0) v h.2 in
      (told.0, omega (arith, told.1)))
      (use_violations r moment x n us) (uses_out n us)

  pub uses_ascend : (n : ℕ) (us : List Usage) → Ascends (use_violations r moment x n us)
  uses_ascend n [] = rw (use_violations_nil r moment x n) tt
  uses_ascend n (u ∷ us) =
      rw (use_violations_cons r moment x n u us)
      (each_joined Precedes (use_violation r moment x n u) (use_violations r moment x (suc n) us) (use_ascends n u) (uses_ascend (suc n) us)
      (all_imp (UseSays (covers r moment x u) (owner_lacks r moment x u) n) (λ v. All (Precedes v) (use_violations r moment x (suc n) us))
      (λ v h. let told = says_ranked (covers r moment x u) (owner_lacks r moment x u) n v h in
      behind 4 n v told.0 told.1 (use_violations r moment x (suc n) us) (uses_ranked (suc n) us))
      (use_violation r moment x n u) (use_out n u)))

  -- what one use gives stands in the list
  use_place : (us : List Usage) (n k : ℕ) → k < length us → (v : Violation) → IsIn (use_violation r moment x (n + k) (get_or us k no_use)) v
      → IsIn (use_violations r moment x n us) v
  use_place [] n k below v at = absurd (omega arith)
  use_place (u ∷ us) n zero below v at =
      rw (use_violations_cons r moment x n u us)
      (place_left (use_violation r moment x n u) (use_violations r moment x (suc n) us) v (rw (add-zero n) at at))
  use_place (u ∷ us) n (suc k) below v at =
      let same : n + suc k ≡ suc n + k = omega arith in
      rw (use_violations_cons r moment x n u us)
      (place_right (use_violation r moment x n u) (use_violations r moment x (suc n) us) v
      (use_place us (suc n) k (omega arith) v (rw same at at)))

  pub not_covered_in : (us : List Usage) (n k : ℕ) → k < length us → covers r moment x (get_or us k no_use) ≡ false
      → IsIn (use_violations r moment x n us) (NotCovered (n + k))
  unfolding use_violation
  not_covered_in us n k below e = use_place us n k below (NotCovered (n + k)) (rw e (place_here (NotCovered (n + k)) []))

  pub owner_in_lem : (us : List Usage) (n k : ℕ) → k < length us → covers r moment x (get_or us k no_use) ≡ true → owner_lacks r moment x (get_or us k no_use) ≡ true
      → IsIn (use_violations r moment x n us) (OwnerNotCovering (n + k))
  unfolding use_violation
  owner_in_lem us n k below e lacks = use_place us n k below (OwnerNotCovering (n + k)) (rw (e, lacks) (place_here (OwnerNotCovering (n + k)) []))
