-- Laws: What putting violations to the end of a held list is over lists, that there are never more than places, and how many violations flags and governed
-- entries give. Assumes nothing.
use Rattle.std.specs.Prelude.{◌≡◌, refl, List, [], ◌∷◌, ◌++◌, map, ℕ, suc, ◌+◌, ◌-◌, ◌≤◌, ◌<◌, ltb, length, set, replicate}
use Rattle.std.proofs.Common.{sym, ap, ◌∙◌, append_assoc, append-nil, arith, lt-ltb, ltb-true, length-append}
use Rattle.std.proofs.lemmas.List.{map-append, length-map, set_at}
use Rattle.lists.specs.Tests.{cases}
use Rattle.lists.specs.Lists.{counted}
use Rattle.actions.specs.Actions.{violation_limit}
use Rattle.actions.specs.declared.Violated.{Violated}
use Rattle.actions.specs.declared.Violation.{Violation}
use Rattle.actions.specs.declared.Violation.TheVariants.{FlagSet, MachineGoverns}
use Rattle.actions.specs.declared.Violations.{Violations}
use Rattle.gate_rules.specs.Gate.{governed, listed}
use Rattle.violations.specs.Pushed.{pushed, pushed_all}

-- a held list is its places and its count
held_same : (l m : List Violated) (n k : ℕ) → l ≡ m → n ≡ k → ◌≡◌ {A = Violations} (record { list = l; count = n }) (record { list = m; count = k })
held_same l m n k p q = rw (p, q)

-- an element put to the first free place, one free place less
set_free : {A : Type 0} (l : List A) (n k : ℕ) (a b : A) → length l ≡ n → set (l ++ replicate (suc k) b) n a ≡ (l ++ (a ∷ [])) ++ replicate k b
set_free l n k a b h = set_at l b (replicate k b) a n h ∙ sym (append_assoc l (a ∷ []) (replicate k b))

-- where there is a place, a violation put to the end of a held list is held at its end
pub pushed_natural : (xs : List Violation) (v : Violation) → length xs < violation_limit → pushed (listed xs) v ≡ listed (xs ++ (v ∷ []))
unfolding pushed
pushed_natural xs v h =
    let wrap : (Violation → Violated) = λ v. record { what = v } in
    let longer : length (xs ++ (v ∷ [])) ≡ length xs + 1 = length-append xs (v ∷ []) in
    let free : violation_limit - length xs ≡ suc (violation_limit - length (xs ++ (v ∷ []))) = omega arith in
    rw (lt-ltb (length xs) violation_limit h)
    (held_same _ _ _ _
    (rw (free, map-append) (set_free (map wrap xs) (length xs) (violation_limit - length (xs ++ (v ∷ []))) (wrap v) (wrap (FlagSet 0)) (length-map xs wrap)))
    (sym longer))

-- where there are places, violations put to the end of a held list one after the other are held at its end in their order
pub pushed_all_natural : (xs vs : List Violation) → length xs + length vs ≤ violation_limit → pushed_all (listed xs) vs ≡ listed (xs ++ vs)
unfolding pushed_all
pushed_all_natural xs [] h = rw append-nil
pushed_all_natural xs (v ∷ vs) h =
    let longer : length (xs ++ (v ∷ [])) ≡ length xs + 1 = length-append xs (v ∷ []) in
    rw (pushed_natural xs v (omega arith)) (pushed_all_natural (xs ++ (v ∷ [])) vs (omega arith) ∙ rw append_assoc)

-- to put two lists of violations to the end is to put the one, and then the other
pub pushed_all_append : (vs : Violations) (l m : List Violation) → pushed_all vs (l ++ m) ≡ pushed_all (pushed_all vs l) m
unfolding pushed_all
pushed_all_append vs [] m = refl
pushed_all_append vs (v ∷ l) m = pushed_all_append (pushed vs v) l m

-- no more are put than there are places
pushed_most : (vs : Violations) (v : Violation) → vs.count ≤ violation_limit → (pushed vs v).count ≤ violation_limit
unfolding pushed
pushed_most vs v few =
    cases (ltb vs.count violation_limit) (λ e. rw e (omega (arith, ltb-true vs.count violation_limit e))) (λ e. rw e few)

pub pushed_all_most : (l : List Violation) (vs : Violations) → vs.count ≤ violation_limit → (pushed_all vs l).count ≤ violation_limit
unfolding pushed_all
pushed_all_most [] vs few = few
pushed_all_most (v ∷ l) vs few = pushed_all_most l (pushed vs v) (pushed_most vs v few)

-- governed entries give violations by their positions, one for each
pub governed_counted : (n : ℕ) (entries : List ℕ) → governed n entries ≡ map (λ i. MachineGoverns i) (counted n (length entries))
unfolding governed
governed_counted n [] = refl
governed_counted n (g ∷ entries) = ap (λ vs. MachineGoverns n ∷ vs) (governed_counted (suc n) entries)
