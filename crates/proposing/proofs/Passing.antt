-- A loop from the front that looks for the first marked claim of a signer. Assumes nothing.
use Rattle.std.proofs.Common.{None, Some, ◌≡◌, refl, sym, ap, ◌∙◌, Bool, true, false, List, [], ◌∷◌, ℕ, suc, ◌+◌, ◌-◌, ◌≤◌, ◌<◌, add-one, arith}
use native.Mathlib.Nat.{sub-zero}
use Rattle.lists.specs.Lists.{counted}
use Rattle.gate_rules.specs.Gate.{first_of}
use Rattle.gate_rules.specs.Places.{first_hit, first_miss, first_none}
use Rattle.proposing.specs.Planned.{place_first, marked_of, first_marked}

-- the loop has come to place i: what is looked for among all is what is looked for from there on
pub record Passing (holders : List ℕ) (marks : List Bool) (n g i : ℕ) : Type 0 where
  pub within : i ≤ n
  pub ahead : first_marked holders marks n g ≡ first_of (marked_of holders marks g) (counted i (n - i))

module _ {holders : List ℕ} {marks : List Bool} {n g : ℕ} where
  pub passing_start : Passing holders marks n g 0
  unfolding first_marked
  passing_start = record { within = omega arith; ahead = rw (sub-zero n) }

  module _ {i : ℕ} (s : Passing holders marks n g i) where
    module _ (h : i < n) where
      one_more : counted i (n - i) ≡ i ∷ counted (suc i) (n - suc i)
      one_more = let one : n - i ≡ suc (n - suc i) = omega arith in ap (counted i) one

      pub passing_hit : marked_of holders marks g i ≡ true → Some i ≡ place_first (first_marked holders marks n g)
      passing_hit e =
          ap place_first (sym (s.ahead ∙ ap (first_of (marked_of holders marks g)) one_more
          ∙ first_hit (marked_of holders marks g) i (counted (suc i) (n - suc i)) e))

      pub passing_miss : marked_of holders marks g i ≡ false → Passing holders marks n g (i + 1)
      passing_miss e =
          record {
            within = omega arith;
            ahead = s.ahead ∙ ap (first_of (marked_of holders marks g)) one_more
                ∙ first_miss (marked_of holders marks g) i (counted (suc i) (n - suc i)) e
                ∙ ap (λ k. first_of (marked_of holders marks g) (counted k (n - k))) (sym (add-one i));
          }

    pub passing_done : n ≤ i → None ≡ place_first (first_marked holders marks n g)
    passing_done h =
        let none : n - i ≡ 0 = omega arith in
        ap place_first (sym (s.ahead ∙ ap (λ k. first_of (marked_of holders marks g) (counted i k)) none
        ∙ first_none (marked_of holders marks g) [] refl))

-- one place more is passed, so fewer are left
pub less : (top i : ℕ) → i < top → top - (i + 1) < top - i
less top i h = omega arith
