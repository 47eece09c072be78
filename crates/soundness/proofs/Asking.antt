-- Places asked from the front, without a way out of the loop. Assumes nothing.
use Rattle.std.proofs.Common.{◌≡◌, refl, sym, ap, ◌∙◌, Bool, true, false, ◌&&◌, [], ◌∷◌, ℕ, ◌+◌, ◌≤◌, ◌<◌, zero-add, add-one, arith}
use Rattle.lists.specs.Lists.{every, counted}
use Rattle.lists.specs.Each.{every_append}
use Rattle.lists.specs.Counts.{counted_last}

-- a loop that asks a test of the places from the front has come to place i
pub record Asked (first : Bool) (test : ℕ → Bool) (n i : ℕ) (stand : Bool) : Type 0 where
  pub within : i ≤ n
  pub told : stand ≡ first && every test (counted 0 i)

module _ {first : Bool} {test : ℕ → Bool} {n : ℕ} where
  pub asked_none : {stand : Bool} → stand ≡ first → Asked first test n 0 stand
  asked_none {stand} e = record { within = omega arith; told = e ∙ both first }
    where
      both : (b : Bool) → b ≡ b && true
      both true = refl
      both false = refl

  pub asked_next : {i : ℕ} {stand : Bool} → Asked first test n i stand → i < n → {answer : Bool} → answer ≡ test i → Asked first test n (i + 1) (stand && answer)
  asked_next {i} {stand} s inside {answer} e = record {
    within = omega (arith, inside);
    told =
        rw (s.told, e)
        (joined first (every test (counted 0 i)) (test i)
        ∙ ap (λ b. first && b)
        (sym (ap (λ k. every test (counted 0 k)) (add-one i)
        ∙ ap (every test) (counted_last 0 i)
        ∙ every_append test (counted 0 i) ((0 + i) ∷ [])
        ∙ ap (λ j. every test (counted 0 i) && every test (j ∷ [])) (zero-add i))));
  }
    where
      joined : (a b c : Bool) → (a && b) && c ≡ a && (b && (c && true))
      joined false b c = refl
      joined true false c = refl
      joined true true true = refl
      joined true true false = refl

  pub asked_done : {i : ℕ} {stand : Bool} → Asked first test n i stand → n ≤ i → stand ≡ first && every test (counted 0 n)
  asked_done {i} s done = let same : i ≡ n = omega (arith, s.within, done) in s.told ∙ ap (λ k. first && every test (counted 0 k)) same
