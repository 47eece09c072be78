-- What is proved of refusals and of ordered tests. Assumes nothing.
use Rattle.std.proofs.Common.{Err, ◌≡◌, true, false, List, ◌∷◌, ◌++◌}
use Rattle.lists.specs.Lists.{All}
use Rattle.refusals.specs.Refusals.{number_of, Test, outcome_of}
use Rattle.refusals.specs.declared.Refusal.{Refusal}
use Rattle.refusals.proofs.Numbers as numbers
use Rattle.refusals.proofs.Ordered as ordered

-- 1. No number is that of two refusals.
pub number_same : (why other : Refusal) → number_of why ≡ number_of other → why ≡ other
number_same = numbers.number_same

-- 2. The first test that is not passed tells its refusal, whatever tests follow it.
pub first_decides : (before : List Test) (t : Test) (after : List Test) → All (λ b. b.passed ≡ true) before → t.passed ≡ false
    → outcome_of (before ++ t ∷ after) ≡ Err t.refusal
first_decides = ordered.first_decides
