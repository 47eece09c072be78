-- The first of ordered tests that is not passed decides. Assumes nothing.
use Rattle.std.proofs.Common.{Err, ◌≡◌, ◌∙◌, true, false, List, [], ◌∷◌, ◌++◌}
use Rattle.lists.specs.Lists.{All}
use Rattle.refusals.specs.Refusals.{Test, outcome_of}
use Rattle.refusals.proofs.Laws.{outcome_pass, outcome_fail}

pub first_decides : (before : List Test) (t : Test) (after : List Test) → All (λ b. b.passed ≡ true) before → t.passed ≡ false
    → outcome_of (before ++ t ∷ after) ≡ Err t.refusal
first_decides [] t after h failed = outcome_fail t after failed
first_decides (b ∷ before) t after h failed = outcome_pass b (before ++ t ∷ after) h.0 ∙ first_decides before t after h.1 failed
