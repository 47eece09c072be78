-- `withdrawing::gone_by` meets its contract: whether each claim goes is told in turn (Going). Assumes nothing.
use Rattle.std.proofs.Common.{◌≡◌, ℕ, ◌<◌, Bool}
use Rattle.register.specs.Limits.{claim_limit}
use Rattle.withdrawing.proofs.Going.{Telling}
use Rattle.withdrawing.proofs.gone_by.Given as goal

abbrev pub invariant-loop-i : goal.invariant-loop-i
invariant-loop-i g l =
    (P : ℕ → Bool) → ((j : ℕ) → j < claim_limit → (b : Bool) → goal.F-post g l.named j b → b ≡ P j) → Telling P l.ups l.i-end l.i l.gone
