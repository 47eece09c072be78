-- `coverage::gathering::gather` meets its contract. The loop's invariant: the array holds the places below `i` of the claims that `x` holds and that
-- have not ended, and zeros past them (Collecting). Assumes nothing.
use Rattle.std.proofs.Common.{◌≡◌, List, ℕ}
use Rattle.register.specs.Limits.{claim_limit}
use Rattle.coverage.specs.Gathering.{looked_at, held_at}
use Rattle.coverage.specs.GatheringLaws.{Looked}
use Rattle.coverage.proofs.Collecting.{Collecting}
use Rattle.coverage.proofs.gathering.gather.Given as goal

-- the loop over the first n claims has come to place i, and top is how many are looked at
pub record Gathering (holders ends : List ℕ) (n x moment top i count : ℕ) (places : List ℕ) : Type 0 where
  pub whole : top ≡ looked_at holders ends n
  pub within : Looked holders ends n
  pub collected : Collecting (λ j. held_at holders ends x moment j) claim_limit top i count places

abbrev pub invariant-loop-i : goal.invariant-loop-i
invariant-loop-i l = Gathering l.holders l.ends l.n l.x l.moment l.i-end l.i l.count l.places
