-- `coverage::reaching::nearest_covering` meets its contract. The loop's invariant: what is answered is the nearest place of those left, from the one
-- taken so far and what a further one must reach (Loop). Assumes nothing.
use Rattle.std.proofs.Common.{◌≡◌, ℕ, Bool, List, [], take, Option}
use Rattle.lists.specs.Loops.{Loop}
use Rattle.coverage.specs.Coverage.{reaching, reach_at, nearest_from, nearest_covering}
use Rattle.coverage.proofs.reaching.nearest_covering.Given as goal

-- the places left decide from the nearest so far, `best`, and what a further one must reach
pub record Nearest (p : ℕ → Bool) (f : ℕ → ℕ) (k : ℕ) (places : List ℕ) (top i : ℕ) (best : Option ℕ) (bar : ℕ) (e : Option ℕ) : Type 0 where
  pub at : ℕ
  pub so_far : best ≡ nearest_from p f at bar []
  pub ahead : Loop (λ n ps. nearest_from p f at bar ps) k places top i e

abbrev pub invariant-loop-place : goal.invariant-loop-place
invariant-loop-place l =
    Nearest (reaching l.rights l.spots l.bytes l.lens l.right l.spot) (reach_at l.spots l.bytes l.lens l.spot) l.count l.places l.place-index-end
    l.place-index l.best l.bar (nearest_covering (take l.count l.places) l.rights l.spots l.bytes l.lens l.right l.spot)
