-- The invariant of the loop of `lending::path_at`: the places are filled from the front, each with the byte that stands there.
use Rattle.std.proofs.Common.{drop, get_or}
use Rattle.lists.specs.Fills.{Filling}
use Rattle.register.specs.Limits.{path_limit}
use Rattle.lending.proofs.path_at.Given as goal

abbrev pub invariant-loop-i : goal.invariant-loop-i
invariant-loop-i l = Filling path_limit (λ k. get_or (drop l.at l.bytes) k 0) path_limit 0 l.i l.path
