-- The invariant of the loop of `columns::is_among`: `x` stands among the first `n` where it was hit or stands among what is left (Loops). Assumes
-- nothing.
use Rattle.std.proofs.Common.{◌||◌, eqb, take}
use Rattle.lists.specs.Lists.{any}
use Rattle.lists.specs.Loops.{Loop}
use Rattle.columns.proofs.is_among.Given as goal

abbrev pub invariant-loop-y : goal.invariant-loop-y
invariant-loop-y l = Loop (λ at m. l.hit || any (eqb l.x) m) l.n l.column l.y-index-end l.y-index (any (eqb l.x) (take l.n l.column))
