-- The invariant of the loop of `soundness::ranges::rights_fit`: every number says rights where those before do and every number of what is left does
-- (Loops). Assumes nothing.
use Rattle.std.proofs.Common.{◌&&◌, take}
use Rattle.lists.specs.Lists.{every}
use Rattle.lists.specs.Loops.{Loop}
use Rattle.rights.specs.Rights.{is_rights}
use Rattle.soundness.proofs.ranges.rights_fit.Given as goal

abbrev pub invariant-loop-number : goal.invariant-loop-number
invariant-loop-number l = Loop (λ at m. l.fit && every is_rights m) l.n l.column l.number-index-end l.number-index (every is_rights (take l.n l.column))
