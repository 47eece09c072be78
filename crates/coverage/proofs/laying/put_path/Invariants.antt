-- The invariant of the loop of `coverage::laying::put_path`: the first `i` bytes of the path are copied (Copying). Assumes nothing.
use Rattle.register.specs.Limits.{path_limit}
use Rattle.coverage.proofs.Copying.{Copying}
use Rattle.coverage.proofs.laying.put_path.Given as goal

abbrev pub invariant-loop-i : goal.invariant-loop-i
invariant-loop-i l = Copying l.initial.bytes l.at l.o.path path_limit l.i l.bytes
