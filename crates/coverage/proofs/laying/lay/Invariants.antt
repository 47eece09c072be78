-- `coverage::laying::lay` meets its contract. The loop's invariant: the first `i` paths are laid, and the first `i` lengths stand (Pasting). Assumes
-- nothing.
use Rattle.coverage.proofs.Pasting.{Laying}
use Rattle.coverage.proofs.laying.lay.Given as goal

abbrev pub invariant-loop-i : goal.invariant-loop-i
invariant-loop-i l = Laying l.fn.k l.initial.bytes l.i-end l.bytes l.lens l.i
