-- `lending::lay` meets its contract. The loop's invariant: the first `i` paths are laid, and the first `i` lengths stand (Laying). Assumes nothing.
use Rattle.register_bytes.specs.Bytes.{register_at}
use Rattle.lending.proofs.Laying.{Laying}
use Rattle.lending.proofs.lay.Given as goal

abbrev pub invariant-loop-i : goal.invariant-loop-i
invariant-loop-i l = Laying (register_at l.bytes).resources l.initial.paths l.i-end l.i l.paths l.lens
