-- The invariant of the loop of `buffers::copy`: so far the first bytes of the text are written over the buffer.
use Rattle.std.proofs.Common.{◌≡◌, length, take}
use Rattle.lists.specs.Lists.{splice}
use Rattle.buffers.proofs.copy.Given as goal

abbrev pub invariant-loop-i : goal.invariant-loop-i
invariant-loop-i l = (length l.buf ≡ length l.initial.buf) × (l.buf ≡ splice l.at (take l.i l.t) l.initial.buf)
