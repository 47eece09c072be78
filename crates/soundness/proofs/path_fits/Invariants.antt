-- The invariant of the loop of `soundness::path_fits`: every byte is one that a path may have where those before were and every byte of what is left
-- is (Loops). Assumes nothing.
use Rattle.std.proofs.Common.{◌&&◌, take}
use Rattle.lists.specs.Lists.{every}
use Rattle.lists.specs.Loops.{Loop}
use Rattle.register.specs.Limits.{ranged, path_byte_least, path_byte_greatest}
use Rattle.soundness.proofs.path_fits.Given as goal

abbrev pub invariant-loop-b : goal.invariant-loop-b
invariant-loop-b l =
    Loop (λ at m. l.fit && every (ranged path_byte_least path_byte_greatest) m) l.fn.o.len l.fn.o.path l.b-index-end l.b-index (every (ranged path_byte_least path_byte_greatest) (take l.fn.o.len l.fn.o.path))
