-- The invariant of the loop of `soundness::ranges::numbers_fit`: every number is in range where those before were and every number of what is left is
-- (Loops). Assumes nothing.
use Rattle.std.proofs.Common.{◌&&◌, take}
use Rattle.lists.specs.Lists.{every}
use Rattle.lists.specs.Loops.{Loop}
use Rattle.register.specs.Limits.{ranged}
use Rattle.soundness.proofs.ranges.numbers_fit.Given as goal

abbrev pub invariant-loop-number : goal.invariant-loop-number
invariant-loop-number l =
    Loop (λ at m. l.fit && every (ranged l.least l.greatest) m) l.n l.column l.number-index-end l.number-index (every (ranged l.least l.greatest) (take l.n l.column))
