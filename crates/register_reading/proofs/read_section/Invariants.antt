-- The array is filled from the front, one thing read in each turn.
use Rattle.std.proofs.Common.{◌≡◌, ◌≤◌, length}
use Rattle.lines.specs.Answers.{state_of}
use Rattle.register_reading.specs.Filling.{Listing}
use Rattle.register_reading.proofs.read_section.Given as goal

abbrev pub invariant-loop-i : goal.invariant-loop-i
invariant-loop-i g l =
    (length l.list ≡ g.row.N) × (l.count ≤ g.row.N)
    × Listing l.s (g.T.Record.reads l.version) g.row.N g.T.Record.absent (state_of l.s l.initial.cursor) l.count l.list l.cursor l.i
