-- The invariant of the loop of `lookup::tabulate`: the arrays are the table of the places passed (Seeking), and whether these are distinct is told.
use Rattle.std.proofs.Common.{◌≡◌, take}
use Rattle.lists.specs.Lists.{distinct}
use Rattle.lookup.specs.Tables.{Indexing}
use Rattle.lookup.proofs.tabulate.Given as goal

abbrev pub invariant-loop-i : goal.invariant-loop-i
invariant-loop-i l =
    Indexing l.column l.i l.table.heads l.table.nexts × (l.distinct ≡ distinct (take l.i l.column))
