-- The invariant of the loop of `columns::latest_place`: `i`, the end of what is left, is at most the column's length, and what is asked for below `n`
-- is what is asked for below `i`.
use Rattle.std.proofs.Common.{◌≡◌, ◌≤◌, length}
use Rattle.columns.specs.Columns.{latest_place}
use Rattle.columns.proofs.latest_place.Given as goal

abbrev pub invariant-loop-i : goal.invariant-loop-i
invariant-loop-i l = (l.i ≤ length l.column) × (latest_place l.column l.n l.x ≡ latest_place l.column l.i l.x)
