-- What the loop of `guvrendik_sound_table` keeps: the first `i` records of the table are in the sheet.
use Rattle.std.proofs.Common.{◌≡◌, length}
use Rattle.columns.specs.Sheet.{sheet_limit}
use Rattle.portal.proofs.Taking.{Taken}
use Rattle.portal.proofs.guvrendik_sound_table.Given as goal

abbrev pub invariant-loop-i : goal.invariant-loop-i
invariant-loop-i l = record { long : length l.sheet ≡ sheet_limit; taken : Taken l.claims l.sheet l.i }
