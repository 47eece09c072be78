-- The invariant of the loop of `columns::put_claims`: the claims before place `i` are put, and what comes of putting the rest is what is to come of
-- it (Sheets).
use Rattle.register.specs.Register.{claims_of}
use Rattle.columns.specs.Sheet.{sheet_with}
use Rattle.columns.proofs.Sheets.{Putting}
use Rattle.columns.proofs.put_claims.Given as goal

abbrev pub invariant-loop-i : goal.invariant-loop-i
invariant-loop-i l = Putting l.k.count l.k.list l.top l.i l.sheet (sheet_with l.initial.sheet (claims_of l.k))
