-- The invariant of the loop of `columns::resource_columns`: each column is filled from the front (Filling).
use Rattle.register.specs.Register.{no_resource}
use Rattle.columns.specs.Columns.{resource_id, keeper_of, public_of}
use Rattle.columns.proofs.Filling.{Filling}
use Rattle.columns.proofs.resource_columns.Given as goal

abbrev pub invariant-loop-i : goal.invariant-loop-i
invariant-loop-i l =
    Filling resource_id no_resource l.k.list l.top l.i l.columns.reports
    × Filling keeper_of no_resource l.k.list l.top l.i l.columns.keepers
    × Filling public_of no_resource l.k.list l.top l.i l.columns.publics
