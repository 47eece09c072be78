-- The invariant of the loop of `columns::actor_columns`: each column is filled from the front (Filling).
use Rattle.register.specs.Register.{no_actor}
use Rattle.columns.specs.Columns.{actor_id, actor_kind, actor_owner}
use Rattle.columns.proofs.Filling.{Filling}
use Rattle.columns.proofs.actor_columns.Given as goal

abbrev pub invariant-loop-i : goal.invariant-loop-i
invariant-loop-i l =
    Filling actor_id no_actor l.k.list l.top l.i l.columns.names
    × Filling actor_kind no_actor l.k.list l.top l.i l.columns.kinds
    × Filling actor_owner no_actor l.k.list l.top l.i l.columns.owners
