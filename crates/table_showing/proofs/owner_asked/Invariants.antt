-- `table_showing::owner_asked` meets its contract. The loop's invariant: the answer is the owner of the first machine left that is asked for. Assumes
-- nothing.
use Rattle.lists.specs.Loops.{Loop}
use Rattle.table_showing.specs.Shown.{owner_shown}
use Rattle.table_showing.specs.Columns.{owners_in}
use Rattle.table_showing.proofs.Owning.{first_owner}
use Rattle.table_showing.proofs.owner_asked.Given as goal

abbrev pub invariant-loop-a : goal.invariant-loop-a
invariant-loop-a l = Loop (λ n rest. first_owner l.x rest) l.fn.k.count l.fn.k.list l.top l.a-index (owner_shown (owners_in l.fn.k l.x))
