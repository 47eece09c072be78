-- `lending::actors_in` meets its contract: each column is filled from the front up to the count, each place with the number of the actor that stands
-- there (Filling). Assumes nothing.
use Rattle.std.proofs.Common.{List, ℕ, get_or}
use Rattle.lists.specs.Fills.{Filling}
use Rattle.register.specs.Limits.{actor_limit}
use Rattle.register.specs.Register.{no_actor}
use Rattle.register.specs.declared.Actor.{Actor}
use Rattle.register_bytes.specs.Bytes.{actor_size, actor_in, records_in}
use Rattle.columns.specs.Columns.{actor_id, actor_kind, actor_owner}
use Rattle.lending.proofs.actors_in.Given as goal

abbrev pub actors : List ℕ → List Actor
actors bytes = records_in (actor_in bytes) actor_size 0 actor_limit

-- the column holds f of the first i actors
abbrev pub Column : List ℕ → (Actor → ℕ) → ℕ → ℕ → List ℕ → Type 0
Column bytes f top i column = Filling actor_limit (λ k. f (get_or (actors bytes) k no_actor)) top (f no_actor) i column

abbrev pub invariant-loop-i : goal.invariant-loop-i
invariant-loop-i l =
    Column l.bytes actor_id l.i-end l.i l.columns.names × Column l.bytes actor_kind l.i-end l.i l.columns.kinds × Column l.bytes actor_owner l.i-end l.i l.columns.owners
