-- `lending::actors_in` meets its contract (Filling). Assumes nothing.
use Rattle.std.proofs.Common.{refl, ap, ◌∙◌, ◌<◌, min, arith}
use Rattle.lists.specs.Fills.{filling_next}
use Rattle.register.specs.Limits.{actor_limit}
use Rattle.register.specs.Register.{no_actor}
use Rattle.register_bytes.specs.Bytes.{actor_size, actor_in}
use Rattle.register_bytes.specs.Laws.{records_length}
use Rattle.columns.specs.Columns.{actor_id, actor_kind, actor_owner}
use Rattle.lending.proofs.Filling.{field_read, column_filled}
use Rattle.lending.proofs.actors_in.Invariants.{actors}
use Rattle.lending.proofs.actors_in.Goals as goal

pub loop-i-preserved : goal.loop-i-preserved
loop-i-preserved c =
    let bytes = c.args.bytes.now in
    let inv = c.loop-i.invariant in
    let here = c.loop-i-test.true in
    let inside : c.loop-i.i < actor_limit = omega (arith, here, c.min-i-end.ensures) in
    let read = field_read bytes (actor_in bytes) actor_size 0 actor_limit no_actor inside in (
      filling_next inv.0 _ here (read actor_id 0 refl _ _ c.number_at.ensures (omega arith)),
      filling_next inv.1 _ here (read actor_kind 1 refl _ _ c.number_at-in-loop-i.ensures (omega arith)),
      filling_next inv.2 _ here (read actor_owner 2 refl _ _ c.number_at-in-loop-i-2.ensures (omega arith)),
    )

pub returns : goal.returns
returns c =
    let bytes = c.args.bytes.now in
    let inv = c.loop-i.invariant in
    let past = c.loop-i-test.false in
    let long = records_length (actor_in bytes) actor_size actor_limit 0 in
    let bound = c.min-i-end.ensures ∙ ap (λ n. min n actor_limit) c.requires.1 in
    rw (
      column_filled actor_id no_actor (actors bytes) actor_limit _ long bound inv.0 past,
      column_filled actor_kind no_actor (actors bytes) actor_limit _ long bound inv.1 past,
      column_filled actor_owner no_actor (actors bytes) actor_limit _ long bound inv.2 past,
    )
