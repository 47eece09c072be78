-- `lending::resources_in` meets its contract (Filling). Assumes nothing.
use Rattle.std.proofs.Common.{refl, ap, ◌∙◌, ◌<◌, min, arith}
use Rattle.lists.specs.Fills.{filling_next}
use Rattle.register.specs.Limits.{resource_limit}
use Rattle.register.specs.Register.{no_resource}
use Rattle.register_bytes.specs.Bytes.{resource_size, resources_at, resource_in}
use Rattle.register_bytes.specs.Laws.{records_length}
use Rattle.columns.specs.Columns.{resource_id, keeper_of, public_of}
use Rattle.lending.proofs.Filling.{field_read, column_filled}
use Rattle.lending.proofs.resources_in.Invariants.{resources}
use Rattle.lending.proofs.resources_in.Goals as goal

pub loop-i-preserved : goal.loop-i-preserved
loop-i-preserved c =
    let bytes = c.args.bytes.now in
    let inv = c.loop-i.invariant in
    let here = c.loop-i-test.true in
    let inside : c.loop-i.i < resource_limit = omega (arith, here, c.min-i-end.ensures) in
    let read = field_read bytes (resource_in bytes) resource_size resources_at resource_limit no_resource inside in (
      filling_next inv.0 _ here (read resource_id 0 refl _ _ c.number_at.ensures (omega arith)),
      filling_next inv.1 _ here (read keeper_of 2 refl _ _ c.number_at-in-loop-i-2.ensures (omega arith)),
      filling_next inv.2 _ here (read public_of 1 refl _ _ c.number_at-in-loop-i.ensures (omega arith)),
    )

pub returns : goal.returns
returns c =
    let bytes = c.args.bytes.now in
    let inv = c.loop-i.invariant in
    let past = c.loop-i-test.false in
    let long = records_length (resource_in bytes) resource_size resource_limit resources_at in
    let bound = c.min-i-end.ensures ∙ ap (λ n. min n resource_limit) c.requires.1 in
    rw (
      column_filled resource_id no_resource (resources bytes) resource_limit _ long bound inv.0 past,
      column_filled keeper_of no_resource (resources bytes) resource_limit _ long bound inv.1 past,
      column_filled public_of no_resource (resources bytes) resource_limit _ long bound inv.2 past,
    )
