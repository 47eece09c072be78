-- `lending::lay` meets its contract (Laying). Assumes nothing.
use Rattle.std.proofs.Common.{refl, sym, ap, ◌∙◌, ◌<◌, min, arith}
use Rattle.register.specs.Limits.{resource_limit}
use Rattle.register.specs.Register.{no_resource}
use Rattle.register.specs.declared.Resource.{Resource}
use Rattle.register_bytes.specs.Bytes.{resource_size, resources_at, resource_in}
use Rattle.register_bytes.specs.Laws.{record_at, register_shaped}
use Rattle.lending.proofs.Filling.{field_read}
use Rattle.lending.proofs.Laying.{laying_none, laying_next, laying_all}
use Rattle.lending.proofs.lay.Goals as goal

pub loop-i-init : goal.loop-i-init
loop-i-init c =
    let shaped = register_shaped c.args.bytes.now c.requires.0 in
    laying_none shaped.resources shaped.paths c.requires.1 (c.min-i-end.ensures ∙ ap (λ n. min n resource_limit) c.requires.2)

pub loop-i-preserved : goal.loop-i-preserved
loop-i-preserved c =
    let bytes = c.args.bytes.now in
    let i = c.loop-i.i in
    let inside : i < resource_limit = omega (arith, c.loop-i-test.true, c.min-i-end.ensures) in
    laying_next c.loop-i.invariant c.loop-i-test.true
    (ap (λ (o : Resource). o.path) (sym (record_at (resource_in bytes) resource_size resource_limit resources_at i no_resource inside)))
    c.put_path.ensures
    (field_read bytes (resource_in bytes) resource_size resources_at resource_limit no_resource inside (λ (o : Resource). o.len) 3 refl c.number_at.ensures (omega arith))

pub returns-clause-laid : goal.returns-clause-laid
returns-clause-laid c = (laying_all c.loop-i.invariant c.loop-i-test.false).0

pub returns-clause-lengths : goal.returns-clause-lengths
returns-clause-lengths c = (laying_all c.loop-i.invariant c.loop-i-test.false).1
