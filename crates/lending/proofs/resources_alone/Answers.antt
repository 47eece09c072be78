-- `lending::resources_alone` meets its contract (Loops). Assumes nothing.
use Rattle.std.proofs.Common.{◌≡◌, refl, sym, ap, ◌∙◌, ◌&&◌, ◌+◌, arith, take, drop, get_or}
use mathlib.Core.Bool.{and_assoc, and-true}
use Rattle.lists.specs.Lists.{every}
use Rattle.lists.specs.Loops.{start, turn, next, done}
use Rattle.register.specs.Limits.{resource_limit}
use Rattle.register.specs.Register.{no_resource}
use Rattle.register_bytes.specs.Bytes.{resource_size, resources_at, resource_in}
use Rattle.register_bytes.specs.Laws.{records_length, record_at}
use Rattle.soundness.specs.World.{resources_alone}
use Rattle.lending.proofs.resources_alone.Invariants.{resources, alone}
use Rattle.lending.proofs.resources_alone.Goals as goal

pub loop-i-init : goal.loop-i-init
loop-i-init c =
    let bytes = c.args.bytes.now in
    let long = records_length (resource_in bytes) resource_size resource_limit resources_at in
    start (omega (arith, c.min-i-end.ensures, long)) refl

pub loop-i-preserved : goal.loop-i-preserved
loop-i-preserved c =
    let a = c.args in
    let i = c.loop-i.i in
    let here = c.loop-i-test.true in
    let o = get_or (resources a.bytes.now) i no_resource in
    let behind = every alone (drop (i + 1) (take a.count (resources a.bytes.now))) in
    let fits : c.resource_fits-fit.result ≡ alone o =
    c.resource_fits-fit.ensures
    ∙ ap alone (c.resource_at-o.ensures ∙ sym (record_at (resource_in a.bytes.now) resource_size resource_limit resources_at i no_resource (omega (arith, here, c.min-i-end.ensures)))) in
    let told : every alone (take a.count (resources a.bytes.now)) ≡ (c.loop-i.fit && c.resource_fits-fit.result) && behind =
    turn c.loop-i.invariant no_resource here
    ∙ sym (and_assoc c.loop-i.fit (alone o) behind)
    ∙ ap (λ b. (c.loop-i.fit && b) && behind) (sym fits) in
    next c.loop-i.invariant here told

pub returns : goal.returns
unfolding resources_alone
returns c =
    sym (done c.loop-i.invariant c.loop-i-test.false ∙ and-true c.loop-i.fit)
    ∙ ap (λ n. every alone (take n (resources c.args.bytes.now))) c.requires.1
