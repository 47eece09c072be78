use Rattle.std.proofs.Common.{sym, ap, ◌∙◌}
use Rattle.register.specs.Register.{actors_of}
use Rattle.soundness_rules.specs.Sound.{human}
use Rattle.soundness.specs.World.{beyond}
use Rattle.faults.specs.Faults.{resource_tests, fault_numbers, fault_from, of_resource, no_fault}
use Rattle.fault_finding.proofs.Walking.{not_refused, walk_fails, walk_next, walk_below, walk_done}
use Rattle.fault_finding.proofs.Parts.{resource_walked}
use Rattle.fault_finding.proofs.resources_fault.Goals as goal

pub returns-in-Err : goal.returns-in-Err
returns-in-Err c =
    let a = c.args.a in
    let o = c.args.o in
    let tests = resource_tests (human (actors_of a)) in
    let loop = c.loop-i in
    let inside = c.loop-i-test.true in
    let refused = c.in-Err in
    c.told.ensures
    ∙ sym
    (ap (λ l. fault_numbers (fault_from of_resource l no_fault))
    (walk_fails tests o.count o.list loop.invariant beyond inside refused.why
    (resource_walked a loop.i c.actor_columns-people.ensures o c.resource_columns-columns.ensures _ (walk_below tests o.count o.list loop.invariant inside)
    c.is_beside-kept.ensures c.is_among-taken.ensures c.resource_outcome.ensures ∙ refused.is)))

pub loop-i-preserved : goal.loop-i-preserved
loop-i-preserved c =
    let a = c.args.a in
    let o = c.args.o in
    let tests = resource_tests (human (actors_of a)) in
    let loop = c.loop-i in
    let inside = c.loop-i-test.true in
    walk_next tests o.count o.list loop.invariant beyond inside
    (resource_walked a loop.i c.actor_columns-people.ensures o c.resource_columns-columns.ensures _ (walk_below tests o.count o.list loop.invariant inside)
    c.is_beside-kept.ensures c.is_among-taken.ensures c.resource_outcome.ensures ∙ not_refused _ c.in_default.not-Err)

pub returns : goal.returns
returns c =
    let given = c.args in
    c.no_fault.ensures
    ∙ sym
    (ap (λ l. fault_numbers (fault_from of_resource l no_fault))
    (walk_done (resource_tests (human (actors_of given.a))) given.o.count given.o.list c.loop-i.invariant c.loop-i-test.false))
