use Rattle.std.proofs.Common.{sym, ap, ◌∙◌}
use Rattle.register.specs.Register.{actors_of, no_actor}
use Rattle.soundness_rules.specs.Sound.{human}
use Rattle.faults.specs.Faults.{actor_tests, fault_numbers, fault_from, of_actor, no_fault}
use Rattle.fault_finding.proofs.Walking.{not_refused, walk_fails, walk_next, walk_below, walk_done}
use Rattle.fault_finding.proofs.Parts.{actor_walked}
use Rattle.fault_finding.proofs.actors_fault.Goals as goal

pub returns-in-Err : goal.returns-in-Err
returns-in-Err c =
    let a = c.args.a in
    let tests = actor_tests (human (actors_of a)) in
    let loop = c.loop-i in
    let inside = c.loop-i-test.true in
    let refused = c.in-Err in
    c.told.ensures
    ∙ sym
    (ap (λ l. fault_numbers (fault_from of_actor l no_fault))
    (walk_fails tests a.count a.list loop.invariant no_actor inside refused.why
    (actor_walked a loop.i c.actor_columns-columns.ensures _ (walk_below tests a.count a.list loop.invariant inside) c.is_beside-owned.ensures c.is_among-taken.ensures
    c.actor_outcome.ensures ∙ refused.is)))

pub loop-i-preserved : goal.loop-i-preserved
loop-i-preserved c =
    let a = c.args.a in
    let tests = actor_tests (human (actors_of a)) in
    let loop = c.loop-i in
    let inside = c.loop-i-test.true in
    walk_next tests a.count a.list loop.invariant no_actor inside
    (actor_walked a loop.i c.actor_columns-columns.ensures _ (walk_below tests a.count a.list loop.invariant inside) c.is_beside-owned.ensures c.is_among-taken.ensures
    c.actor_outcome.ensures ∙ not_refused _ c.in_default.not-Err)

pub returns : goal.returns
returns c =
    let a = c.args.a in
    c.no_fault.ensures
    ∙ sym
    (ap (λ l. fault_numbers (fault_from of_actor l no_fault)) (walk_done (actor_tests (human (actors_of a))) a.count a.list c.loop-i.invariant c.loop-i-test.false))
