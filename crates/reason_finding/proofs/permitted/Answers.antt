-- `reason_finding::permitted`: the answers to the goals that the check leaves open. Assumes nothing.
use Rattle.std.proofs.Common.{◌≡◌, ◌<◌, sym, ◌∙◌, arith, rules, length, get_or-take, length-take}
use Rattle.lists.specs.Loops.{length_mapped}
use Rattle.register.specs.Limits.{actor_limit}
use Rattle.register.specs.declared.Actor.{Actor}
use Rattle.reason_finding.proofs.Keeping.{keeping_start, keeping_room, keeping_hit, keeping_miss}
use Rattle.reason_finding.proofs.permitted.Goals as goal
use Rattle.reason_finding.proofs.permitted.Goals.{then-may, else-may}

pub loop-a-init : goal.loop-a-init
loop-a-init c =
    let long : length c.args.actors.list ≡ actor_limit = search (rules, length_mapped) in
    keeping_start long c.min-top.ensures

-- an id is put where one place is free at least
pub offset_bounds-ids-count : goal.offset_bounds-ids-count
offset_bounds-ids-count c =
    let kept = c.loop-a.invariant in
    let free : c.loop-a.count < actor_limit = omega (arith, kept.room, keeping_room kept, length-take {A = Actor}) in
    search rules

pub bounds-ids-count : goal.bounds-ids-count
bounds-ids-count c =
    let kept = c.loop-a.invariant in
    let free : c.loop-a.count < actor_limit = omega (arith, kept.room, keeping_room kept, length-take {A = Actor}) in
    search rules

pub overflow_add-count : goal.overflow_add-count
overflow_add-count c =
    let kept = c.loop-a.invariant in
    let free : c.loop-a.count < actor_limit = omega (arith, kept.room, keeping_room kept, length-take {A = Actor}) in
    search rules

pub loop-a-preserved : goal.loop-a-preserved
loop-a-preserved c =
    let below : c.loop-a.a-index < c.min-top.result = omega (arith, length-take {A = Actor}) in
    let read = get_or-take _ _ _ _ below in
    elim c.if-may.branch [
      | then-may w ↦ rw (w.ids-is, w.count-is) (keeping_hit c.loop-a.invariant below read (sym c.may.ensures ∙ w.if-may.true))
      | else-may w ↦ rw (w.ids-is, w.count-is) (keeping_miss c.loop-a.invariant below read (sym c.may.ensures ∙ w.if-may.false))
    ]
