-- `paper::walk`: the answers to the goals that the check leaves open. Assumes nothing.
use Rattle.std.proofs.Common.{arith, rules}
use Rattle.soundness_rules.proofs.Registers.{sound_out}
use Rattle.paper.proofs.Walking.{reports_long, place_room, ups_room, parent_few, walking_own, walking_theirs, walking_neither}
use Rattle.paper.proofs.walk.Goals as goal
use Rattle.paper.proofs.walk.Goals.{then-live-c, else-live-c+then-live-c-2, else-live-c+else-live-c-2}

pub open_cells-own-requires : goal.open_cells-own-requires
open_cells-own-requires c = (sound_out _ c.requires.soundly).limits.resource_count

pub bounds-ups-i : goal.bounds-ups-i
bounds-ups-i c = ups_room c.loop-i.invariant c.loop-i-test.true

pub hops_over-requires : goal.hops_over-requires
hops_over-requires c =
    (omega (arith, place_room c.loop-i.invariant c.loop-i-test.true, c.loop-i.invariant.remarked.hops_long), parent_few c.loop-i.invariant c.loop-i-test.true)

pub bounds-hops-i : goal.bounds-hops-i
bounds-hops-i c = place_room c.loop-i.invariant c.loop-i-test.true

pub lives_over-requires : goal.lives_over-requires
lives_over-requires c =
    omega (arith, place_room c.loop-i.invariant c.loop-i-test.true, c.loop-i.invariant.remarked.lives_long)

pub bounds-lives-i : goal.bounds-lives-i
bounds-lives-i c = place_room c.loop-i.invariant c.loop-i-test.true

pub enter_claim-requires : goal.enter_claim-requires
enter_claim-requires c =
    let come = c.loop-i.invariant in
    (come.actors.long, (sound_out _ come.known.soundly).limits.resource_count, reports_long come, place_room c.loop-i.invariant c.loop-i-test.true)

pub enter_claim-requires-then-live-c-2 : goal.enter_claim-requires-then-live-c-2
enter_claim-requires-then-live-c-2 c =
    let come = c.loop-i.invariant in
    (come.long, (sound_out _ come.known.soundly).limits.resource_count, reports_long come, place_room c.loop-i.invariant c.loop-i-test.true)

pub loop-i-preserved : goal.loop-i-preserved
loop-i-preserved c =
    elim c.if-live-c.branch [
      | then-live-c w ↦ rw (w.own-is, w.theirs-is) (walking_own c.loop-i.invariant c.loop-i-test.true c.claim_at-c.ensures c.hops_over.ensures
          c.is_current.ensures c.lives_over.ensures w.enter_claim.new.cells w.if-live-c.true w.enter_claim.ensures)
      | else-live-c+then-live-c-2 w ↦ rw (w.own-is, w.theirs-is) (walking_theirs c.loop-i.invariant c.loop-i-test.true c.claim_at-c.ensures c.hops_over.ensures
          c.is_current.ensures c.lives_over.ensures w.enter_claim-then-live-c-2.new.cells w.if-live-c.false w.if-live-c-2.true w.enter_claim-then-live-c-2.ensures)
      | else-live-c+else-live-c-2 w ↦ rw (w.own-is, w.theirs-is) (walking_neither c.loop-i.invariant c.loop-i-test.true c.claim_at-c.ensures
          c.hops_over.ensures c.is_current.ensures c.lives_over.ensures w.if-live-c.false w.if-live-c-2.false)
    ]

pub offset_bounds-ups-i : goal.offset_bounds-ups-i
offset_bounds-ups-i c = let room = place_room c.loop-i.invariant c.loop-i-test.true in search rules

pub offset_bounds-hops-i : goal.offset_bounds-hops-i
offset_bounds-hops-i c = let room = place_room c.loop-i.invariant c.loop-i-test.true in search rules
