-- `coverage::reaching::nearest_covering` meets its contract: what reaches further is taken, and a further one must exceed it; what does not is
-- passed over. Assumes nothing.
use Rattle.std.proofs.Common.{refl, sym, ◌∙◌, arith, take, get_or, get_or-take, length-take, ◌<◌}
use Rattle.lists.specs.Loops.{start, turn, next, done}
use Rattle.coverage.specs.Coverage.{reaching, reach_at}
use Rattle.coverage.specs.Laws.{nearest_nowhere, nearest_best, nearest_taken, nearest_passed}
use Rattle.coverage.proofs.Nearing.{not_far, is_far, reach_limit}
use Rattle.coverage.proofs.reaching.nearest_covering.Goals as goal
use Rattle.coverage.proofs.reaching.nearest_covering.Goals.{in-Some, in_default}

-- a path has at most 64 bytes
pub overflow_add-bar : goal.overflow_add-bar
overflow_add-bar c =
    let a = c.args in
    let far = is_far a.rights.now a.spots.now a.bytes.now a.lens.now a.right a.spot _ c.loop-place.bar _
    (sym c.reach_from.ensures ∙ c.in-Some.is) in
    let most = reach_limit a.rights.now a.spots.now a.bytes.now a.lens.now a.right a.spot
    (get_or (take c.min.result a.places.now) c.loop-place.place-index 0) in
    omega (arith, far.1, most)

pub loop-place-init : goal.loop-place-init
loop-place-init c =
    let a = c.args in
    record {
      at = 0;
      so_far = sym (nearest_nowhere (reaching a.rights.now a.spots.now a.bytes.now a.lens.now a.right a.spot) (reach_at a.spots.now a.bytes.now a.lens.now a.spot) 0 0 refl);
      ahead = start (omega (arith, length-take c.min.result a.places.now)) refl;
    }

pub loop-place-preserved : goal.loop-place-preserved
loop-place-preserved c =
    let a = c.args in
    let s = c.loop-place in
    let inv = s.invariant in
    let reaches = reaching a.rights.now a.spots.now a.bytes.now a.lens.now a.right a.spot in
    let reach = reach_at a.spots.now a.bytes.now a.lens.now a.spot in
    let inside : s.place-index < c.min.result = omega (arith, length-take c.min.result a.places.now) in
    let read = get_or-take c.min.result a.places.now s.place-index 0 inside in
    let met = rw (← read) at (turn inv.ahead 0 c.loop-place-test.true) in
    elim c.match-reach_from.branch [
      | in-Some w ↦
          let far = is_far a.rights.now a.spots.now a.bytes.now a.lens.now a.right a.spot _ s.bar _ (sym c.reach_from.ensures ∙ w.in-Some.is) in
          rw (w.best-is, w.bar-is)
          (record {
            at = get_or (take c.min.result a.places.now) s.place-index 0;
            so_far = sym (nearest_best reaches reach _ _ (λ e. absurd (omega (arith, e))));
            ahead = next inv.ahead c.loop-place-test.true (met ∙ nearest_taken reaches reach inv.at s.bar _ _ _ far.1 far.0);
          })
      | in_default w ↦
          rw (w.best-is, w.bar-is)
          (record {
            at = inv.at;
            so_far = inv.so_far;
            ahead =
                next inv.ahead c.loop-place-test.true
                (met
                ∙ nearest_passed reaches reach inv.at s.bar _ _
                (not_far a.rights.now a.spots.now a.bytes.now a.lens.now a.right a.spot _ s.bar (sym c.reach_from.ensures ∙ w.in_default.is)));
          })
    ]

pub returns : goal.returns
returns c = let inv = c.loop-place.invariant in inv.so_far ∙ sym (done inv.ahead c.loop-place-test.false)
