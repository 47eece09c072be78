-- `columns::hop_count` meets its contract. Assumes nothing.
use Rattle.std.proofs.Common.{◌≡◌, sym, arith}
use Rattle.register.specs.Limits.{hop_limit}
use Rattle.columns.proofs.Walking.{climbing_root, climbing_next, climbing_beyond}
use Rattle.columns.proofs.hop_count.Goals as goal

pub returns-then-at-up : goal.returns-then-at-up
returns-then-at-up c = sym (climbing_root c.loop-steps.invariant c.if-at-up.true)

pub loop-steps-preserved : goal.loop-steps-preserved
loop-steps-preserved c =
    climbing_next c.loop-steps.invariant (omega (arith, c.if-at-up.false)) c.loop-steps-test.true c.place_above-up-in-loop-steps.ensures

pub returns-then-at-up-2 : goal.returns-then-at-up-2
returns-then-at-up-2 c =
    let all : c.loop-steps.steps ≡ hop_limit = omega arith in
    rw all at (sym (climbing_root c.loop-steps.invariant c.if-at-up-2.true))

pub returns : goal.returns
returns c = sym (climbing_beyond c.loop-steps.invariant (omega (arith, c.if-at-up-2.false)) c.loop-steps-test.false)
