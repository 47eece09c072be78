-- `proposing::sign`: the answers to the goals that the check leaves open. Assumes nothing.
use Rattle.std.proofs.Common.{ℕ, ◌<◌, ◌∙◌, arith, get_or-take, length-take}
use Rattle.proposing.proofs.Answering.{hearing_hit, hearing_miss}
use Rattle.proposing.proofs.sign.Goals as goal

pub returns-in-Some : goal.returns-in-Some
returns-in-Some c =
    let below : c.loop-g.g-index < c.min-top.result = omega (arith, length-take {A = ℕ}) in
    c.granted.ensures ∙ hearing_hit c.loop-g.invariant below (get_or-take _ _ _ _ below) c.signed_by.ensures c.in-Some.is

pub loop-g-preserved : goal.loop-g-preserved
loop-g-preserved c =
    let below : c.loop-g.g-index < c.min-top.result = omega (arith, length-take {A = ℕ}) in
    hearing_miss c.loop-g.invariant below (get_or-take _ _ _ _ below) c.signed_by.ensures c.in_default.is
