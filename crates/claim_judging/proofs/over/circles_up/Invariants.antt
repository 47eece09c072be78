-- The invariant of the loop of `claim_judging::over::circles_up`: the answer is that from the place come to and for the steps that are left.
use Rattle.std.proofs.Common.{◌≡◌, ◌-◌}
use Rattle.claim_judging.specs.Over.{circles_up}
use Rattle.claim_judging.proofs.over.circles_up.Given as goal

abbrev pub invariant-loop-step : goal.invariant-loop-step
invariant-loop-step l =
    circles_up l.ups l.grantors l.holders l.from l.steps l.h ≡ circles_up l.ups l.grantors l.holders l.member (l.steps - l._step) l.h
