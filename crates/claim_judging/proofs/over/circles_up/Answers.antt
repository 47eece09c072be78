-- `claim_judging::over::circles_up` meets its contract. Assumes nothing.
use Rattle.std.proofs.Common.{◌≡◌, ◌+◌, ◌-◌, sym, ◌∙◌, arith}
use Rattle.claim_judging.proofs.Chains.{circle_here, circle_higher, circle_last}
use Rattle.claim_judging.proofs.over.circles_up.Goals as goal

pub returns-then-number_at-h : goal.returns-then-number_at-h
returns-then-number_at-h c =
    let given = c.args in
    sym
    (c.loop-step.invariant
    ∙ circle_here given.ups.now given.grantors.now given.holders.now c.loop-step.member given.h (given.steps - c.loop-step._step)
    (omega arith) (sym c.number_at.ensures ∙ c.if-number_at-h.true))

pub loop-step-preserved : goal.loop-step-preserved
loop-step-preserved c =
    let given = c.args in
    let less : given.steps - c.loop-step._step - 1 ≡ given.steps - (c.loop-step._step + 1) = omega arith in
    c.loop-step.invariant
    ∙ circle_higher given.ups.now given.grantors.now given.holders.now c.loop-step.member given.h (given.steps - c.loop-step._step)
    (omega arith) (λ same. c.if-number_at-h.false (c.number_at.ensures ∙ same))
    ∙ rw (less, c.place_at-member.ensures)

pub returns : goal.returns
returns c =
    let given = c.args in
    sym
    (c.loop-step.invariant
    ∙ circle_last given.ups.now given.grantors.now given.holders.now c.loop-step.member given.h (given.steps - c.loop-step._step)
    (omega arith)
    ∙ rw (c.number_at-2.ensures, c.number_at-3.ensures))
