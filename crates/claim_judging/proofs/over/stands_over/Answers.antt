-- `claim_judging::over::stands_over` meets its contract: each answer by the tests that led to it (Chains). Assumes nothing.
use Rattle.std.proofs.Common.{sym, ◌∙◌}
use Rattle.claim_judging.proofs.Chains.{not_drawn, not_fewer, circle_decides}
use Rattle.claim_judging.proofs.over.stands_over.Goals as goal

pub returns-then-not-drawn_from : goal.returns-then-not-drawn_from
returns-then-not-drawn_from c =
    let given = c.args in
    sym
    (not_drawn given.version given.ups.now given.grantors.now given.holders.now given.up given.steps given.p given.c
    (sym c.drawn_from.ensures ∙ c.if-not-drawn_from.true))

pub returns-then-not-fewer_left : goal.returns-then-not-fewer_left
returns-then-not-fewer_left c =
    let given = c.args in
    sym
    (not_fewer given.version given.ups.now given.grantors.now given.holders.now given.up given.steps given.p given.c
    (sym c.drawn_from.ensures ∙ c.if-not-drawn_from.false)
    (sym c.fewer_left.ensures ∙ c.if-not-fewer_left.true))

pub returns : goal.returns
returns c =
    let given = c.args in
    circle_decides given.version given.ups.now given.grantors.now given.holders.now given.up given.steps given.p given.c
    (sym c.drawn_from.ensures ∙ c.if-not-drawn_from.false)
    (sym c.fewer_left.ensures ∙ c.if-not-fewer_left.false)
    c.circles_up.ensures
