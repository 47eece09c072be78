-- `granting::drawn_outcome` meets its contract: each outcome by the tests that led to it (Deciding). Assumes nothing.
use Rattle.std.proofs.Common.{sym, ◌∙◌, eq-eqb, ne_eqb, le-leb}
use borrow.Author.Tests.{lt-leb}
use Rattle.granting.proofs.Deciding.{not_held, elsewhere, dead, no_delegate, right_lacking, weight_above, drawn_well}
use Rattle.granting.proofs.drawn_outcome.Goals as goal

pub returns-then-p-c : goal.returns-then-p-c
returns-then-p-c c =
    let given = c.args in
    sym
    (not_held given.lives given.p given.c
    (ne_eqb _ _ c.if-p-c.true))

pub returns-then-p-c-2 : goal.returns-then-p-c-2
returns-then-p-c-2 c =
    let given = c.args in
    sym
    (elsewhere given.lives given.p given.c
    (eq-eqb _ _ c.if-p-c.false)
    (ne_eqb _ _ c.if-p-c-2.true))

pub returns-then-not-lives : goal.returns-then-not-lives
returns-then-not-lives c =
    let given = c.args in
    sym
    (dead given.lives given.p given.c
    (eq-eqb _ _ c.if-p-c.false)
    (eq-eqb _ _ c.if-p-c-2.false)
    (c.if-not-lives.true))

pub returns-then-not-has : goal.returns-then-not-has
returns-then-not-has c =
    let given = c.args in
    sym
    (no_delegate given.lives given.p given.c
    (eq-eqb _ _ c.if-p-c.false)
    (eq-eqb _ _ c.if-p-c-2.false)
    (c.if-not-lives.false)
    (sym c.has.ensures ∙ c.if-not-has.true))

pub returns-then-not-has_all : goal.returns-then-not-has_all
returns-then-not-has_all c =
    let given = c.args in
    sym
    (right_lacking given.lives given.p given.c
    (eq-eqb _ _ c.if-p-c.false)
    (eq-eqb _ _ c.if-p-c-2.false)
    (c.if-not-lives.false)
    (sym c.has.ensures ∙ c.if-not-has.false)
    (sym c.has_all.ensures ∙ c.if-not-has_all.true))

pub returns-then-p-c-3 : goal.returns-then-p-c-3
returns-then-p-c-3 c =
    let given = c.args in
    sym
    (weight_above given.lives given.p given.c
    (eq-eqb _ _ c.if-p-c.false)
    (eq-eqb _ _ c.if-p-c-2.false)
    (c.if-not-lives.false)
    (sym c.has.ensures ∙ c.if-not-has.false)
    (sym c.has_all.ensures ∙ c.if-not-has_all.false)
    (lt-leb _ _ c.if-p-c-3.true))

pub returns : goal.returns
returns c =
    let given = c.args in
    sym
    (drawn_well given.lives given.p given.c
    (eq-eqb _ _ c.if-p-c.false)
    (eq-eqb _ _ c.if-p-c-2.false)
    (c.if-not-lives.false)
    (sym c.has.ensures ∙ c.if-not-has.false)
    (sym c.has_all.ensures ∙ c.if-not-has_all.false)
    (le-leb _ _ c.if-p-c-3.false))
