-- `granting::first_outcome` meets its contract: each outcome by the tests that led to it (Deciding). Assumes nothing.
use Rattle.std.proofs.Common.{sym, ◌∙◌, lt-ltb, le-ltb}
use Rattle.granting.proofs.Deciding.{unsound, claim_unfit, moment_past, in_range}
use Rattle.granting.proofs.first_outcome.Goals as goal

pub returns-then-not-whole : goal.returns-then-not-whole
returns-then-not-whole c = sym (unsound c.args.version c.args.c c.args.moment (c.if-not-whole.true))

pub returns-then-not-claim_fits : goal.returns-then-not-claim_fits
returns-then-not-claim_fits c =
    let given = c.args in
    sym
    (claim_unfit given.version given.c given.moment (c.if-not-whole.false)
    (sym c.claim_fits.ensures ∙ c.if-not-claim_fits.true))

pub returns-then-moment-ge-MOMENT_END : goal.returns-then-moment-ge-MOMENT_END
returns-then-moment-ge-MOMENT_END c =
    let given = c.args in
    sym
    (moment_past given.version given.c given.moment (c.if-not-whole.false)
    (sym c.claim_fits.ensures ∙ c.if-not-claim_fits.false) (le-ltb _ _ c.if-moment-ge-MOMENT_END.true))

pub returns : goal.returns
returns c =
    let given = c.args in
    sym
    (in_range given.version given.c given.moment (c.if-not-whole.false)
    (sym c.claim_fits.ensures ∙ c.if-not-claim_fits.false) (lt-ltb _ _ c.if-moment-ge-MOMENT_END.false))
