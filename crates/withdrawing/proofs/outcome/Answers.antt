-- `withdrawing::outcome` meets its contract: the first test that fails decides. Assumes nothing.
use Rattle.std.proofs.Common.{◌∙◌, sym}
use Rattle.refusals.proofs.Laws.{outcome_nil, outcome_pass, outcome_fail}
use Rattle.withdrawing.proofs.outcome.Goals as goal

pub returns-then-not-whole : goal.returns-then-not-whole
returns-then-not-whole c = sym (outcome_fail _ _ (c.if-not-whole.true))

pub returns-then-not-known : goal.returns-then-not-known
returns-then-not-known c = sym (outcome_pass _ _ (c.if-not-whole.false) ∙ outcome_fail _ _ (c.if-not-known.true))

pub returns-then-not-stands : goal.returns-then-not-stands
returns-then-not-stands c =
    sym
    (outcome_pass _ _ (c.if-not-whole.false)
    ∙ outcome_pass _ _ (c.if-not-known.false)
    ∙ outcome_fail _ _ (c.if-not-stands.true))

pub returns-then-not-may : goal.returns-then-not-may
returns-then-not-may c =
    sym
    (outcome_pass _ _ (c.if-not-whole.false)
    ∙ outcome_pass _ _ (c.if-not-known.false)
    ∙ outcome_pass _ _ (c.if-not-stands.false)
    ∙ outcome_fail _ _ (c.if-not-may.true))

pub returns : goal.returns
returns c =
    sym
    (outcome_pass _ _ (c.if-not-whole.false)
    ∙ outcome_pass _ _ (c.if-not-known.false)
    ∙ outcome_pass _ _ (c.if-not-stands.false)
    ∙ outcome_pass _ _ (c.if-not-may.false)
    ∙ outcome_nil)
