-- `proposing::asked` meets its contract: the tests in their order. Assumes nothing.
use Rattle.std.proofs.Common.{sym, ◌∙◌}
use Rattle.refusals.proofs.Laws.{outcome_nil, outcome_pass, outcome_fail}
use Rattle.proposing.proofs.asked.Goals as goal

pub returns-then-not-sound : goal.returns-then-not-sound
returns-then-not-sound c = sym (outcome_fail _ _ (c.if-not-sound.true))

pub returns-then-not-inside : goal.returns-then-not-inside
returns-then-not-inside c = sym (outcome_pass _ _ (c.if-not-sound.false) ∙ outcome_fail _ _ (c.if-not-inside.true))

pub returns-then-not-known : goal.returns-then-not-known
returns-then-not-known c =
    sym (outcome_pass _ _ (c.if-not-sound.false) ∙ outcome_pass _ _ (c.if-not-inside.false)
    ∙ outcome_fail _ _ (c.if-not-known.true))

pub returns : goal.returns
returns c =
    sym (outcome_pass _ _ (c.if-not-sound.false) ∙ outcome_pass _ _ (c.if-not-inside.false)
    ∙ outcome_pass _ _ (c.if-not-known.false) ∙ outcome_nil)
