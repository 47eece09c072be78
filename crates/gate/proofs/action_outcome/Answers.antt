-- `gate::action_outcome` meets its contract: test 2, then test 3. Assumes nothing.
use Rattle.std.proofs.Common.{sym, ◌∙◌}
use Rattle.refusals.proofs.Laws.{outcome_nil, outcome_pass, outcome_fail}
use Rattle.gate.proofs.action_outcome.Goals as goal

pub returns-then-not-action_fits : goal.returns-then-not-action_fits
returns-then-not-action_fits c = sym (outcome_fail _ _ (sym c.action_fits.ensures ∙ c.if-not-action_fits.true))

pub returns-then-not-is_among : goal.returns-then-not-is_among
returns-then-not-is_among c =
    sym (outcome_pass _ _ (sym c.action_fits.ensures ∙ c.if-not-action_fits.false)
    ∙ outcome_fail _ _ (sym c.is_among.ensures ∙ c.if-not-is_among.true))

pub returns : goal.returns
returns c =
    sym (outcome_pass _ _ (sym c.action_fits.ensures ∙ c.if-not-action_fits.false)
    ∙ outcome_pass _ _ (sym c.is_among.ensures ∙ c.if-not-is_among.false)
    ∙ outcome_nil)
