-- `paths::contains` meets its contract: containment is where inner stands, and that it has no `..` component (`Verdicts`).
-- Assumes nothing.
use Rattle.std.proofs.Common.{sym, ◌∙◌}
use Rattle.paths.proofs.Verdicts.{elsewhere, climbs_out, stays_in}
use Rattle.paths.proofs.contains.Goals as goal

pub returns-in-None : goal.returns-in-None
returns-in-None c =
    let a = c.args in
    sym (elsewhere a.outer.now a.inner.now (sym c.reach_beneath.ensures ∙ c.in-None.is))

pub returns-then-climbs : goal.returns-then-climbs
returns-then-climbs c =
    let a = c.args in
    sym
    (climbs_out a.outer.now a.inner.now _ (sym c.reach_beneath.ensures ∙ c.in-Some.is)
    (sym c.climbs.ensures ∙ c.if-climbs.true))

pub returns-else-climbs : goal.returns-else-climbs
returns-else-climbs c =
    let a = c.args in
    sym
    (stays_in a.outer.now a.inner.now _ (sym c.reach_beneath.ensures ∙ c.in-Some.is)
    (sym c.climbs.ensures ∙ c.if-climbs.false))
