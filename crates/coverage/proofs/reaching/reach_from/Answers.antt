-- `coverage::reaching::reach_from` meets its contract. Without the right a claim does not reach; and it reaches no further than its path is long as
-- written, so one that is too short is passed over; of any other, `reach` tells how far (Nearing). Assumes nothing.
use Rattle.std.proofs.Common.{sym, ◌∙◌}
use Rattle.coverage.proofs.Nearing.{short_out}
use Rattle.coverage.proofs.reaching.reach_from.Goals as goal

pub returns-then-is_short : goal.returns-then-is_short
returns-then-is_short c =
    let a = c.args in
    sym
    (short_out a.rights.now a.spots.now a.bytes.now a.lens.now a.right a.spot a.j a.bar
    (sym c.is_short.ensures ∙ c.if-is_short.true))
