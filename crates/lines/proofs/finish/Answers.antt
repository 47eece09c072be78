-- Trailing bytes fail a reading that is on, as its next line.
use Rattle.std.proofs.Common.{sym, ◌∙◌}
use Rattle.lines.proofs.Cursors.{closed_trailing}
use Rattle.lines.proofs.finish.Goals as goal

pub returns-then-c-s : goal.returns-then-c-s
returns-then-c-s c = closed_trailing _ _ _ (sym c.goes_on.ensures ∙ c.if-not-goes_on.false) c.if-c-s.true c.failing.ensures
