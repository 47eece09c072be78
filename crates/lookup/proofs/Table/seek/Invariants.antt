-- The loop of `lookup::Table::seek`. Its invariant: the link is the latest place of the bucket among places that all that is left to look at stands among
-- (Seeking). Its measure: the link, for what comes behind a place is before it.
use Rattle.lookup.proofs.Seeking.{Seeking}
use Rattle.lookup.proofs.Table.seek.Given as goal

abbrev pub invariant-loop-link : goal.invariant-loop-link
invariant-loop-link l = Seeking l.column l.self.heads l.self.nexts l.below l.x l.link

abbrev pub decreases-loop-link : goal.decreases-loop-link
decreases-loop-link l = l.link
