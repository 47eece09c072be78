-- `proposing::marks` meets its contract. The loop's invariant: the claims passed have their marks. Assumes nothing.
use Rattle.std.proofs.Common.{false}
use Rattle.lists.specs.Fills.{Filling}
use Rattle.register.specs.Limits.{claim_limit}
use Rattle.proposing.specs.Planned.{mark_at}
use Rattle.proposing.proofs.marks.Given as goal

abbrev pub invariant-loop-i : goal.invariant-loop-i
invariant-loop-i l = Filling claim_limit (mark_at l.version l.usage l.moment l.sheet l.ends l.rooms) l.n false l.i l.found
