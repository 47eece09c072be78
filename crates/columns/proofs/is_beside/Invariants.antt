-- The invariant of the loop of `columns::is_beside`: `x` stands beside `y` where they were hit or do so in what is left (Pairing).
use Rattle.columns.proofs.Pairing.{Pairing}
use Rattle.columns.proofs.is_beside.Given as goal

abbrev pub invariant-loop-i : goal.invariant-loop-i
invariant-loop-i l = Pairing l.column l.other l.n l.x l.y l.top l.hit l.i
