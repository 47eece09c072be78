-- The walk seeks the text (Seeking).
use Rattle.words.proofs.Seeking.{Seeking}
use Rattle.words.proofs.text_at.Given as goal

abbrev pub invariant-loop-i : goal.invariant-loop-i
invariant-loop-i l = Seeking l.table l.place l.left l.from l.i
