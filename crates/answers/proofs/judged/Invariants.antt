-- The numbers of the verdicts passed are in their places, and zeros past them (Filling).
use Rattle.answers.specs.Answers.{judgement_numbers, no_judgement}
use Rattle.answers.proofs.Filling.{Filling}
use Rattle.answers.proofs.judged.Given as goal

abbrev pub invariant-loop-i : goal.invariant-loop-i
invariant-loop-i g l = Filling judgement_numbers no_judgement g.row.N l.count l.list l.i-end l.numbers l.i
