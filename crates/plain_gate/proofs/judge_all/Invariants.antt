-- `plain_gate::judge_all` meets its contract. The loop's invariant: the verdicts on the actions passed are in their places, and those left follow
-- (Holding). Assumes nothing.
use Rattle.plans.specs.Holding.{Holding}
use Rattle.coverage_table.specs.Table.{plain_judgements}
use Rattle.plain_gate.proofs.judge_all.Given as goal

abbrev pub invariant-loop-i : goal.invariant-loop-i
invariant-loop-i l = Holding (plain_judgements l.r) l.p l.p.count l.list l.flagged l.i
