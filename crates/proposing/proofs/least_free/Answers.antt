-- `proposing::least_free`: the answers to the goals that the check leaves open. Assumes nothing.
use Rattle.std.proofs.Common.{ap, ◌∙◌, arith, length, take}
use Rattle.columns.specs.SheetLaws.{column_length}
use Rattle.proposing.specs.Planned.{ids_used}
use Rattle.proposing.proofs.Using.{trying_start, trying_next, trying_found, trying_done}
use Rattle.proposing.proofs.least_free.Goals as goal
use Rattle.proposing.proofs.least_free.Goals.{else-loop-id-test, then-loop-id-test+else-not-used-id+else-id-n}

pub used_ids-used-requires : goal.used_ids-used-requires
used_ids-used-requires c =
    omega (arith, c.requires.0, ap length c.column.ensures, column_length c.args.sheet.now 0 c.requires.1 (omega arith))

pub loop-id-init : goal.loop-id-init
loop-id-init c =
    trying_start c.requires.0 c.requires.1 (c.used_ids-used.ensures ∙ ap (λ l. ids_used (take c.args.n l)) c.column.ensures)

pub loop-id-preserved : goal.loop-id-preserved
loop-id-preserved c = trying_next c.loop-id.invariant c.loop-id-test.true c.if-not-used-id.false

pub returns-then-not-used-id : goal.returns-then-not-used-id
returns-then-not-used-id c = trying_found c.loop-id.invariant c.loop-id-test.true c.if-not-used-id.true

pub returns : goal.returns
returns c =
    elim c.loop-id-test.branch [
      | else-loop-id-test w ↦ trying_done c.loop-id.invariant (omega arith)
      | then-loop-id-test+else-not-used-id+else-id-n w ↦
          trying_done (trying_next c.loop-id.invariant (omega arith) w.if-not-used-id.false) (omega arith)
    ]
