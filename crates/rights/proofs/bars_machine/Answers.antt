-- `rights::bars_machine` meets its contract: each row is the one that the table's rule says, and what has a digit in common with the whole sum
-- bars a machine (`bars_mask`). Assumes nothing.
use Rattle.std.proofs.Common.{sym, ap, ◌∙◌, not, rules, eqb, bit_and}
use Rattle.rights.proofs.Table.{table_worth, table_machine}
use Rattle.rights.proofs.Kept.{summing_free, summing_kept, summing_fits, summing_done, bars_mask}
use Rattle.rights.proofs.bars_machine.Goals as goal
use Rattle.rights.proofs.bars_machine.Goals.{then-not-right, else-not-right}

pub overflow_add-kept : goal.overflow_add-kept
overflow_add-kept c =
    let b = c.loop-right.right-index in
    let h = c.loop-right-test.true in
    let fits = summing_fits c.loop-right.invariant h (sym (table_machine b h) ∙ c.if-not-right.true) (table_worth b h) in
    search rules

pub loop-right-preserved : goal.loop-right-preserved
loop-right-preserved c =
    let b = c.loop-right.right-index in
    let h = c.loop-right-test.true in
    elim c.if-not-right.branch [
      | then-not-right w ↦ rw w.kept-is (summing_kept c.loop-right.invariant h (sym (table_machine b h) ∙ w.if-not-right.true) (table_worth b h))
      | else-not-right w ↦ rw w.kept-is (summing_free c.loop-right.invariant h (sym (table_machine b h) ∙ w.if-not-right.false))
    ]

pub returns : goal.returns
returns c = ap (λ m. not (eqb (bit_and c.args.n m) 0)) (summing_done c.loop-right.invariant c.loop-right-test.false) ∙ bars_mask c.args.n
