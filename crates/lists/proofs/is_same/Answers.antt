-- `lists::is_same` meets its contract. Lists of different lengths are not the same; of others, two bytes that differ decide. Assumes nothing.
use Rattle.std.proofs.Common.{sym, ◌∙◌, arith}
use Rattle.lists.proofs.ByPlaces.{same_lengths, same_next, same_other, same_done}
use Rattle.lists.proofs.is_same.Goals as goal

pub returns-then-a-b : goal.returns-then-a-b
returns-then-a-b c = sym (same_lengths c.args.a.now c.args.b.now c.if-a-b.true)

pub returns-then-a-i : goal.returns-then-a-i
returns-then-a-i c =
    let a = c.args in
    sym (c.loop-i.invariant.1 ∙ same_other a.a.now a.b.now c.loop-i.i (omega arith) (omega arith) c.if-a-i.true)

pub loop-i-preserved : goal.loop-i-preserved
loop-i-preserved c =
    let a = c.args in
    (omega arith, c.loop-i.invariant.1 ∙ same_next a.a.now a.b.now c.loop-i.i (omega arith) (omega arith) c.if-a-i.false)

pub returns : goal.returns
returns c =
    let a = c.args in
    sym (c.loop-i.invariant.1 ∙ same_done a.a.now a.b.now c.loop-i.i (omega arith) (omega arith))
