-- `buffers::copy` meets its contract: each turn writes one byte more. Assumes nothing.
use Rattle.std.proofs.Common.{refl, sym, ◌∙◌, ◌+◌, add-one, arith, take, get_or, length-set, length-take-le, take-suc, take_all}
use Rattle.lists.specs.Splices.{splice_nil, splice_snoc}
use Rattle.buffers.proofs.copy.Goals as goal

pub loop-i-init : goal.loop-i-init
loop-i-init c = (refl, sym (splice_nil _ _))

pub loop-i-preserved : goal.loop-i-preserved
loop-i-preserved c =
    let a = c.args in
    let i = c.loop-i.i in
    let len = length-take-le i a.t.now (omega arith) in (
      simp length-set c.loop-i.invariant.0,
      splice_snoc a.at (take i a.t.now) (get_or a.t.now i 0) a.buf.now c.loop-i.buf (a.at + i) (omega arith) (omega arith) c.loop-i.invariant.1
          ∙ rw (add-one, take-suc a.t.now i 0 c.loop-i-test.true),
    )

pub returns-clause-written : goal.returns-clause-written
returns-clause-written c = c.loop-i.invariant.1 ∙ rw (take_all c.loop-i.i c.args.t.now c.loop-i-test.false)
