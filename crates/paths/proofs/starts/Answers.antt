-- `paths::starts` meets its contract. A shorter path does not start with a longer one. Assumes nothing.
use Rattle.std.proofs.Common.{sym, ap, ◌∙◌, ◌&&◌, arith}
use mathlib.Core.Bool.{and_assoc, and-true}
use Rattle.paths.proofs.Walks.{starting_short, starting_next, starting_end}
use Rattle.paths.proofs.starts.Goals as goal

pub returns-then-p-o : goal.returns-then-p-o
returns-then-p-o c = sym (starting_short c.args.o.now c.args.p.now c.if-p-o.true)

pub loop-i-preserved : goal.loop-i-preserved
loop-i-preserved c =
    let a = c.args in (
      omega arith,
      c.loop-i.invariant.1
          ∙ ap (λ b. c.loop-i.alike && b) (starting_next a.o.now a.p.now c.loop-i.i (omega arith) (omega arith))
          ∙ sym (and_assoc c.loop-i.alike _ _),
    )

pub returns : goal.returns
returns c =
    let a = c.args in
    sym (c.loop-i.invariant.1 ∙ rw (starting_end a.o.now a.p.now c.loop-i.i c.loop-i-test.false) (and-true c.loop-i.alike))
