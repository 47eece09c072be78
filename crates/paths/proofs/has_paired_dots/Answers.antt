-- `paths::has_paired_dots` meets its contract. Assumes nothing.
use Rattle.std.proofs.Common.{sym, ap, ◌∙◌, ◌||◌, arith}
use mathlib.Core.Bool.{or_assoc, or-false}
use Rattle.paths.proofs.Walks.{paired_end, paired_next}
use Rattle.paths.proofs.has_paired_dots.Goals as goal

pub loop-i-preserved : goal.loop-i-preserved
loop-i-preserved c =
    c.loop-i.invariant
    ∙ ap (λ b. c.loop-i.hit || b) (paired_next c.args.p.now c.loop-i.i (omega arith) (omega arith))
    ∙ sym (or_assoc c.loop-i.hit _ _)

pub returns : goal.returns
returns c = sym (c.loop-i.invariant ∙ rw (paired_end c.args.p.now c.loop-i.i c.loop-i-test.false) (or-false c.loop-i.hit))
