-- `plain_gate::put_faults`: the answers to the goals that the check leaves open. Assumes nothing.
use Rattle.std.proofs.Common.{◌∙◌}
use Rattle.plain_gate.proofs.Faulting.{faulting_own, faulting_owner, faulting_kept, faulting_end}
use Rattle.plain_gate.proofs.put_faults.Goals as goal
use Rattle.plain_gate.proofs.put_faults.Goals.{then-own-i-eq-NOTHING, else-own-i-eq-NOTHING+then-owned-theirs, else-own-i-eq-NOTHING+else-owned-theirs}

-- the actor's cell has nothing; the owner's has nothing; each has something, or there is no owner to ask
pub loop-i-preserved : goal.loop-i-preserved
loop-i-preserved c =
    elim c.if-own-i-eq-NOTHING.branch [
      | then-own-i-eq-NOTHING w ↦ rw w.put-is (faulting_own c.loop-i.invariant c.loop-i-test.true w.if-own-i-eq-NOTHING.true w.push-put.ensures)
      | else-own-i-eq-NOTHING+then-owned-theirs w ↦
          rw w.put-is (faulting_owner c.loop-i.invariant c.loop-i-test.true w.if-own-i-eq-NOTHING.false w.if-owned-theirs.true w.push-put-then-owned-theirs.ensures)
      | else-own-i-eq-NOTHING+else-owned-theirs w ↦
          rw w.put-is (faulting_kept c.loop-i.invariant c.loop-i-test.true w.if-own-i-eq-NOTHING.false w.if-owned-theirs.false)
    ]

pub returns : goal.returns
returns c =
    faulting_end c.loop-i.invariant c.args.n c.loop-i-test.false (c.min-top.ensures ∙ rw (c.min.ensures, c.min-long.ensures))
