-- `uses::put_faults` meets its contract. Assumes nothing.
use Rattle.std.proofs.Common.{◌∙◌, arith}
use Rattle.violations.specs.Pushing.{pushing_put, pushing_kept}
use Rattle.uses.specs.Passes.{fault_told}
use Rattle.uses.proofs.Faulting.{covered_to, faulty, faulting_start, faulting_next, faulting_end}
use Rattle.uses.proofs.put_faults.Goals as goal
use Rattle.uses.proofs.put_faults.Goals.{then-lacking-covered, else-lacking-covered}

pub loop-i-init : goal.loop-i-init
loop-i-init c = faulting_start (omega arith) (omega arith)

pub loop-i-preserved : goal.loop-i-preserved
loop-i-preserved c =
    let loop = c.loop-i in
    let a = c.args in
    let freely = c.is_open-freely.result in
    let here = faulty freely a.relied.now a.theirs.now a.owned loop.i in
    let covered = covered_to freely a.relied.now loop.i in
    faulting_next loop.invariant freely c.loop-i-test.true c.is_open-freely.ensures
    (elim c.if-lacking-covered.branch [
      | then-lacking-covered w ↦
          w.vs-is ∙ w.put.ensures ∙ rw w.fault_told.ensures (pushing_put here (fault_told covered loop.i) loop.vs w.if-lacking-covered.true)
      | else-lacking-covered w ↦ w.vs-is ∙ pushing_kept here (fault_told covered loop.i) loop.vs (rw w.if-lacking-covered.false)
    ])

pub returns : goal.returns
returns c = faulting_end c.loop-i.invariant c.loop-i-test.false (omega arith)
