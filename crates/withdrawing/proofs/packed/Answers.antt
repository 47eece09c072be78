-- `withdrawing::packed` meets its contract. Assumes nothing.
use Rattle.std.proofs.Common.{sym, ◌∙◌, ◌<◌, arith, length-set}
use lib.ListN.{length-replicate}
use Rattle.register.specs.Limits.{claim_limit}
use Rattle.withdrawing.proofs.Packing.{packing_start, packing_goes, packing_stays, packing_done}
use Rattle.withdrawing.proofs.packed.Goals as goal
use Rattle.withdrawing.proofs.packed.Goals.{then-not-is_marked, else-not-is_marked}

pub loop-i-init : goal.loop-i-init
loop-i-init c =
    (omega arith, omega arith, length-replicate claim_limit c.none-none.result, packing_start _ _ c.none-none.ensures)

pub loop-i-preserved : goal.loop-i-preserved
loop-i-preserved c =
    let inv = c.loop-i.invariant in
    let inside : c.loop-i.i < claim_limit = omega (arith, c.loop-i-test.true, inv.1) in
    elim c.if-not-is_marked.branch [
      | then-not-is_marked w ↦ (
        omega arith,
        inv.1,
        rw w.list-is (length-set c.loop-i.list c.loop-i.kept w.claim_at.result ∙ inv.2),
        rw (w.list-is, w.kept-is) (packing_stays inv.3 (sym c.is_marked.ensures ∙ w.if-not-is_marked.true) inside w.claim_at.ensures),
      )
      | else-not-is_marked w ↦ (
        omega arith,
        inv.1,
        rw w.list-is inv.2,
        rw (w.list-is, w.kept-is) (packing_goes inv.3 (sym c.is_marked.ensures ∙ w.if-not-is_marked.false)),
      )
    ]

pub returns : goal.returns
returns c = packing_done c.loop-i.invariant.3 c.args.n (omega arith)
