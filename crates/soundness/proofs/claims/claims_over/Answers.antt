-- `soundness::claims::claims_over` meets its contract: each claim that is read off the sheet is judged by what was kept of those before it (Climbing).
-- Assumes nothing.
use Rattle.std.proofs.Common.{sym, rules}
use Rattle.columns.specs.Sheet.{claims_in}
use Rattle.soundness.proofs.Climbing.{sheet_tables, climbed_none, root_read, lost_read, low_read, failed_read, passed_read}
use Rattle.soundness.proofs.claims.claims_over.Goals as goal
use Rattle.soundness.proofs.claims.claims_over.Goals.{then-c-eq0, else-c-eq0+else-up-ge-CLAIMS+else-not-stands_over}

pub loop-i-init : goal.loop-i-init
loop-i-init c =
    let asks = c.requires in (
      sheet_tables c.args.version c.args.sheet.now c.args.n asks.0 asks.1 asks.2 asks.3 c.column-grantors.ensures c.column-holders.ensures,
      climbed_none c.args.version (claims_in c.args.sheet.now) c.args.n _ (search rules),
    )

pub returns-then-up-ge-CLAIMS : goal.returns-then-up-ge-CLAIMS
returns-then-up-ge-CLAIMS c =
    sym (lost_read c.args.sheet.now c.loop-i.invariant.0 c.loop-i-test.true c.claim_at-c.ensures c.if-c-eq0.false c.if-up-ge-CLAIMS.true)

pub overflow_cast-steps : goal.overflow_cast-steps
overflow_cast-steps c =
    let few = low_read c.args.sheet.now c.loop-i.invariant.0 c.loop-i-test.true c.claim_at-c.ensures c.if-c-eq0.false c.if-up-ge-CLAIMS.false c.loop-i.invariant.1 in
    search rules

pub returns-then-not-stands_over : goal.returns-then-not-stands_over
returns-then-not-stands_over c =
    sym
    (failed_read c.args.sheet.now c.loop-i.invariant.0 c.loop-i-test.true c.claim_at-c.ensures c.if-c-eq0.false c.if-up-ge-CLAIMS.false c.loop-i.invariant.1
    c.claim_at-p.ensures c.stands_over.ensures c.if-not-stands_over.true)

pub overflow_add-hops : goal.overflow_add-hops
overflow_add-hops c =
    let few = low_read c.args.sheet.now c.loop-i.invariant.0 c.loop-i-test.true c.claim_at-c.ensures c.if-c-eq0.false c.if-up-ge-CLAIMS.false c.loop-i.invariant.1 in
    search rules

pub overflow_cast-hops : goal.overflow_cast-hops
overflow_cast-hops c =
    let few = low_read c.args.sheet.now c.loop-i.invariant.0 c.loop-i-test.true c.claim_at-c.ensures c.if-c-eq0.false c.if-up-ge-CLAIMS.false c.loop-i.invariant.1 in
    search rules

pub loop-i-preserved : goal.loop-i-preserved
loop-i-preserved c =
    let inv = c.loop-i.invariant in
    elim c.if-c-eq0.branch [
      | then-c-eq0 w ↦ rw w.hops-is (inv.0, root_read c.args.sheet.now inv.0 c.loop-i-test.true c.claim_at-c.ensures inv.1 w.if-c-eq0.true)
      | else-c-eq0+else-up-ge-CLAIMS+else-not-stands_over w ↦ rw w.hops-is (
        inv.0,
        passed_read c.args.sheet.now inv.0 c.loop-i-test.true c.claim_at-c.ensures w.if-c-eq0.false w.if-up-ge-CLAIMS.false inv.1
            w.claim_at-p.ensures w.stands_over.ensures w.if-not-stands_over.false,
      )
    ]
