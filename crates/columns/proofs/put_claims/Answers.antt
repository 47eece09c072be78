-- `columns::put_claims` meets its contract. What is no sheet is left as it is. Assumes nothing.
use Rattle.std.proofs.Common.{◌≡◌, sym, length, rules}
use Rattle.lists.specs.Loops.{length_mapped}
use Rattle.register.specs.Limits.{claim_limit}
use Rattle.register.specs.Register.{claims_of}
use Rattle.columns.proofs.Sheets.{sheet_with_kept, putting_start, putting_next, putting_done}
use Rattle.columns.proofs.put_claims.Goals as goal

pub loop-i-init : goal.loop-i-init
loop-i-init c =
    let a = c.args in
    let places : length a.k.list ≡ claim_limit = search (rules, length_mapped) in
    putting_start a.k.count a.k.list c.if-sheet-eq-SHEET.true places c.min-top.ensures

pub loop-i-preserved : goal.loop-i-preserved
loop-i-preserved c =
    putting_next c.loop-i.invariant c.loop-i-test.true c.put_claim.ensures

pub returns-after-loop-i : goal.returns-after-loop-i
returns-after-loop-i c = sym (putting_done c.loop-i.invariant c.loop-i-test.false)

pub returns-else-sheet-eq-SHEET : goal.returns-else-sheet-eq-SHEET
returns-else-sheet-eq-SHEET c =
    let a = c.args in
    sym (sheet_with_kept a.sheet.now (claims_of a.k) c.if-sheet-eq-SHEET.false)
