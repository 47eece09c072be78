-- `columns::claim_at` meets its contract: what is no place of the sheet has no claim, and at a place each number is that of its column (Sheets). What
-- two `u32` keep of an expiry makes a `u64`. Assumes nothing.
use Rattle.std.proofs.Common.{sym, ◌∙◌}
use Rattle.columns.specs.SheetLaws.{claim_past}
use Rattle.columns.proofs.Sheets.{claim_short, claim_read}
use Rattle.columns.proofs.claim_at.Goals as goal

pub returns-then-sheet-lt-SHEET : goal.returns-then-sheet-lt-SHEET
returns-then-sheet-lt-SHEET c =
    let a = c.args in
    c.none.ensures ∙ claim_short a.sheet.now a.i c.if-sheet-lt-SHEET.true

pub returns-then-i-ge-CLAIMS : goal.returns-then-i-ge-CLAIMS
returns-then-i-ge-CLAIMS c =
    let a = c.args in
    c.none-then-i-ge-CLAIMS.ensures ∙ sym (claim_past a.sheet.now a.i c.if-i-ge-CLAIMS.true)

pub returns : goal.returns
returns c =
    let a = c.args in
    claim_read a.sheet.now a.i c.if-sheet-lt-SHEET.false c.if-i-ge-CLAIMS.false
