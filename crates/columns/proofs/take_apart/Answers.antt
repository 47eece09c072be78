-- `columns::take_apart` meets its contract: where there is such a place the claim is put there, and nothing is written else (Sheets). Assumes nothing.
use Rattle.std.proofs.Common.{sym, ◌∙◌}
use Rattle.columns.specs.SheetLaws.{taken_apart_put}
use Rattle.columns.proofs.Sheets.{taken_apart_past, taken_apart_other}
use Rattle.columns.proofs.take_apart.Goals as goal

pub returns-then-at-lt-CLAIMS : goal.returns-then-at-lt-CLAIMS
returns-then-at-lt-CLAIMS c =
    let a = c.args in
    c.put_claim.ensures ∙ sym (taken_apart_put a.sheet.now a.at a.c c.if-sheet-eq-SHEET.true c.if-at-lt-CLAIMS.true)

pub returns-else-at-lt-CLAIMS : goal.returns-else-at-lt-CLAIMS
returns-else-at-lt-CLAIMS c = let a = c.args in sym (taken_apart_past a.sheet.now a.at a.c c.if-at-lt-CLAIMS.false)

pub returns-else-sheet-eq-SHEET : goal.returns-else-sheet-eq-SHEET
returns-else-sheet-eq-SHEET c = let a = c.args in sym (taken_apart_other a.sheet.now a.at a.c c.if-sheet-eq-SHEET.false)
