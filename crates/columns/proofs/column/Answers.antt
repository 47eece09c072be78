-- `columns::column` meets its contract: each answer is the column under the tests that led to it (SheetLaws, Sheets). Assumes nothing.
use Rattle.std.proofs.Common.{sym}
use Rattle.columns.proofs.Sheets.{column_short, column_past, column_part}
use Rattle.columns.proofs.column.Goals as goal

pub returns-then-sheet-lt-SHEET : goal.returns-then-sheet-lt-SHEET
returns-then-sheet-lt-SHEET c =
    let a = c.args in
    sym (column_short a.sheet.now a.which c.if-sheet-lt-SHEET.true)

pub returns-then-which-gt-LEFT : goal.returns-then-which-gt-LEFT
returns-then-which-gt-LEFT c =
    let a = c.args in
    sym (column_past a.sheet.now a.which c.if-which-gt-LEFT.true)

pub returns : goal.returns
returns c =
    let a = c.args in
    column_part a.sheet.now a.which c.if-sheet-lt-SHEET.false c.if-which-gt-LEFT.false
