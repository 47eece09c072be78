-- `soundness::ranges::claims_fit` meets its contract: each column is in range, and the columns together are the claims (`columns_fit`). Assumes nothing.
use Rattle.std.proofs.Common.{◌∙◌, arith}
use Rattle.columns.specs.Sheet.{expiry_column, late_column}
use Rattle.columns.specs.SheetLaws.{column_length}
use Rattle.soundness.proofs.Fitting.{columns_fit}
use Rattle.soundness.proofs.ranges.claims_fit.Goals as goal

pub expiries_fit-requires : goal.expiries_fit-requires
expiries_fit-requires c =
    let long = c.requires.1 in
    (c.requires.0, rw c.column-expiries.ensures (column_length c.args.sheet.now expiry_column long (omega arith)), rw c.column-late.ensures (column_length c.args.sheet.now late_column long (omega arith)))

pub returns : goal.returns
returns c =
    columns_fit c.args.version c.args.sheet.now c.args.n c.requires.0 c.requires.1
    (c.numbers_fit.ensures ∙ rw c.column-ids.ensures)
    (c.numbers_fit-2.ensures ∙ rw c.column-parents.ensures)
    (c.numbers_fit-3.ensures ∙ rw c.column-grantors.ensures)
    (c.numbers_fit-4.ensures ∙ rw c.column-holders.ensures)
    (c.numbers_fit-5.ensures ∙ rw c.column-claimed.ensures)
    (c.rights_fit.ensures ∙ rw c.column-rights.ensures)
    (c.numbers_fit-6.ensures ∙ rw c.column-weights.ensures)
    (c.numbers_fit-7.ensures ∙ rw c.column-left.ensures)
    (c.expiries_fit.ensures ∙ rw (c.column-expiries.ensures, c.column-late.ensures))
