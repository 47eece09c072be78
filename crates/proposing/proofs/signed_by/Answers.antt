-- `proposing::signed_by` meets its contract: the keeper's root, nothing, or a claim below the first marked one (Answering). Assumes nothing.
use Rattle.std.proofs.Common.{ap, ◌∙◌, arith, length}
use Rattle.columns.specs.SheetLaws.{column_length}
use Rattle.proposing.proofs.signed_by.Goals as goal

pub first_marked-place-requires : goal.first_marked-place-requires
first_marked-place-requires c =
    (c.requires.0, ap length c.column-holders.ensures ∙ column_length c.args.sheet.now 3 c.requires.1 (omega arith), c.requires.2)
