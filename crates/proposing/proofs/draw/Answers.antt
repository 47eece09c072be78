-- `proposing::draw` meets its contract: each step is what the definition asks (`drawn_told`). Assumes nothing.
use Rattle.std.proofs.Common.{ap, ◌∙◌, arith, length, rules}
use Rattle.columns.specs.SheetLaws.{column_length}
use Rattle.proposing.proofs.Answering.{drawn_told}
use Rattle.proposing.proofs.draw.Goals as goal

pub rooms-left-requires : goal.rooms-left-requires
rooms-left-requires c =
    let s = c.args.sheet.now in (
      c.requires.0,
      search rules,
      ap length c.column-grantors.ensures ∙ column_length s 2 c.requires.1 (omega arith),
      ap length c.column-holders.ensures ∙ column_length s 3 c.requires.1 (omega arith),
    )

pub returns : goal.returns
returns c =
    let a = c.args in
    drawn_told a.version a.counts a.found a.sheet.now a.ask.actor a.ask.usage a.ask.moment a.signers
    c.column-grantors.ensures c.column-holders.ensures c.claim_ends-ends.ensures c.hands_taken-step.ensures c.rooms-left.ensures
    c.marks-marked.ensures c.least_free.ensures c.worth.ensures c.none.ensures c.sign.ensures
