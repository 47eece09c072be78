-- `coverage::laying::part_at` meets its contract. Each answer is the path at the place under the tests that led to it (Parts, Laws). Assumes nothing.
use Rattle.std.proofs.Common.{sym}
use Rattle.coverage.specs.LaidLaws.{part_past}
use Rattle.coverage.proofs.Parts.{part_unmeasured, part_within}
use Rattle.coverage.proofs.laying.part_at.Goals as goal

pub returns-then-lens-x : goal.returns-then-lens-x
returns-then-lens-x c =
    let a = c.args in
    sym (part_unmeasured a.bytes.now a.lens.now a.x c.if-lens-x.true)

pub returns-then-bytes-x : goal.returns-then-bytes-x
returns-then-bytes-x c =
    let a = c.args in
    sym (part_past a.bytes.now a.lens.now a.x c.if-bytes-x.true)

pub returns : goal.returns
returns c =
    let a = c.args in
    part_within a.bytes.now a.lens.now a.x c.min-len.result c.if-bytes-x.false c.min-len.ensures
