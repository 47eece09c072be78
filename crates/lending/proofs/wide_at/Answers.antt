-- `lending::wide_at` meets its contract: its two numbers are read, the low one first (`wide_numbers`). Assumes nothing.
use Rattle.register_bytes.specs.Laws.{wide_numbers}
use Rattle.lending.proofs.wide_at.Goals as goal

pub returns : goal.returns
returns c =
    let a = c.args in
    rw (c.number_at-low.ensures, c.number_at-high.ensures) (wide_numbers a.at a.bytes.now)
