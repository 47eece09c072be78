-- Behind the opening mark the list is closed at once, or has a number.
use Rattle.std.proofs.Common.{ap, arith}
use Rattle.json_reading.specs.Answers.{limited}
use Rattle.json_reading.proofs.Lists.{numbers_unopened, numbers_some, says_none, says_from}
use Rattle.json_reading.proofs.numbers.read_numbers.Goals as goal

pub returns-in-Some : goal.returns-in-Some
returns-in-Some c =
    let a = c.args in
    let opened = c.in_ok-begun.ensures in
    let closed = c.in-Some.ensures in
    says_none a.s.now a.at _ a.base a.numbers.now _ opened.0 closed.0 (omega arith, closed.1.1)

pub returns-in-None : goal.returns-in-None
returns-in-None c =
    let a = c.args in
    let opened = c.in_ok-begun.ensures in
    says_from a.s.now a.at c.in_ok-begun.begun a.base a.numbers.now _ c.read_items.result _ _ (omega arith)
    (ap limited (numbers_some _ _ opened.0 c.in-None.ensures)) c.read_items.ensures

pub returns-in_err-begun : goal.returns-in_err-begun
returns-in_err-begun c = rw c.from_residual.ensures (ap limited (numbers_unopened _ c.in_err-begun.ensures))
