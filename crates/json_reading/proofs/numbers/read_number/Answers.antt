-- The first token there is a text, and the text holds a number.
use Rattle.std.proofs.Common.{ap, ◌∙◌, arith}
use Rattle.json_rules.specs.Members.{take_number}
use Rattle.json_reading.proofs.Laws.{number_no_token}
use Rattle.json_reading.proofs.Lists.{number_taken, number_inexact, number_mark, number_nil}
use Rattle.json_reading.proofs.numbers.read_number.Goals as goal

pub returns-in_ok-n-in-Text : goal.returns-in_ok-n-in-Text
returns-in_ok-n-in-Text c =
    let says = c.in-Text.ensures in
    let holds = c.in_ok-n-in-Text.ensures in
    (ap take_number says.0 ∙ number_taken _ _ _ holds.0 holds.1, (omega arith, omega arith))

pub returns-in_err-n-in-Text : goal.returns-in_err-n-in-Text
returns-in_err-n-in-Text c =
    rw c.from_residual.ensures (ap take_number c.in-Text.ensures.0 ∙ number_inexact _ _ c.in_err-n-in-Text.ensures)

pub returns-in-Mark : goal.returns-in-Mark
returns-in-Mark c = ap take_number c.in-Mark.ensures.0 ∙ number_mark _ _

pub returns-in-End : goal.returns-in-End
returns-in-End c = ap take_number c.in-End.ensures ∙ number_nil

pub returns-in-Bad : goal.returns-in-Bad
returns-in-Bad c = ap take_number c.in-Bad.ensures ∙ number_no_token _
