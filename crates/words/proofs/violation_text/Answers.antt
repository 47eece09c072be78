-- The bytes are those of the table of the violations, and the text found there is delivered.
use Rattle.words.proofs.Delivering.{delivering, violation_found}
use Rattle.words.proofs.violation_text.Goals as goal

pub returns : goal.returns
returns c =
    let call = c.write_text in
    let a = c.args in
    let both = delivering a.buf.now (violation_found a.kind) call.ensures.answer call.ensures.buffer in
    record { answer = both.0; buffer = both.1 }
