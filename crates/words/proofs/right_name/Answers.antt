-- The bytes are those of the table of the rights, and the text found there is delivered.
use Rattle.words.proofs.Delivering.{delivering, right_found}
use Rattle.words.proofs.right_name.Goals as goal

pub returns : goal.returns
returns c =
    let call = c.write_text in
    let a = c.args in
    let both = delivering a.buf.now (right_found a.right) call.ensures.answer call.ensures.buffer in
    record { answer = both.0; buffer = both.1 }
