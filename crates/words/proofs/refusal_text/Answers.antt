-- The bytes are those of the table of the refusals, and the text found there is delivered.
use Rattle.words.proofs.Delivering.{delivering, refusal_found}
use Rattle.words.proofs.refusal_text.Goals as goal

pub returns : goal.returns
returns c =
    let call = c.write_text in
    let a = c.args in
    let both = delivering a.buf.now (refusal_found a.number) call.ensures.answer call.ensures.buffer in
    record { answer = both.0; buffer = both.1 }
