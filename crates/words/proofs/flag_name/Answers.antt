-- The bytes are those of the table of the flags, and the text found there is delivered.
use Rattle.words.proofs.Delivering.{delivering, flag_found}
use Rattle.words.proofs.flag_name.Goals as goal

pub returns : goal.returns
returns c =
    let call = c.write_text in
    let a = c.args in
    let both = delivering a.buf.now (flag_found a.flag) call.ensures.answer call.ensures.buffer in
    record { answer = both.0; buffer = both.1 }
