-- What leads to the flag is put, and behind it the word for the flag's digit.
use Rattle.std.proofs.Common.{true, false, eq-eqb, ne_eqb}
use Rattle.json_writing.proofs.Joining.{setting_written}
use Rattle.json_writing.proofs.put_setting.Goals as goal

pub returns-then-flags-flag-eq1 : goal.returns-then-flags-flag-eq1
returns-then-flags-flag-eq1 c =
    let a = c.args in
    let both = setting_written a.name.now a.flags a.flag a.at a.buf.now true (eq-eqb _ _ c.if-flags-flag-eq1.true) c.requires.0
    c.put_bytes-word_at.ensures.behind c.put_bytes-word_at.ensures.written c.put_bytes.ensures.behind c.put_bytes.ensures.written in
    record { behind = both.0; written = both.1 }

pub returns-else-flags-flag-eq1 : goal.returns-else-flags-flag-eq1
returns-else-flags-flag-eq1 c =
    let a = c.args in
    let both = setting_written a.name.now a.flags a.flag a.at a.buf.now false (ne_eqb _ _ c.if-flags-flag-eq1.false) c.requires.0
    c.put_bytes-word_at.ensures.behind c.put_bytes-word_at.ensures.written c.put_bytes-else-flags-flag-eq1.ensures.behind c.put_bytes-else-flags-flag-eq1.ensures.written in
    record { behind = both.0; written = both.1 }
