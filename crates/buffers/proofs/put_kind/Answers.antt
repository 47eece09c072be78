-- The test on the kind is the one of `kind_line`, and the bytes are those of its two lines.
use Rattle.std.proofs.Common.{eq-eqb, ne_eqb}
use Rattle.lines.specs.Lines.{word_line}
use Rattle.buffers.proofs.put_kind.Goals as goal

pub returns-then-kind-eq-HUMAN : goal.returns-then-kind-eq-HUMAN
unfolding word_line
returns-then-kind-eq-HUMAN c = rw (eq-eqb _ _ c.if-kind-eq-HUMAN.true) (record { behind = c.put_bytes.ensures.behind; written = c.put_bytes.ensures.written })

pub returns : goal.returns
unfolding word_line
returns c = rw (ne_eqb _ _ c.if-kind-eq-HUMAN.false) (record { behind = c.put_bytes-2.ensures.behind; written = c.put_bytes-2.ensures.written })
