-- Where the key, or the digits and LF behind it, have no room, the line has none; else the key, the digits and LF are written one behind the
-- other.
use Rattle.std.proofs.Common.{◌+◌, ◌≤◌, ◌<◌, refl, sym, ◌∙◌, [], ◌∷◌, ◌++◌, arith, length, leb-true, leb-false}
use Rattle.lists.specs.Splices.{splice_set}
use Rattle.decimals.specs.Decimals.{digits}
use Rattle.lines.specs.Lines.{decimal_line}
use Rattle.lines.proofs.Laws.{decimal_line_length}
use Rattle.buffers.specs.Laws.{put_fits, put_short, writing_start, writing_room, writing_next, writing_done}
use Rattle.buffers.proofs.put_line.Goals as goal

pub returns-then-not-has_room : goal.returns-then-not-has_room
returns-then-not-has_room c =
    let a = c.args in
    let short = leb-false _ _ (sym c.has_room.ensures ∙ c.if-not-has_room.true) in
    let none = put_short a.at (decimal_line a.key.now a.n) a.buf.now (omega (arith, decimal_line_length a.key.now a.n)) in
    record { behind = sym none.1; written = sym none.0 }

pub returns-then-not-has_room-2 : goal.returns-then-not-has_room-2
returns-then-not-has_room-2 c =
    let a = c.args in
    let short = leb-false _ _ (sym c.has_room-2.ensures ∙ c.if-not-has_room-2.true) in
    let none = put_short a.at (decimal_line a.key.now a.n) a.buf.now (omega (arith, decimal_line_length a.key.now a.n, c.digit_count.ensures.0)) in
    record { behind = sym none.1; written = sym none.0 }

pub returns : goal.returns
unfolding decimal_line
returns c =
    let a = c.args in
    let end = c.write_digits-end in
    let line = decimal_line a.key.now a.n in
    let room = leb-true _ _ (sym c.has_room-2.ensures ∙ c.if-not-has_room-2.false) in
    let fit : a.at + length line ≤ length a.buf.now = omega (arith, decimal_line_length a.key.now a.n, c.digit_count.ensures.0) in
    let keyed = writing_next a.key.now (digits a.n ++ (10 ∷ [])) fit (writing_start a.at line a.buf.now) c.copy-digits_at.ensures.behind c.copy-digits_at.ensures.written in
    let numbered = writing_next (digits a.n) (10 ∷ []) fit keyed end.ensures.behind end.ensures.written in
    let left : end.result < length end.new.buf = omega (arith, writing_room (10 ∷ []) [] fit numbered) in
    let whole = writing_done (writing_next (10 ∷ []) [] fit numbered refl (splice_set end.result 10 end.new.buf left)) in
    let same = put_fits a.at line a.buf.now fit in
    record { behind = whole.0 ∙ sym same.1; written = whole.1 ∙ sym same.0 }
