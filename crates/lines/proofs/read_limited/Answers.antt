-- Without the key there is no such line. With it, the line is what the byte behind the number makes of the number that was read: LF ends it,
-- any other byte and the text's end do not.
use Rattle.std.proofs.Common.{◌+◌, sym, ◌∙◌, arith}
use Rattle.lines.proofs.Walks.{limited_none, limited_on, limited_behind, ended_got, ended_got_other, ended_got_past, ended_large, ended_large_other, ended_large_past, ended_bad}
use Rattle.lines.proofs.read_limited.Goals as goal
use Rattle.lines.proofs.read_limited.Goals.{else-next-s-via-then-next-s+else-s-next-eq-LINE_FEED, else-next-s-via-else-next-s, else-next-s-2-via-then-next-s-2+else-s-next-eq-LINE_FEED-2, else-next-s-2-via-else-next-s-2}

pub returns-then-not-has_key : goal.returns-then-not-has_key
returns-then-not-has_key c =
    let a = c.args in
    limited_none a.key.now a.s.now a.greatest a.at (sym c.has_key.ensures ∙ c.if-not-has_key.true)

-- the line that LF ends lies behind the position that it begins at
pub returns-then-s-next-eq-LINE_FEED : goal.returns-then-s-next-eq-LINE_FEED
returns-then-s-next-eq-LINE_FEED c =
    let a = c.args in
    let v = c.in-Value in
    let keyed = sym c.has_key.ensures ∙ c.if-not-has_key.false in
    let read = limited_on a.key.now a.s.now a.greatest a.at _ keyed v.ensures.0 ∙ ended_got a.s.now v.next v.n c.if-next-s.true c.if-s-next-eq-LINE_FEED.true in
    (read, omega arith, limited_behind a.key.now a.s.now a.greatest a.at v.n (v.next + 1) (omega arith) read)

pub returns-then-s-next-eq-LINE_FEED-2 : goal.returns-then-s-next-eq-LINE_FEED-2
returns-then-s-next-eq-LINE_FEED-2 c =
    let a = c.args in
    let keyed = sym c.has_key.ensures ∙ c.if-not-has_key.false in
    limited_on a.key.now a.s.now a.greatest a.at _ keyed c.in-Large.ensures.0 ∙ ended_large a.s.now c.in-Large.next c.if-next-s-2.true c.if-s-next-eq-LINE_FEED-2.true

pub returns-else-next-s : goal.returns-else-next-s
returns-else-next-s c =
    let v = c.in-Value in
    let a = c.args in
    let keyed = sym c.has_key.ensures ∙ c.if-not-has_key.false in
    limited_on a.key.now a.s.now a.greatest a.at _ keyed v.ensures.0
    ∙ elim c.else-next-s.branch [
      | else-next-s-via-then-next-s+else-s-next-eq-LINE_FEED w ↦ ended_got_other a.s.now v.next v.n w.if-next-s.true w.if-s-next-eq-LINE_FEED.false
      | else-next-s-via-else-next-s w ↦ ended_got_past a.s.now v.next v.n w.if-next-s.false
    ]

pub returns-else-next-s-2 : goal.returns-else-next-s-2
returns-else-next-s-2 c =
    let v = c.in-Large in
    let a = c.args in
    let keyed = sym c.has_key.ensures ∙ c.if-not-has_key.false in
    limited_on a.key.now a.s.now a.greatest a.at _ keyed v.ensures.0
    ∙ elim c.else-next-s-2.branch [
      | else-next-s-2-via-then-next-s-2+else-s-next-eq-LINE_FEED-2 w ↦ ended_large_other a.s.now v.next w.if-next-s-2.true w.if-s-next-eq-LINE_FEED-2.false
      | else-next-s-2-via-else-next-s-2 w ↦ ended_large_past a.s.now v.next w.if-next-s-2.false
    ]

pub returns-in-Bad : goal.returns-in-Bad
returns-in-Bad c =
    let a = c.args in
    limited_on a.key.now a.s.now a.greatest a.at _ (sym c.has_key.ensures ∙ c.if-not-has_key.false) c.in-Bad.ensures ∙ ended_bad
