-- A blank is passed over; the first other byte, or the end, is where the text without its blanks begins.
use Rattle.std.proofs.Common.{◌≡◌, sym, ◌∙◌, arith, length}
use Rattle.json_tokens.proofs.Walks.{unblanked_blank, unblanked_stop, unblanked_end}
use Rattle.json_tokens.proofs.blanks_end.Goals as goal

pub returns-then-not-is_blank : goal.returns-then-not-is_blank
returns-then-not-is_blank c = (
  c.loop-i.invariant
      ∙ unblanked_stop c.args.s.now c.loop-i.i c.loop-i-test.true (sym c.is_blank.ensures ∙ c.if-not-is_blank.true),
  omega arith,
  omega arith,
)

pub loop-i-preserved : goal.loop-i-preserved
loop-i-preserved c =
    c.loop-i.invariant
    ∙ unblanked_blank c.args.s.now c.loop-i.i c.loop-i-test.true (sym c.is_blank.ensures ∙ c.if-not-is_blank.false)

pub returns : goal.returns
returns c =
    let whole : c.loop-i.i ≡ length c.args.s.now = omega arith in
    (rw (← whole) (c.loop-i.invariant ∙ unblanked_end c.args.s.now c.loop-i.i c.loop-i-test.false), omega arith, omega arith)
