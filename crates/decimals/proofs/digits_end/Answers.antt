-- One lemma for each way a turn can end: at a digit, at another byte, at the end of the text.
use Rattle.std.proofs.Common.{sym, ◌∙◌, arith}
use Rattle.decimals.specs.Walk.{after_digit, after_stop, after_end}
use Rattle.decimals.proofs.digits_end.Goals as goal

pub returns-then-not-is_digit : goal.returns-then-not-is_digit
returns-then-not-is_digit c =
    (c.loop-i.invariant ∙ after_stop _ c.loop-i.i c.loop-i-test.true (sym c.is_digit.ensures ∙ c.if-not-is_digit.true), omega arith)

pub loop-i-preserved : goal.loop-i-preserved
loop-i-preserved c = c.loop-i.invariant ∙ after_digit _ c.loop-i.i c.loop-i-test.true (sym c.is_digit.ensures ∙ c.if-not-is_digit.false)

pub returns : goal.returns
returns c = (rw c.loop-i.invariant (let e = after_end c.args.s.now c.loop-i.i c.loop-i-test.false in search (arith, e)), omega arith)
