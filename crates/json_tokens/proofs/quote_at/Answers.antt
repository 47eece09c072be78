-- A byte that is no quote is one more of the text; the first quote ends it, or the input does.
use Rattle.std.proofs.Common.{◌≡◌, ◌∙◌, arith, length}
use Rattle.json_tokens.proofs.Walks.{quoted_next, quoted_stop, quoted_end, closing_next, closing_stop, closing_end}
use Rattle.json_tokens.proofs.quote_at.Goals as goal

pub returns-then-s-i-eq-QUOTE : goal.returns-then-s-i-eq-QUOTE
returns-then-s-i-eq-QUOTE c =
    let s = c.args.s.now in
    let i = c.loop-i.i in (
      quoted_stop s i c.args.at (omega arith) c.loop-i.invariant.0 (omega arith) c.if-s-i-eq-QUOTE.true,
      c.loop-i.invariant.1 ∙ closing_stop s i (omega arith) c.if-s-i-eq-QUOTE.true,
      omega arith,
      omega arith,
    )

pub loop-i-preserved : goal.loop-i-preserved
loop-i-preserved c =
    let s = c.args.s.now in
    let i = c.loop-i.i in (
      quoted_next s i c.args.at (omega arith) c.loop-i.invariant.0 (omega arith) c.if-s-i-eq-QUOTE.false,
      c.loop-i.invariant.1 ∙ closing_next s i (omega arith) c.if-s-i-eq-QUOTE.false,
    )

pub returns : goal.returns
returns c =
    let s = c.args.s.now in
    let i = c.loop-i.i in
    let whole : i ≡ length s = omega arith in (
      rw (← whole) (quoted_end s i c.args.at (omega arith) c.loop-i.invariant.0 (omega arith)),
      rw (← whole) (c.loop-i.invariant.1 ∙ closing_end s i (omega arith)),
      omega arith,
      omega arith,
    )
