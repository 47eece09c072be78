-- A byte is passed, or a line feed ends the text at hand: the one that is sought, or one before it.
use Rattle.words.proofs.Seeking.{seeking_byte, seeking_here, seeking_later, seeking_end}
use Rattle.words.proofs.text_at.Goals as goal
use Rattle.words.proofs.text_at.Goals.{then-b-eq-LINE_FEED+else-left-eq0, else-b-eq-LINE_FEED}

pub returns-then-left-eq0 : goal.returns-then-left-eq0
returns-then-left-eq0 c =
    seeking_here c.loop-i.invariant c.loop-i-test.true c.if-b-eq-LINE_FEED.true c.if-left-eq0.true

pub loop-i-preserved : goal.loop-i-preserved
loop-i-preserved c =
    let turn = c.loop-i.invariant in
    elim c.if-b-eq-LINE_FEED.branch [
      | then-b-eq-LINE_FEED+else-left-eq0 w ↦
          rw (w.left-is, w.from-is) (seeking_later turn c.loop-i-test.true w.if-b-eq-LINE_FEED.true w.if-left-eq0.false)
      | else-b-eq-LINE_FEED w ↦ rw (w.left-is, w.from-is) (seeking_byte turn c.loop-i-test.true w.if-b-eq-LINE_FEED.false)
    ]

pub returns : goal.returns
returns c = seeking_end c.loop-i.invariant c.loop-i-test.false
