-- `attaching::put_at` meets its contract: past the last place nothing is put, at the count the count is one more, and elsewhere it stays (Placing).
-- Assumes nothing.
use Rattle.std.proofs.Common.{sym, arith}
use Rattle.attaching.proofs.Placing.{put_over, put_behind, put_past}
use Rattle.attaching.proofs.put_at.Goals as goal

pub returns-then-place-ge-PLACES : goal.returns-then-place-ge-PLACES
returns-then-place-ge-PLACES c = sym (put_past _ _ _ c.if-place-ge-PLACES.true)

pub returns-then-place-book : goal.returns-then-place-book
returns-then-place-book c = sym (put_behind _ _ _ (omega (arith, c.if-place-ge-PLACES.false)) c.if-place-book.true)

pub returns-else-place-book : goal.returns-else-place-book
returns-else-place-book c = sym (put_over _ _ _ (omega (arith, c.if-place-ge-PLACES.false)) c.if-place-book.false)
