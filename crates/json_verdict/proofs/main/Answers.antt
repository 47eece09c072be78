-- What `main` shows is within the buffer (`delivered_within`). Assumes nothing.
use Rattle.std.proofs.Common.{◌≡◌, ◌≤◌, ℕ, List, length, sym, ap, arith, length-take-le}
use Rattle.buffers.specs.declared.Written.{Written}
use Rattle.buffers.specs.Delivery.{delivered}
use Rattle.buffers.specs.Laws.{delivered_within}
use Rattle.json_verdict.proofs.main.Goals as goal

-- what was delivered is no longer than what the buffer became
within : (t old new : List ℕ) {w : Written} → w ≡ delivered t old → length new ≡ length old → w.length ≤ length new
within t old new {w} same kept = omega (arith, ap (λ (x : Written). x.length) same, delivered_within t old, kept)

pub slice_bounds-printed-end : goal.slice_bounds-printed-end
slice_bounds-printed-end c = within _ _ c.json_verdict_text-written.new.buf c.json_verdict_text-written.ensures.answer c.json_verdict_text-written.auto.buf

pub slice_bounds-write_all-end : goal.slice_bounds-write_all-end
slice_bounds-write_all-end c = sym (length-take-le _ c.json_verdict_text-written.new.buf (within _ _ c.json_verdict_text-written.new.buf c.json_verdict_text-written.ensures.answer c.json_verdict_text-written.auto.buf))
