-- The sheet's front is the printed text, which fits it, and is delivered.
use Rattle.std.proofs.Common.{ℕ, ◌≡◌, ◌≤◌, List, ap, sym, ◌∙◌, arith, length, take, replicate}
use Rattle.std.proofs.Math.ListN.{length-replicate}
use Rattle.std.proofs.Math.Seq.{length-take-le}
use lib.ListN.{length-replicate}
use Rattle.buffers.specs.Buffers.{put}
use Rattle.buffers.specs.Laws.{splice_front}
use Rattle.buffers.specs.Delivery.{delivered}
use Rattle.plan_verdict_text.specs.PlanPrinted.{plan_printed}
use Rattle.plan_verdict_text.specs.Bounds.{plan_printed_limit}
use Rattle.plan_verdict_text.proofs.plan_verdict_text.Goals as goal

-- a blank sheet is as long as it was made
blank_room : (n : ℕ) → n ≤ length {A = ℕ} (replicate n 0)
blank_room n = omega (arith, length-replicate {A = ℕ} n 0)

pub compose-length-requires : goal.compose-length-requires
compose-length-requires c = blank_room 1944

pub slice_bounds-deliver-end : goal.slice_bounds-deliver-end
slice_bounds-deliver-end c =
    let full : length c.compose-length.new.buf ≡ plan_printed_limit = c.compose-length.auto.buf ∙ length-replicate {A = ℕ} 1944 0 in
    sym (length-take-le _ c.compose-length.new.buf (omega (arith, full, c.compose-length.ensures.within)))

pub returns : goal.returns
returns c =
    let a = c.args in
    let made = c.compose-length in
    let text : take made.result made.new.buf ≡ plan_printed a.register.now a.plan.now = rw (made.ensures.behind, made.ensures.written) (splice_front _ _) in
    record {
      answer = c.deliver.ensures.answer ∙ ap (λ (t : List ℕ). delivered t a.buf.now) text;
      buffer = c.deliver.ensures.buffer ∙ ap (λ (t : List ℕ). put 0 t a.buf.now) text;
    }
