-- The sheet's front is the printed text, which fits it and is delivered.
use Rattle.std.proofs.Common.{ℕ, ◌≡◌, sym, ap, ◌∙◌, List, arith, length, take, length-take-le}
use lib.ListN.{length-replicate}
use Rattle.buffers.specs.Buffers.{put}
use Rattle.buffers.specs.Laws.{splice_front}
use Rattle.buffers.specs.Delivery.{delivered}
use Rattle.verdict_printing.specs.Printed.{json_printed, printed_limit}
use Rattle.verdict_printing.proofs.Lengths.{json_printed_length}
use Rattle.verdict_printing.proofs.json_verdict_text.Goals as goal

pub slice_bounds-sheet-end : goal.slice_bounds-sheet-end
slice_bounds-sheet-end c =
    let a = c.args in
    let full : length c.compose-length.new.buf ≡ printed_limit = c.compose-length.auto.buf ∙ length-replicate {A = ℕ} 1103 0 in
    omega (arith, full, c.compose-length.ensures.behind, json_printed_length a.register.now a.clock.now a.action.now)

pub slice_bounds-deliver-end : goal.slice_bounds-deliver-end
slice_bounds-deliver-end c =
    let a = c.args in
    let full : length c.compose-length.new.buf ≡ printed_limit = c.compose-length.auto.buf ∙ length-replicate {A = ℕ} 1103 0 in
    sym (length-take-le _ c.compose-length.new.buf (omega (arith, full, c.compose-length.ensures.behind, json_printed_length a.register.now a.clock.now a.action.now)))

pub returns : goal.returns
returns c =
    let a = c.args in
    let front : take c.compose-length.result c.compose-length.new.buf ≡ json_printed a.register.now a.clock.now a.action.now =
    rw (c.compose-length.ensures.behind, c.compose-length.ensures.written) (splice_front _ _) in
    record {
      answer = c.deliver.ensures.answer ∙ ap (λ (t : List ℕ). delivered t a.buf.now) front;
      buffer = c.deliver.ensures.buffer ∙ ap (λ (t : List ℕ). put 0 t a.buf.now) front;
    }
