-- What is out of range or has no place is refused; otherwise the sheet's front is the text, which fits it and is delivered.
use Rattle.std.proofs.Common.{ℕ, ◌≡◌, sym, ap, ◌∙◌, List, length, replicate, length-take-le}
use lib.ListN.{length-replicate}
use Rattle.buffers.specs.Buffers.{put}
use Rattle.buffers.specs.Delivery.{delivered}
use Rattle.json_rules.specs.Actions.{json_limit}
use Rattle.json_writing.proofs.Answers.{json_unfit, json_unheld, json_held}
use Rattle.json_writing.proofs.Composing.{fits_tested, head_room, tail_room, sheet_inside, sheet_front}
use Rattle.json_writing.proofs.write_json.Goals as goal

-- a blank sheet is as long as it was made
abbrev blank_sheet : List ℕ
blank_sheet = replicate json_limit 0

blank : length blank_sheet ≡ json_limit
blank = length-replicate {A = ℕ} json_limit 0

pub returns-then-not-action_fits-is_id : goal.returns-then-not-action_fits-is_id
returns-then-not-action_fits-is_id c =
    let a = c.args in
    let unfit = sym (fits_tested a.a a.id.now a.kind c.action_fits.ensures c.is_id.ensures) ∙ c.if-not-action_fits-is_id.true in
    let told = json_unfit a.a a.id.now a.kind a.buf.now unfit in
    record { answer = c.refused.ensures ∙ told.0; buffer = told.1 }

pub returns-then-not-has_place : goal.returns-then-not-has_place
returns-then-not-has_place c =
    let a = c.args in
    let fits = sym (fits_tested a.a a.id.now a.kind c.action_fits.ensures c.is_id.ensures) ∙ c.if-not-action_fits-is_id.false in
    let told = json_unheld a.a a.id.now a.kind a.buf.now fits (sym c.has_place.ensures ∙ c.if-not-has_place.true) in
    record { answer = c.refused-then-not-has_place.ensures ∙ told.0; buffer = told.1 }

pub put_head-head_end-requires : goal.put_head-head_end-requires
put_head-head_end-requires c =
    let a = c.args in
    let fits = sym (fits_tested a.a a.id.now a.kind c.action_fits.ensures c.is_id.ensures) ∙ c.if-not-action_fits-is_id.false in
    head_room a.a a.id.now a.kind blank_sheet fits blank

pub put_tail-length-requires : goal.put_tail-length-requires
put_tail-length-requires c =
    let a = c.args in
    let fits = sym (fits_tested a.a a.id.now a.kind c.action_fits.ensures c.is_id.ensures) ∙ c.if-not-action_fits-is_id.false in
    tail_room a.a a.id.now a.kind blank_sheet fits blank c.put_head-head_end.ensures.behind c.put_head-head_end.ensures.written

pub slice_bounds-sheet-end : goal.slice_bounds-sheet-end
slice_bounds-sheet-end c =
    let a = c.args in
    let fits = sym (fits_tested a.a a.id.now a.kind c.action_fits.ensures c.is_id.ensures) ∙ c.if-not-action_fits-is_id.false in
    sheet_inside a.a a.id.now a.kind blank_sheet fits blank c.put_head-head_end.ensures.behind c.put_head-head_end.ensures.written
    c.put_tail-length.ensures.behind c.put_tail-length.ensures.written

pub slice_bounds-deliver-end : goal.slice_bounds-deliver-end
slice_bounds-deliver-end c =
    let a = c.args in
    let fits = sym (fits_tested a.a a.id.now a.kind c.action_fits.ensures c.is_id.ensures) ∙ c.if-not-action_fits-is_id.false in
    let inside = sheet_inside a.a a.id.now a.kind blank_sheet fits blank c.put_head-head_end.ensures.behind c.put_head-head_end.ensures.written
    c.put_tail-length.ensures.behind c.put_tail-length.ensures.written in
    sym (length-take-le _ c.put_tail-length.new.buf inside)

pub returns : goal.returns
returns c =
    let a = c.args in
    let fits = sym (fits_tested a.a a.id.now a.kind c.action_fits.ensures c.is_id.ensures) ∙ c.if-not-action_fits-is_id.false in
    let told = json_held a.a a.id.now a.kind a.buf.now fits (sym c.has_place.ensures ∙ c.if-not-has_place.false) in
    let text = sheet_front a.a a.id.now a.kind blank_sheet fits blank c.put_head-head_end.ensures.behind c.put_head-head_end.ensures.written
    c.put_tail-length.ensures.behind c.put_tail-length.ensures.written in
    record {
      answer = c.deliver.ensures.answer ∙ ap (λ (t : List ℕ). delivered t a.buf.now) text ∙ sym told.0;
      buffer = c.deliver.ensures.buffer ∙ ap (λ (t : List ℕ). put 0 t a.buf.now) text ∙ sym told.1;
    }
