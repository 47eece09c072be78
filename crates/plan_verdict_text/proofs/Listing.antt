-- The verdicts of an answer, put one by one. Assumes nothing.
use Rattle.std.proofs.Common.{ℕ, ◌+◌, ◌≤◌, ◌≡◌, List, length}
use Rattle.lines.specs.Lines.{decimal_line}
use Rattle.text_rules.specs.Records.{texts}
use Rattle.buffers.specs.Buffers.{put}
use Rattle.buffers.specs.Laws.{Writing, writing_start, writing_put}
use Rattle.buffers.specs.Positions.{behind}
use Rattle.steps.specs.Judging.{verdicts_in}
use Rattle.steps.specs.declared.PlanTextVerdict.{PlanTextVerdict}
use Rattle.plan_verdict_text.specs.PlanPrinted.{verdicts_key, judgement_text, verdicts_text}

-- behind the line of their number the verdicts are left
pub verdicts_start : (v : PlanTextVerdict) {at end : ℕ} {old new : List ℕ} → at + length (verdicts_text v) ≤ length old
    → end ≡ behind at (decimal_line verdicts_key v.count) old → new ≡ put at (decimal_line verdicts_key v.count) old
    → Writing at (verdicts_text v) old (texts judgement_text (verdicts_in v)) end new
unfolding verdicts_text
verdicts_start v {at} {end} {old} {new} room place written =
    writing_put (decimal_line verdicts_key v.count) (texts judgement_text (verdicts_in v)) room (writing_start at (verdicts_text v) old) place written
