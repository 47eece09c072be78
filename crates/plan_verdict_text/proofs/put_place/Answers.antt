-- By the refusal the line of the position is put, or nothing, or the line's.
use Rattle.std.proofs.Common.{refl, ap, ◌∙◌}
use Rattle.lines.specs.Lines.{decimal_line}
use Rattle.plan_verdict_text.specs.PlanPrinted.{line_key, position_key, place_text}
use Rattle.plan_verdict_text.proofs.Joining.{part_written, nothing_written, place_position, place_none, place_other}
use Rattle.refusals.specs.declared.Refusal.TheVariants.{Absent, Unsound}
use Rattle.plan_verdict_text.proofs.put_place.Goals as goal

pub returns-in-Absent : goal.returns-in-Absent
returns-in-Absent c =
    let a = c.args in
    let all =
    part_written (place_text a.why a.line a.position) (decimal_line position_key a.position) a.at a.buf.now
    (ap (λ why. place_text why a.line a.position) c.in-Absent.is ∙ place_position Absent a.line a.position refl) c.requires
    c.put_line.ensures.behind c.put_line.ensures.written in
    record { behind = all.0; written = all.1 }

pub returns-in-Unsound : goal.returns-in-Unsound
returns-in-Unsound c =
    let a = c.args in
    let all =
    nothing_written (place_text a.why a.line a.position) a.at a.buf.now
    (ap (λ why. place_text why a.line a.position) c.in-Unsound.is ∙ place_none Unsound a.line a.position refl) in
    record { behind = all.0; written = all.1 }

pub returns-in_default : goal.returns-in_default
returns-in_default c =
    let a = c.args in
    let all =
    part_written (place_text a.why a.line a.position) (decimal_line line_key a.line) a.at a.buf.now
    (place_other a.why a.line a.position c.in_default.not-Absent c.in_default.not-Unsound) c.requires
    c.put_line-in_default.ensures.behind c.put_line-in_default.ensures.written in
    record { behind = all.0; written = all.1 }
