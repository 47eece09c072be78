-- A clock out of range, an object that is not admitted, a key that is missing or too many uses are refused; else the action is that of the members.
use Rattle.std.proofs.Common.{sym, ◌∙◌, arith}
use mir.Facts.{Fits-below}
use Rattle.lists.specs.Tests.{and_left}
use Rattle.json_rules.specs.Names.{read_place, write_place, execute_place}
use Rattle.json_reading.proofs.Readings.{id_inside, read_made, json_late, json_unadmitted, json_partial, json_whole}
use Rattle.json_reading.proofs.read_json.Goals as goal

pub returns-then-moment-ge-MOMENT_END : goal.returns-then-moment-ge-MOMENT_END
returns-then-moment-ge-MOMENT_END c = c.refused.ensures ∙ sym (json_late _ _ c.if-moment-ge-MOMENT_END.true)

pub returns-in_default : goal.returns-in_default
returns-in_default c = c.refused-in_default.ensures ∙ sym (json_unadmitted _ c.if-moment-ge-MOMENT_END.false c.in_default.ensures)

pub is_full-requires : goal.is_full-requires
is_full-requires c =
    let a = c.in-Some.ensures.1 in
    let short = a.2.short in
    (short read_place (omega arith) (omega arith), short write_place (omega arith) (omega arith), short execute_place (omega arith) (omega arith))

pub returns-then-not-is_full : goal.returns-then-not-is_full
returns-then-not-is_full c =
    let a = c.in-Some.ensures.1 in
    let lacking = sym c.is_full.ensures ∙ c.if-not-is_full.true in
    c.refused-then-not-is_full.ensures ∙ sym (json_partial _ c.if-moment-ge-MOMENT_END.false _ a c.read_object.auto.numbers lacking)

pub id_of-id-requires : goal.id_of-id-requires
id_of-id-requires c =
    let a = c.in-Some.ensures.1 in
    let full = sym c.is_full.ensures ∙ c.if-not-is_full.false in
    id_inside a.2 c.read_object.auto.numbers (and_left _ _ full)

pub overflow_cast-result : goal.overflow_cast-result
overflow_cast-result c =
    let a = c.in-Some.ensures.1 in
    let full = sym c.is_full.ensures ∙ c.if-not-is_full.false in
    let inside = id_inside a.2 c.read_object.auto.numbers (and_left _ _ full) in
    Fits-below {n = 65} tt (omega (arith, inside.1))

pub returns : goal.returns
returns c =
    let a = c.in-Some.ensures.1 in
    let full = sym c.is_full.ensures ∙ c.if-not-is_full.false in
    read_made a.2 c.read_object.auto.numbers (and_left _ _ full) _ _ _ c.uses_of-uses.ensures c.id_of-id.ensures
    ∙ sym (json_whole _ c.if-moment-ge-MOMENT_END.false _ a c.read_object.auto.numbers full)
