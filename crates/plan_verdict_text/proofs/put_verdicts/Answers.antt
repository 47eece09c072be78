-- The line of their number is put, then at each turn of the loop the next of the verdicts.
use Rattle.std.proofs.Common.{◌≡◌, ◌≤◌, ◌<◌, arith, rules, length, get_or, take}
use Rattle.std.proofs.Math.Seq.{get_or-take, length-take-le}
use Rattle.lists.specs.Loops.{length_mapped}
use Rattle.steps.specs.Steps.{text_action_limit}
use Rattle.actions.specs.declared.Judgement.{Judgement}
use Rattle.actions.specs.declared.Judgement.TheVariants.{Permitted}
use Rattle.buffers.specs.Laws.{writing_start, writing_left, writing_last}
use Rattle.register_writing.specs.Sections.{going_room, going_next, going_done}
use Rattle.plan_verdict_text.specs.PlanPrinted.{judgement_text}
use Rattle.plan_verdict_text.proofs.Listing.{verdicts_start}
use Rattle.plan_verdict_text.proofs.put_verdicts.Goals as goal

-- what a read past the places would give
abbrev beyond : Judgement
beyond = Permitted

pub loop-entry-init : goal.loop-entry-init
loop-entry-init c = writing_start _ _ _

pub put_judgement-end-requires : goal.put_judgement-end-requires
put_judgement-end-requires c =
    let v = c.args.v in
    let full : length v.list ≡ text_action_limit = search (rules, length_mapped) in
    let inside : v.count ≤ length v.list = omega (arith, c.requires.1) in
    let more : c.loop-entry.entry-index < v.count = omega (arith, length-take-le v.count v.list inside) in
    let same : get_or (take v.count v.list) c.loop-entry.entry-index beyond ≡ get_or v.list c.loop-entry.entry-index beyond = get_or-take v.count v.list c.loop-entry.entry-index beyond more in
    let counted = verdicts_start v c.requires.0 c.put_line-end.ensures.behind c.put_line-end.ensures.written in
    rw same (going_room judgement_text v.list v.count beyond inside (writing_left c.requires.0 counted) more c.loop-entry.invariant)

pub loop-entry-preserved : goal.loop-entry-preserved
loop-entry-preserved c =
    let v = c.args.v in
    let full : length v.list ≡ text_action_limit = search (rules, length_mapped) in
    let inside : v.count ≤ length v.list = omega (arith, c.requires.1) in
    let more : c.loop-entry.entry-index < v.count = omega (arith, length-take-le v.count v.list inside) in
    let same : get_or (take v.count v.list) c.loop-entry.entry-index beyond ≡ get_or v.list c.loop-entry.entry-index beyond = get_or-take v.count v.list c.loop-entry.entry-index beyond more in
    let counted = verdicts_start v c.requires.0 c.put_line-end.ensures.behind c.put_line-end.ensures.written in
    let placed = rw same at c.put_judgement-end.ensures.behind in
    let written = rw same at c.put_judgement-end.ensures.written in
    going_next judgement_text v.list v.count beyond inside (writing_left c.requires.0 counted) more c.loop-entry.invariant placed written

pub returns : goal.returns
returns c =
    let v = c.args.v in
    let full : length v.list ≡ text_action_limit = search (rules, length_mapped) in
    let inside : v.count ≤ length v.list = omega (arith, c.requires.1) in
    let past : v.count ≤ c.loop-entry.entry-index = omega (arith, length-take-le v.count v.list inside) in
    let all = going_done judgement_text v.list v.count beyond inside past c.loop-entry.invariant in
    let counted = verdicts_start v c.requires.0 c.put_line-end.ensures.behind c.put_line-end.ensures.written in
    let section = writing_last c.requires.0 counted all.0 all.1 in
    record { behind = section.0; written = section.1 }
