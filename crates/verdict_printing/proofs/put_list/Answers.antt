-- The line of their number is put, and behind it the pair of each violation.
use Rattle.std.proofs.Common.{◌≡◌, ◌≤◌, ◌<◌, arith, rules, length, length-take, get_or-take}
use Rattle.lists.specs.Loops.{length_mapped}
use Rattle.actions.specs.Actions.{violation_limit}
use Rattle.actions.specs.declared.Violated.{Violated}
use Rattle.actions.specs.declared.Violation.TheVariants.{FlagSet}
use Rattle.buffers.specs.Laws.{writing_start, writing_left, writing_last}
use Rattle.register_writing.specs.Sections.{going_room, going_next, going_done}
use Rattle.verdict_printing.proofs.Listing.{entry_text, list_start}
use Rattle.verdict_printing.proofs.put_list.Goals as goal

-- what a read past the places would give
abbrev beyond : Violated
beyond = record { what = FlagSet 0 }

pub loop-entry-init : goal.loop-entry-init
loop-entry-init c = writing_start _ _ _

pub put_pair-end-requires : goal.put_pair-end-requires
put_pair-end-requires c =
    let vs = c.args.vs in
    let i = c.loop-entry.entry-index in
    let full : length vs.list ≡ violation_limit = search (rules, length_mapped) in
    let inside : vs.count ≤ length vs.list = omega (arith, full, c.requires.1) in
    let counted = list_start vs c.requires.0 c.put_line-end.ensures.behind c.put_line-end.ensures.written in
    let more : i < vs.count = omega (arith, length-take vs.count vs.list) in
    let entry = get_or-take vs.count vs.list i beyond more in
    rw entry (going_room entry_text vs.list vs.count beyond inside (writing_left c.requires.0 counted) more c.loop-entry.invariant)

pub loop-entry-preserved : goal.loop-entry-preserved
loop-entry-preserved c =
    let vs = c.args.vs in
    let i = c.loop-entry.entry-index in
    let full : length vs.list ≡ violation_limit = search (rules, length_mapped) in
    let inside : vs.count ≤ length vs.list = omega (arith, full, c.requires.1) in
    let counted = list_start vs c.requires.0 c.put_line-end.ensures.behind c.put_line-end.ensures.written in
    let more : i < vs.count = omega (arith, length-take vs.count vs.list) in
    let entry = get_or-take vs.count vs.list i beyond more in
    going_next entry_text vs.list vs.count beyond inside (writing_left c.requires.0 counted) more c.loop-entry.invariant
    (rw entry at c.put_pair-end.ensures.behind) (rw entry at c.put_pair-end.ensures.written)

pub returns : goal.returns
returns c =
    let vs = c.args.vs in
    let i = c.loop-entry.entry-index in
    let full : length vs.list ≡ violation_limit = search (rules, length_mapped) in
    let inside : vs.count ≤ length vs.list = omega (arith, full, c.requires.1) in
    let past : vs.count ≤ i = omega (arith, length-take vs.count vs.list) in
    let counted = list_start vs c.requires.0 c.put_line-end.ensures.behind c.put_line-end.ensures.written in
    let all = going_done entry_text vs.list vs.count beyond inside past c.loop-entry.invariant in
    let both = writing_last c.requires.0 counted all.0 all.1 in
    record { behind = both.0; written = both.1 }
