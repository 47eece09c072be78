-- The count line is put, then at each turn of the loop the next of the actors.
use Rattle.std.proofs.Common.{◌≡◌, ◌≤◌, ◌<◌, arith, rules, length, get_or, take}
use Rattle.std.proofs.Math.Seq.{get_or-take, length-take-le}
use Rattle.lists.specs.Loops.{length_mapped}
use Rattle.register.specs.Limits.{actor_limit}
use Rattle.register.specs.Register.{no_actor}
use Rattle.text_rules.specs.Keys.{actors_key}
use Rattle.text_rules.specs.Registers.{actor_text}
use Rattle.buffers.specs.Laws.{writing_start, writing_left, writing_last}
use Rattle.register_writing.specs.Sections.{section_start, going_room, going_next, going_done}
use Rattle.register_writing.proofs.put_actors.Goals as goal

pub loop-a-init : goal.loop-a-init
loop-a-init c = writing_start _ _ _

pub put_actor-end-requires : goal.put_actor-end-requires
put_actor-end-requires c =
    let k = c.args.k in
    let full : length k.list ≡ actor_limit = search (rules, length_mapped) in
    let inside : k.count ≤ length k.list = omega (arith, c.requires.1) in
    let counted =
    section_start actor_text k.list k.count actors_key actor_limit c.args.at inside c.requires.0 c.put_line-end.ensures.behind c.put_line-end.ensures.written in
    let more : c.loop-a.a-index < k.count = omega (arith, length-take-le k.count k.list inside) in
    let same : get_or (take k.count k.list) c.loop-a.a-index no_actor ≡ get_or k.list c.loop-a.a-index no_actor = get_or-take k.count k.list c.loop-a.a-index no_actor more in
    rw same (going_room actor_text k.list k.count no_actor inside (writing_left c.requires.0 counted) more c.loop-a.invariant)

pub loop-a-preserved : goal.loop-a-preserved
loop-a-preserved c =
    let k = c.args.k in
    let full : length k.list ≡ actor_limit = search (rules, length_mapped) in
    let inside : k.count ≤ length k.list = omega (arith, c.requires.1) in
    let counted =
    section_start actor_text k.list k.count actors_key actor_limit c.args.at inside c.requires.0 c.put_line-end.ensures.behind c.put_line-end.ensures.written in
    let more : c.loop-a.a-index < k.count = omega (arith, length-take-le k.count k.list inside) in
    let same : get_or (take k.count k.list) c.loop-a.a-index no_actor ≡ get_or k.list c.loop-a.a-index no_actor = get_or-take k.count k.list c.loop-a.a-index no_actor more in
    let placed = rw same at c.put_actor-end.ensures.behind in
    let written = rw same at c.put_actor-end.ensures.written in
    going_next actor_text k.list k.count no_actor inside (writing_left c.requires.0 counted) more c.loop-a.invariant placed written

pub returns : goal.returns
returns c =
    let k = c.args.k in
    let full : length k.list ≡ actor_limit = search (rules, length_mapped) in
    let inside : k.count ≤ length k.list = omega (arith, c.requires.1) in
    let past : k.count ≤ c.loop-a.a-index = omega (arith, length-take-le k.count k.list inside) in
    let counted =
    section_start actor_text k.list k.count actors_key actor_limit c.args.at inside c.requires.0 c.put_line-end.ensures.behind c.put_line-end.ensures.written in
    let all = going_done actor_text k.list k.count no_actor inside past c.loop-a.invariant in
    let section = writing_last c.requires.0 counted all.0 all.1 in
    record { behind = section.0; written = section.1 }
