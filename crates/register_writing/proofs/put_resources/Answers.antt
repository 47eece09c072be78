-- The count line is put, then at each turn of the loop the next of the resources.
use Rattle.std.proofs.Common.{◌≡◌, ◌≤◌, ◌<◌, [], arith, rules, length, get_or, take}
use Rattle.std.proofs.Math.Seq.{get_or-take, length-take-le}
use Rattle.lists.specs.Loops.{length_mapped}
use Rattle.register.specs.Limits.{resource_limit}
use Rattle.register.specs.declared.Resource.{Resource}
use Rattle.text_rules.specs.Keys.{resources_key}
use Rattle.text_rules.specs.Registers.{resource_text}
use Rattle.register_writing.proofs.Laws.{path_fits}
use Rattle.buffers.specs.Laws.{writing_start, writing_left, writing_last}
use Rattle.register_writing.specs.Sections.{section_start, going_room, going_next, going_done}
use Rattle.register_writing.proofs.put_resources.Goals as goal

-- what a read past the places would give
abbrev beyond : Resource
beyond = record { id = 0; public = 0; keeper = 0; len = 0; path = [] }

pub loop-o-init : goal.loop-o-init
loop-o-init c = writing_start _ _ _

pub put_resource-end-requires : goal.put_resource-end-requires
put_resource-end-requires c =
    let k = c.args.k in
    let full : length k.list ≡ resource_limit = search (rules, length_mapped) in
    let inside : k.count ≤ length k.list = omega (arith, c.requires.1) in
    let counted =
    section_start resource_text k.list k.count resources_key resource_limit c.args.at inside c.requires.0 c.put_line-end.ensures.behind c.put_line-end.ensures.written in
    let more : c.loop-o.o-index < k.count = omega (arith, length-take-le k.count k.list inside) in
    let same : get_or (take k.count k.list) c.loop-o.o-index beyond ≡ get_or k.list c.loop-o.o-index beyond = get_or-take k.count k.list c.loop-o.o-index beyond more in
    rw same (going_room resource_text k.list k.count beyond inside (writing_left c.requires.0 counted) more c.loop-o.invariant, path_fits k c.requires.2 beyond c.loop-o.o-index inside more)

pub loop-o-preserved : goal.loop-o-preserved
loop-o-preserved c =
    let k = c.args.k in
    let full : length k.list ≡ resource_limit = search (rules, length_mapped) in
    let inside : k.count ≤ length k.list = omega (arith, c.requires.1) in
    let counted =
    section_start resource_text k.list k.count resources_key resource_limit c.args.at inside c.requires.0 c.put_line-end.ensures.behind c.put_line-end.ensures.written in
    let more : c.loop-o.o-index < k.count = omega (arith, length-take-le k.count k.list inside) in
    let same : get_or (take k.count k.list) c.loop-o.o-index beyond ≡ get_or k.list c.loop-o.o-index beyond = get_or-take k.count k.list c.loop-o.o-index beyond more in
    let placed = rw same at c.put_resource-end.ensures.behind in
    let written = rw same at c.put_resource-end.ensures.written in
    going_next resource_text k.list k.count beyond inside (writing_left c.requires.0 counted) more c.loop-o.invariant placed written

pub returns : goal.returns
returns c =
    let k = c.args.k in
    let full : length k.list ≡ resource_limit = search (rules, length_mapped) in
    let inside : k.count ≤ length k.list = omega (arith, c.requires.1) in
    let past : k.count ≤ c.loop-o.o-index = omega (arith, length-take-le k.count k.list inside) in
    let counted =
    section_start resource_text k.list k.count resources_key resource_limit c.args.at inside c.requires.0 c.put_line-end.ensures.behind c.put_line-end.ensures.written in
    let all = going_done resource_text k.list k.count beyond inside past c.loop-o.invariant in
    let section = writing_last c.requires.0 counted all.0 all.1 in
    record { behind = section.0; written = section.1 }
