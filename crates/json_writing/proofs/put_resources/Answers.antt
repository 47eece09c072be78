-- A use with the right is written, any other is passed over; as many as the array has room for are all of them.
use Rattle.std.proofs.Common.{◌≡◌, rules, length, take}
use Rattle.lists.specs.Loops.{length_mapped}
use Rattle.actions.specs.Actions.{no_use, use_limit}
use Rattle.buffers.specs.Laws.{writing_start}
use Rattle.json_writing.specs.Pieces.{resources_text}
use Rattle.json_writing.proofs.Listing.{all_used, listing_passed, listing_room, listing_next, listing_done}
use Rattle.json_writing.proofs.put_resources.Goals as goal
use Rattle.json_writing.proofs.put_resources.Goals.{then-u-right, else-u-right}

pub loop-u-init : goal.loop-u-init
loop-u-init c = writing_start c.args.at (resources_text c.args.right (take c.min-top.result c.args.a.uses)) c.args.buf.now

pub put_resource-end-requires : goal.put_resource-end-requires
put_resource-end-requires c =
    let a = c.args.a in
    let loop = c.loop-u in
    let room : length a.uses ≡ use_limit = search (rules, length_mapped) in
    let all = all_used a room c.min-top.ensures in
    listing_room c.args.right (take c.min-top.result a.uses) no_use loop.first loop.u-index c.loop-u-test.true loop.invariant
    (rw all c.requires) c.if-u-right.true

pub loop-u-preserved : goal.loop-u-preserved
loop-u-preserved c =
    let a = c.args.a in
    let loop = c.loop-u in
    let us = take c.min-top.result a.uses in
    let room : length a.uses ≡ use_limit = search (rules, length_mapped) in
    let all = all_used a room c.min-top.ensures in
    elim c.if-u-right.branch [
      | then-u-right w ↦
          rw (w.first-is, w.end-is, w.buf-is)
          (listing_next c.args.right us no_use loop.first loop.u-index c.loop-u-test.true loop.invariant (rw all c.requires) w.if-u-right.true
          w.put_resource-end.ensures.behind w.put_resource-end.ensures.written)
      | else-u-right w ↦
          rw (w.first-is, w.end-is, w.buf-is)
          (listing_passed c.args.right us no_use loop.first loop.u-index c.loop-u-test.true loop.invariant w.if-u-right.false)
    ]

pub returns : goal.returns
returns c =
    let a = c.args.a in
    let room : length a.uses ≡ use_limit = search (rules, length_mapped) in
    let all = all_used a room c.min-top.ensures in
    let done = listing_done c.args.right (take c.min-top.result a.uses) c.loop-u.first c.loop-u.u-index c.loop-u-test.false c.loop-u.invariant in
    record { behind = rw all at done.0; written = rw all at done.1 }
