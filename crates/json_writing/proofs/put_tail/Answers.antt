-- The resources of each right, the flags and what leads to each of them are put one behind the other.
use Rattle.std.proofs.Common.{ℕ, List, ◌++◌}
use Rattle.actions.specs.Actions.{uses_of}
use Rattle.actions.specs.declared.Action.{Action}
use Rattle.buffers.specs.Laws.{Writing, writing_start, writing_put, writing_next, writing_room}
use Rattle.json_writing.specs.Pieces.{resources_text, flags_text, write_lead, execute_lead, flags_lead, ending, tail_text}
use Rattle.json_writing.proofs.Joining.{put_last}
use Rattle.json_writing.proofs.put_tail.Goals as goal

-- the text from the flags on, from the resources that are executed on, from those that are written on
abbrev from_flags : Action → List ℕ
from_flags a = flags_text a.flags ++ ending

abbrev from_executed : Action → List ℕ
from_executed a = resources_text 2 (uses_of a) ++ (flags_lead ++ from_flags a)

abbrev from_written : Action → List ℕ
from_written a = resources_text 1 (uses_of a) ++ (execute_lead ++ from_executed a)

begun : (a : Action) (at : ℕ) (old : List ℕ)
    → Writing at (tail_text a) old (resources_text 0 (uses_of a) ++ (write_lead ++ from_written a)) at old
unfolding tail_text
begun a at old = writing_start at (tail_text a) old

pub put_resources-read_end-requires : goal.put_resources-read_end-requires
put_resources-read_end-requires c =
    let a = c.args.a in
    let start = begun a c.args.at c.args.buf.now in
    writing_room (resources_text 0 (uses_of a)) (write_lead ++ from_written a) c.requires start

pub put_resources-write_end-requires : goal.put_resources-write_end-requires
put_resources-write_end-requires c =
    let a = c.args.a in
    let start = begun a c.args.at c.args.buf.now in
    let first = writing_next (resources_text 0 (uses_of a)) (write_lead ++ from_written a) c.requires start c.put_resources-read_end.ensures.behind c.put_resources-read_end.ensures.written in
    let second = writing_put write_lead (from_written a) c.requires first c.put_bytes-write_at.ensures.behind c.put_bytes-write_at.ensures.written in
    writing_room (resources_text 1 (uses_of a)) (execute_lead ++ from_executed a) c.requires second

pub put_resources-execute_end-requires : goal.put_resources-execute_end-requires
put_resources-execute_end-requires c =
    let a = c.args.a in
    let start = begun a c.args.at c.args.buf.now in
    let first = writing_next (resources_text 0 (uses_of a)) (write_lead ++ from_written a) c.requires start c.put_resources-read_end.ensures.behind c.put_resources-read_end.ensures.written in
    let second = writing_put write_lead (from_written a) c.requires first c.put_bytes-write_at.ensures.behind c.put_bytes-write_at.ensures.written in
    let third = writing_next (resources_text 1 (uses_of a)) (execute_lead ++ from_executed a) c.requires second c.put_resources-write_end.ensures.behind c.put_resources-write_end.ensures.written in
    let fourth = writing_put execute_lead (from_executed a) c.requires third c.put_bytes-execute_at.ensures.behind c.put_bytes-execute_at.ensures.written in
    writing_room (resources_text 2 (uses_of a)) (flags_lead ++ from_flags a) c.requires fourth

pub put_flags-flags_end-requires : goal.put_flags-flags_end-requires
put_flags-flags_end-requires c =
    let a = c.args.a in
    let start = begun a c.args.at c.args.buf.now in
    let first = writing_next (resources_text 0 (uses_of a)) (write_lead ++ from_written a) c.requires start c.put_resources-read_end.ensures.behind c.put_resources-read_end.ensures.written in
    let second = writing_put write_lead (from_written a) c.requires first c.put_bytes-write_at.ensures.behind c.put_bytes-write_at.ensures.written in
    let third = writing_next (resources_text 1 (uses_of a)) (execute_lead ++ from_executed a) c.requires second c.put_resources-write_end.ensures.behind c.put_resources-write_end.ensures.written in
    let fourth = writing_put execute_lead (from_executed a) c.requires third c.put_bytes-execute_at.ensures.behind c.put_bytes-execute_at.ensures.written in
    let fifth = writing_next (resources_text 2 (uses_of a)) (flags_lead ++ from_flags a) c.requires fourth c.put_resources-execute_end.ensures.behind c.put_resources-execute_end.ensures.written in
    let sixth = writing_put flags_lead (from_flags a) c.requires fifth c.put_bytes-flags_at.ensures.behind c.put_bytes-flags_at.ensures.written in
    writing_room (flags_text a.flags) ending c.requires sixth

pub returns : goal.returns
returns c =
    let a = c.args.a in
    let start = begun a c.args.at c.args.buf.now in
    let first = writing_next (resources_text 0 (uses_of a)) (write_lead ++ from_written a) c.requires start c.put_resources-read_end.ensures.behind c.put_resources-read_end.ensures.written in
    let second = writing_put write_lead (from_written a) c.requires first c.put_bytes-write_at.ensures.behind c.put_bytes-write_at.ensures.written in
    let third = writing_next (resources_text 1 (uses_of a)) (execute_lead ++ from_executed a) c.requires second c.put_resources-write_end.ensures.behind c.put_resources-write_end.ensures.written in
    let fourth = writing_put execute_lead (from_executed a) c.requires third c.put_bytes-execute_at.ensures.behind c.put_bytes-execute_at.ensures.written in
    let fifth = writing_next (resources_text 2 (uses_of a)) (flags_lead ++ from_flags a) c.requires fourth c.put_resources-execute_end.ensures.behind c.put_resources-execute_end.ensures.written in
    let sixth = writing_put flags_lead (from_flags a) c.requires fifth c.put_bytes-flags_at.ensures.behind c.put_bytes-flags_at.ensures.written in
    let seventh = writing_next (flags_text a.flags) ending c.requires sixth c.put_flags-flags_end.ensures.behind c.put_flags-flags_end.ensures.written in
    let all = put_last c.requires seventh c.put_bytes.ensures.behind c.put_bytes.ensures.written in
    record { behind = all.0; written = all.1 }
