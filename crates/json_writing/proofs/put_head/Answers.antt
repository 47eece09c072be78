-- What leads to each value and the value are put one behind the other.
use Rattle.std.proofs.Common.{◌+◌, ◌≤◌, ◌++◌, arith, length}
use Rattle.decimals.specs.Decimals.{digits}
use Rattle.buffers.specs.Laws.{writing_start, writing_put}
use Rattle.json_writing.specs.Pieces.{kind_text, id_lead, actor_lead, kind_lead, read_lead, head_text}
use Rattle.json_writing.proofs.Joining.{put_last}
use Rattle.json_writing.proofs.put_head.Goals as goal

pub returns : goal.returns
unfolding head_text
returns c =
    let id = c.args.id.now in
    let actor = c.args.actor in
    let kind = c.args.kind in
    let whole = head_text actor id kind in
    let room : 0 + length whole ≤ length c.args.buf.now = omega (arith, c.requires) in
    let start = writing_start 0 whole c.args.buf.now in
    let first = writing_put id_lead (id ++ (actor_lead ++ (digits actor ++ (kind_lead ++ (kind_text kind ++ read_lead))))) room start
    c.put_bytes-id_at.ensures.behind c.put_bytes-id_at.ensures.written in
    let second = writing_put id (actor_lead ++ (digits actor ++ (kind_lead ++ (kind_text kind ++ read_lead)))) room first
    c.put_bytes-id_end.ensures.behind c.put_bytes-id_end.ensures.written in
    let third = writing_put actor_lead (digits actor ++ (kind_lead ++ (kind_text kind ++ read_lead))) room second
    c.put_bytes-actor_at.ensures.behind c.put_bytes-actor_at.ensures.written in
    let fourth = writing_put (digits actor) (kind_lead ++ (kind_text kind ++ read_lead)) room third
    c.put_number-actor_end.ensures.behind c.put_number-actor_end.ensures.written in
    let fifth = writing_put kind_lead (kind_text kind ++ read_lead) room fourth c.put_bytes-kind_at.ensures.behind c.put_bytes-kind_at.ensures.written in
    let sixth = writing_put (kind_text kind) read_lead room fifth c.put_kind-kind_end.ensures.behind c.put_kind-kind_end.ensures.written in
    let all = put_last room sixth c.put_bytes.ensures.behind c.put_bytes.ensures.written in
    record {
      behind = omega (arith, all.0);
      written = all.1;
    }
