-- The lines are put one behind the other.
use Rattle.text_rules.specs.Registers.{claim_forms, claim_numbers}
use Rattle.register_writing.proofs.Lining.{lining_start, lining_next, lining_left, lining_done}
use Rattle.register_writing.proofs.put_claim.Goals as goal

pub returns : goal.returns
returns c =
    let a = c.args in
    let start = lining_start (claim_forms a.version) (claim_numbers a.version a.c) a.at a.buf.now in
    let first = lining_next c.requires start c.put_line-parent_at.ensures.behind c.put_line-parent_at.ensures.written in
    let second = lining_next c.requires first c.put_line-grantor_at.ensures.behind c.put_line-grantor_at.ensures.written in
    let third = lining_next c.requires second c.put_line-holder_at.ensures.behind c.put_line-holder_at.ensures.written in
    let fourth = lining_next c.requires third c.put_line-resource_at.ensures.behind c.put_line-resource_at.ensures.written in
    let fifth = lining_next c.requires fourth c.put_line-rights_at.ensures.behind c.put_line-rights_at.ensures.written in
    let sixth = lining_next c.requires fifth c.put_line-weight_at.ensures.behind c.put_line-weight_at.ensures.written in
    let seventh = lining_next c.requires sixth c.put_line-left_at.ensures.behind c.put_line-left_at.ensures.written in
    let eighth = lining_left a.version a.c.left c.requires seventh c.put_left-expiry_at.ensures.behind c.put_left-expiry_at.ensures.written in
    let all = lining_done (lining_next c.requires eighth c.put_line.ensures.behind c.put_line.ensures.written) in
    record { behind = all.0; written = all.1 }
