-- The three lines are put one behind the other.
use Rattle.text_rules.specs.Registers.{actor_forms, actor_numbers}
use Rattle.register_writing.proofs.Lining.{lining_start, lining_next, lining_done}
use Rattle.register_writing.proofs.put_actor.Goals as goal

pub returns : goal.returns
returns c =
    let a = c.args in
    let start = lining_start actor_forms (actor_numbers a.a) a.at a.buf.now in
    let first = lining_next c.requires start c.put_line-kind_at.ensures.behind c.put_line-kind_at.ensures.written in
    let second = lining_next c.requires first c.put_kind-owner_at.ensures.behind c.put_kind-owner_at.ensures.written in
    let all = lining_done (lining_next c.requires second c.put_line.ensures.behind c.put_line.ensures.written) in
    record { behind = all.0; written = all.1 }
