-- A member with a comma behind it is kept; a brace ends the object; a member that is missing, broken or there before ends the reading.
use Rattle.std.proofs.Common.{sym, subst}
use Rattle.json_reading.specs.declared.members.Draft.{Draft}
use Rattle.json_reading.proofs.Turns.{Read, read_start, read_missing, read_again, read_broken, read_next, read_done}
use Rattle.json_reading.proofs.members.read_members.Goals as goal

pub loop-member-init : goal.loop-member-init
loop-member-init c =
    let a = c.args in
    subst (λ (d : Draft). Read a.s.now a.begun a.numbers.now d.seen d.figures d.froms d.lens a.begun) (sym c.no_draft-draft.ensures)
    (read_start a.s.now a.begun a.numbers.now c.requires)

pub returns-in_err-member : goal.returns-in_err-member
returns-in_err-member c = rw c.from_residual.ensures (read_missing c.loop-member.invariant c.in_err-member.ensures.member)

pub returns-then-draft-key : goal.returns-then-draft-key
returns-then-draft-key c =
    let m = c.in_ok-member.ensures.member in
    read_again c.loop-member.invariant _ _ _ m.1 m.2 c.if-draft-key.true

pub loop-member-preserved : goal.loop-member-preserved
loop-member-preserved c =
    let m = c.in_ok-member.ensures.member in
    let says = rw c.in-More.is at c.in_ok-next.ensures in
    read_next c.loop-member.invariant _ _ _ m.1 _ _ _ _ c.read_member.auto.numbers m.2
    c.if-draft-key.false c.in_ok-member.ensures.kept m.4 _ says.0

pub returns-in-Done : goal.returns-in-Done
returns-in-Done c =
    let m = c.in_ok-member.ensures.member in
    let says = rw c.in-Done.is at c.in_ok-next.ensures in
    read_done c.loop-member.invariant _ _ _ m.1 _ _ _ _ c.read_member.auto.numbers m.2
    c.if-draft-key.false c.in_ok-member.ensures.kept m.4 _ says.0

pub returns-in_err-next : goal.returns-in_err-next
returns-in_err-next c =
    let m = c.in_ok-member.ensures.member in
    rw c.from_residual-in_err-next.ensures (read_broken c.loop-member.invariant _ _ _ m.1 c.in_err-next.ensures)
