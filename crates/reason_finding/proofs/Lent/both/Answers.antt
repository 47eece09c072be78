-- `reason_finding::Lent::both` meets its contract: the reason of the actor, and the owner's where there is one to ask. Assumes nothing.
use Rattle.reason_finding.proofs.Assembling.{both_alone, both_owned}
use Rattle.reason_finding.proofs.Lent.both.Goals as goal

pub returns-then-owner-eq0 : goal.returns-then-owner-eq0
returns-then-owner-eq0 c =
    let s = c.args.self in
    both_alone s.counts s.found.now s.lens.now s.ends.now s.sheet.now s.bytes.now c.args.ask
    c.reason-actor.ensures c.machine_owner-owner.ensures c.if-owner-eq0.true c.no_claim.ensures

pub returns : goal.returns
returns c =
    let s = c.args.self in
    both_owned s.counts s.found.now s.lens.now s.ends.now s.sheet.now s.bytes.now c.args.ask
    c.reason-actor.ensures c.machine_owner-owner.ensures c.if-owner-eq0.false c.reason-owners.ensures
