-- Each outcome by the tests that led to it (Walking).
use Rattle.std.proofs.Common.{sym}
use Rattle.fault_finding.proofs.Walking.{unfit, unnamed, doubled, whole}
use Rattle.fault_finding.proofs.record_outcome.Goals as goal

pub returns-then-not-fit : goal.returns-then-not-fit
returns-then-not-fit c = sym (unfit c.args.fit c.args.named c.args.other c.args.taken (c.if-not-fit.true))

pub returns-then-not-named : goal.returns-then-not-named
returns-then-not-named c = sym (unnamed c.args.fit c.args.named c.args.other c.args.taken (c.if-not-fit.false) (c.if-not-named.true))

pub returns-then-taken : goal.returns-then-taken
returns-then-taken c = sym (doubled c.args.fit c.args.named c.args.other c.args.taken (c.if-not-fit.false) (c.if-not-named.false) c.if-taken.true)

pub returns : goal.returns
returns c = sym (whole c.args.fit c.args.named c.args.other c.args.taken (c.if-not-fit.false) (c.if-not-named.false) c.if-taken.false)
