-- `reason_finding::Lent::reason` meets its contract: by the place of the claim relied on, else by whether the use is open. Assumes nothing.
use Rattle.reason_finding.proofs.Assembling.{reason_at, reason_open, reason_missing}
use Rattle.reason_finding.proofs.Lent.reason.Goals as goal

pub returns-then-ask-public : goal.returns-then-ask-public
returns-then-ask-public c =
    let s = c.args.self in
    reason_open s.counts.claims s.found.now s.lens.now s.sheet.now s.bytes.now c.args.ask
    c.column-rights.ensures s.ends.now c.nearest.ensures c.in-None.is c.number_at-public.ensures c.if-ask-public.true c.no_claim.ensures

pub returns-in-Some : goal.returns-in-Some
returns-in-Some c =
    let s = c.args.self in
    reason_at s.counts.claims s.found.now s.lens.now s.sheet.now s.bytes.now c.args.ask
    c.column-rights.ensures s.ends.now c.nearest.ensures c.in-Some.j c.in-Some.is c.told.ensures

pub returns-else-ask-public : goal.returns-else-ask-public
returns-else-ask-public c =
    let s = c.args.self in
    reason_missing s.counts.claims s.found.now s.lens.now s.sheet.now s.bytes.now c.args.ask
    c.column-rights.ensures s.ends.now c.nearest.ensures c.in-None.is c.number_at-public.ensures c.if-ask-public.false c.missing.ensures
