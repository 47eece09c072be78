-- `reason_finding::Lent::missing` meets its contract, by the place of the nearest claim held with the right. Assumes nothing.
use Rattle.reason_finding.proofs.Assembling.{missing_at, missing_none}
use Rattle.reason_finding.proofs.Lent.missing.Goals as goal

pub returns-in-Some : goal.returns-in-Some
returns-in-Some c =
    let s = c.args.self in
    missing_at s.counts.claims s.found.now s.lens.now s.sheet.now s.bytes.now c.args.ask
    c.column-rights.ensures c.nearest.ensures c.in-Some.j c.in-Some.is c.told.ensures c.ended-ended.ensures

pub returns-in-None : goal.returns-in-None
returns-in-None c =
    let s = c.args.self in
    missing_none s.counts.claims s.found.now s.lens.now s.sheet.now s.bytes.now c.args.ask
    c.column-rights.ensures c.nearest.ensures c.in-None.is c.lacking.ensures
