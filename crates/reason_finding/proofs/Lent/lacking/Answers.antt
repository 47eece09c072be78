-- `reason_finding::Lent::lacking` meets its contract, by the place of the nearest claim held. Assumes nothing.
use Rattle.reason_finding.proofs.Assembling.{lacking_at, lacking_none}
use Rattle.reason_finding.proofs.Lent.lacking.Goals as goal

pub returns-in-Some : goal.returns-in-Some
returns-in-Some c =
    let s = c.args.self in
    lacking_at s.counts.claims s.found.now s.lens.now s.sheet.now s.bytes.now c.args.ask c.nearest.ensures c.in-Some.j c.in-Some.is c.told.ensures

pub returns-in-None : goal.returns-in-None
returns-in-None c =
    let s = c.args.self in
    lacking_none s.counts.claims s.found.now s.lens.now s.sheet.now s.bytes.now c.args.ask c.nearest.ensures c.in-None.is c.no_claim.ensures
