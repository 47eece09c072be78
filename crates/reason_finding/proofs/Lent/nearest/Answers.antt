-- `reason_finding::Lent::nearest` meets its contract: the first places, as many as are counted, are the gathered ones. Assumes nothing.
use Rattle.std.proofs.Common.{ap, ◌∙◌, take}
use Rattle.coverage.specs.Coverage.{nearest_covering}
use Rattle.coverage.specs.GatheringLaws.{gathered_first}
use Rattle.reason_finding.specs.Finding.{held_place}
use Rattle.reason_finding.proofs.Lent.nearest.Goals as goal

pub returns : goal.returns
returns c =
    let s = c.args.self in
    let ask = c.args.ask in
    let holders = c.column-holders.result.now in
    c.nearest_covering.ensures
    ∙ ap (λ places. nearest_covering places c.args.rights.now s.found.now.spots s.bytes.now s.lens.now ask.right ask.spot)
    (ap (λ g. take g.count g.places) c.gather-held.ensures ∙ gathered_first holders c.args.ends.now s.counts.claims ask.actor ask.moment)
    ∙ ap (λ l. held_place l c.args.ends.now c.args.rights.now s.found.now.spots s.bytes.now s.lens.now s.counts.claims ask) c.column-holders.ensures
