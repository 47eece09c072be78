-- `paper::enter_claim` meets its contract: the claim is entered where its resource is found. Assumes nothing.
use Rattle.std.proofs.Common.{sym, ◌∙◌, arith}
use Rattle.columns.specs.Laws.{place_found_lem}
use Rattle.paper.proofs.enter_claim.Goals as goal

pub enter_rows-requires : goal.enter_rows-requires
enter_rows-requires c =
    let found = place_found_lem c.args.reports.now _ _ _ (sym c.latest_place-claimed.ensures ∙ c.in-Some.is) in
    (c.requires.0, c.requires.1, omega (arith, found.1, c.requires.2), c.requires.3)
