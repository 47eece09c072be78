-- `table_showing::cover_table` meets its contract: what is shown is that of the tests' outcome (Testing). Assumes nothing.
use Rattle.std.proofs.Common.{◌≡◌, ◌∙◌, rules, length}
use Rattle.lists.specs.Loops.{length_mapped}
use Rattle.register.specs.Limits.{claim_limit}
use Rattle.soundness.specs.Laws.{examined}
use Rattle.table_showing.proofs.Testing.{walkable_accepted, shown_accepted, shown_refused}
use Rattle.table_showing.proofs.cover_table.Goals as goal

pub show-requires : goal.show-requires
show-requires c =
    let room : length c.args.r.claims.list ≡ claim_limit = search (rules, length_mapped) in
    walkable_accepted c.args.r room (examined c.args.r (c.examine-found.ensures.put, c.examine-found.ensures.found)) c.args.actor c.args.moment
    c.table_outcome-outcome.ensures c.in-Ok.is

pub returns-in-Err : goal.returns-in-Err
returns-in-Err c =
    let room : length c.args.r.claims.list ≡ claim_limit = search (rules, length_mapped) in
    c.refused.ensures
    ∙ shown_refused c.args.r room (examined c.args.r (c.examine-found.ensures.put, c.examine-found.ensures.found)) c.args.actor c.args.moment
    c.table_outcome-outcome.ensures _ c.in-Err.is

pub returns-in-Ok : goal.returns-in-Ok
returns-in-Ok c =
    let room : length c.args.r.claims.list ≡ claim_limit = search (rules, length_mapped) in
    c.show.ensures
    ∙ shown_accepted c.args.r room (examined c.args.r (c.examine-found.ensures.put, c.examine-found.ensures.found)) c.args.actor c.args.moment
    c.table_outcome-outcome.ensures c.in-Ok.is
