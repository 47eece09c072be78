-- `table_showing::show` meets its contract: what is on the paper is shown (Showing). Assumes nothing.
use Rattle.std.proofs.Common.{◌≡◌, rules, length}
use Rattle.lists.specs.Loops.{length_mapped}
use Rattle.register.specs.Limits.{resource_limit, claim_limit}
use Rattle.soundness_rules.proofs.Registers.{sound_out}
use Rattle.paper.specs.Cells.{cell_limit}
use Rattle.table_showing.proofs.Owning.{rows_few}
use Rattle.table_showing.proofs.Showing.{shown_natural}
use Rattle.table_showing.proofs.show.Goals as goal

pub hop_counts-hops-requires : goal.hop_counts-hops-requires
hop_counts-hops-requires c =
    -- every list of the paper has its room by its type
    let room : length c.walk-page.result.hops ≡ claim_limit = search (rules, length_mapped) in
    ((sound_out _ c.requires.soundly).limits.claim_count, room)

pub states-states-requires : goal.states-states-requires
states-states-requires c =
    let room : length c.walk-page.result.lives ≡ claim_limit = search (rules, length_mapped) in
    ((sound_out _ c.requires.soundly).limits.claim_count, room)

pub cells_shown-own-requires : goal.cells_shown-own-requires
cells_shown-own-requires c = ((sound_out _ c.requires.soundly).limits.resource_count, c.walk-page.ensures.own.long)

pub cells_shown-owners-requires : goal.cells_shown-owners-requires
cells_shown-owners-requires c =
    let room : length c.walk-page.result.theirs ≡ cell_limit = search (rules, length_mapped) in
    let asked = c.rows_asked-rows in (
      rows_few c.owner_asked-owner.result c.args.r.resources.count asked.result asked.ensures (sound_out _ c.requires.soundly).limits.resource_count,
      room,
    )

pub returns : goal.returns
returns c =
    -- every list of the register has its room by its type
    let claims_room : length c.args.r.claims.list ≡ claim_limit = search (rules, length_mapped) in
    let resources_room : length c.args.r.resources.list ≡ resource_limit = search (rules, length_mapped) in
    shown_natural c.args.r c.requires.soundly claims_room c.args.moment resources_room c.args.actor
    c.owner_asked-owner.result c.rows_asked-rows.result c.walk-page.result
    c.hop_counts-hops.result c.states-states.result c.cells_shown-own.result c.cells_shown-owners.result
    c.walk-page.ensures c.owner_asked-owner.ensures c.hop_counts-hops.ensures c.states-states.ensures c.cells_shown-own.ensures
    c.rows_asked-rows.ensures c.cells_shown-owners.ensures
