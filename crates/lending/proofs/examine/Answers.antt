-- `lending::examine` meets its contract: the sheet is that of the claims, the columns are those of the actors and the resources that stand, and what
-- is found by them is found of the register (Opening). Assumes nothing.
use Rattle.register_bytes.specs.Bytes.{register_at}
use Rattle.register_bytes.specs.Laws.{register_shaped}
use Rattle.lending.proofs.Opening.{opened_by}
use Rattle.lending.proofs.examine.Goals as goal

pub returns : goal.returns
returns c =
    opened_by (register_at c.args.bytes.now) (register_shaped c.args.bytes.now c.requires.0) c.put_claims.ensures c.requires.1 c.requires.2
    c.wide_at-version.ensures c.actors_in-actors.ensures c.resources_in-resources.ensures c.resources_alone-alone.ensures c.examine_columns.ensures
