-- `soundness::examine_sheet` meets its contract: what is found by the columns of those that stand is what is found of the register
-- (`columns_natural`). Assumes nothing.
use Rattle.std.proofs.Common.{◌≡◌, ◌∙◌, rules, length}
use Rattle.lists.specs.Loops.{length_mapped}
use Rattle.register.specs.Limits.{actor_limit, resource_limit}
use Rattle.soundness.specs.Whole.{columns_natural}
use Rattle.soundness.proofs.examine_sheet.Goals as goal

pub returns : goal.returns
returns c =
    let a = c.args in
    let actors_long : length a.a.list ≡ actor_limit = search (rules, length_mapped) in
    let resources_long : length a.o.list ≡ resource_limit = search (rules, length_mapped) in
    c.examine_columns.ensures
    ∙ rw (c.actor_columns-actors.ensures, c.resource_columns-resources.ensures, c.resources_alone-alone.ensures)
    (columns_natural a.version a.a a.o a.sheet.now a.n actors_long resources_long)
