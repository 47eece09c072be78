-- `plain_gate::judge` meets its contract: its steps are those of the definition (`judged_plain`). Assumes nothing.
use Rattle.std.proofs.Common.{◌≡◌, rules, length}
use Rattle.lists.specs.Loops.{length_mapped}
use Rattle.register.specs.Limits.{resource_limit}
use Rattle.actions.specs.Actions.{use_limit}
use Rattle.plain_gate.proofs.Judging.{judged_plain}
use Rattle.plain_gate.proofs.judge.Goals as goal

pub returns : goal.returns
returns c =
    -- the arrays have their lengths, by their types
    let resources_long : length c.args.r.resources.list ≡ resource_limit = search (rules, length_mapped) in
    let uses_long : length c.args.a.uses ≡ use_limit = search (rules, length_mapped) in
    judged_plain c.args.r c.args.found c.requires.0 c.args.a c.requires.1 resources_long uses_long
    c.is_beside-machine.ensures c.owner_of-owner.ensures c.first_violations-first.ensures c.walk-page.ensures
    c.cells_of-own.ensures c.cells_of-theirs.ensures c.put_faults-violations.ensures c.hops_in-hops.ensures
