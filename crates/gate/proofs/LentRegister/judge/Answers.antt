-- `LentRegister::judge` meets its contract: its steps are those of the definition (`judged_lent`). Assumes nothing.
use Rattle.std.proofs.Common.{◌≡◌, ◌≤◌, arith, length, rules}
use Rattle.lists.specs.Loops.{length_mapped}
use Rattle.register.specs.Limits.{resource_limit}
use Rattle.actions.specs.Actions.{use_limit}
use Rattle.gate.proofs.Seeing.{judged_lent}
use Rattle.gate.proofs.LentRegister.judge.Goals as goal

pub returns : goal.returns
returns c =
    let a = c.args.a in
    let l = c.args.self in
    let found = l.found.now in
    -- the arrays have their lengths, by their types
    let few : length found.resources.reports ≤ resource_limit = let long : length found.resources.reports ≡ resource_limit = search rules in omega (arith, long) in
    let long : length a.uses ≡ use_limit = search (rules, length_mapped) in
    judged_lent l.counts found l.lens.now l.ends.now l.sheet.now l.bytes.now a few long
    c.is_beside-machine.ensures c.owner_of-owner.ensures c.first_violations-vs.ensures c.uses_of-uses.ensures c.relied-relied.ensures
    c.owner_asked-asked.ensures c.relied-covered.ensures c.hop_counts-hops.ensures c.put_faults-violations.ensures
