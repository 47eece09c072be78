-- `claim_judging::alone::root_kept` meets its contract. A claim with a parent is no root; a root is asked whether its grantor stands beside its resource
-- as the keeper. Assumes nothing.
use Rattle.std.proofs.Common.{[]}
use Rattle.claim_judging.specs.Alone.{world_by}
use Rattle.claim_judging.proofs.Asking.{root_none, root_asked}
use Rattle.claim_judging.proofs.alone.root_kept.Goals as goal

pub returns-then-c-ne0 : goal.returns-then-c-ne0
returns-then-c-ne0 c = root_none _ c.args.c c.if-c-ne0.true

pub returns : goal.returns
returns c =
    let given = c.args in
    root_asked
    (world_by 0 [] [] [] 0 given.reports.now given.keepers.now given.m)
    given.c
    c.if-c-ne0.false
    c.is_beside.ensures
