-- `claim_judging::alone::stands_named` meets its contract: its tests are joined in the definition's order (`named_asked`). Assumes nothing.
use Rattle.claim_judging.proofs.Asking.{named_asked}
use Rattle.claim_judging.proofs.alone.stands_named.Goals as goal

pub returns : goal.returns
returns c =
    let given = c.args in
    named_asked given.c
    (record {
      grantor = given.grantor;
      holder = given.holder;
      report = given.report;
      kind = given.kind;
      owner = given.owner;
      keeper = given.keeper;
    })
    c.bars_machine.ensures
