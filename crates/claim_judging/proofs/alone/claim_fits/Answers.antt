-- `claim_judging::alone::claim_fits` meets its contract. Each number is asked whether it is in range, and the answers are joined in the rule's order
-- (`claim_asked`). Assumes nothing.
use Rattle.claim_judging.proofs.Asking.{claim_asked}
use Rattle.claim_judging.proofs.alone.claim_fits.Goals as goal

pub returns : goal.returns
returns c =
    let given = c.args in
    claim_asked given.version given.c
    c.is_id.ensures
    c.is_id-2.ensures
    c.is_id-3.ensures
    c.is_id-4.ensures
    c.in_range.ensures
