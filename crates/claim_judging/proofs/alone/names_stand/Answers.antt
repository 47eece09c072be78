-- `claim_judging::alone::names_stand` meets its contract. The grantor and the holder are asked among the actors, the resource among the resources
-- (`names_asked`). Assumes nothing.
use Rattle.claim_judging.proofs.Asking.{names_asked}
use Rattle.claim_judging.proofs.alone.names_stand.Goals as goal

pub returns : goal.returns
returns c =
    names_asked _ c.args.c
    c.is_among.ensures
    c.is_among-2.ensures
    c.is_among-3.ensures
