-- A root is asked nothing; where no claim has the parent's number the parent is absent; where one has, the tests of the parent come before those of
-- the chain that begins with it (Claims).
use Rattle.std.proofs.Common.{sym, ◌∙◌, ◌∷◌, suc, ltb, length}
use Rattle.columns.specs.Columns.{places_up}
use Rattle.claim_judging.specs.Over.{hands_at}
use Rattle.granting.specs.Drawn.{decided_then}
use Rattle.fault_finding.proofs.Claims.{root_passes, parent_nowhere, parent_at, chain_columns}
use Rattle.fault_finding.proofs.higher_outcome.Goals as goal

pub returns-then-c-eq0 : goal.returns-then-c-eq0
returns-then-c-eq0 c =
    let given = c.args in
    sym (root_passes given.version given.sheet.now given.ups.now given.place given.c c.if-c-eq0.true)

pub returns-in-None : goal.returns-in-None
returns-in-None c =
    let given = c.args in
    sym (parent_nowhere given.version given.sheet.now given.ups.now given.place given.c c.if-c-eq0.false c.in-None.is)

pub returns-in-Some : goal.returns-in-Some
returns-in-Some c =
    let given = c.args in
    let l = places_up given.ups.now c.in-Some.at in
    c.then.ensures
    ∙ decided_then _ _ c.drawn_outcome-drawn.ensures
    (chain_columns
    (ltb (hands_at given.version (suc (length l)) given.c) (hands_at given.version (length l) c.claim_at-p.result))
    (c.in-Some.at ∷ l) given.c.holder c.column-grantors.ensures c.column-holders.ensures c.chain_outcome-chained.ensures)
    ∙ sym
    (parent_at given.version given.sheet.now given.ups.now given.place given.c c.if-c-eq0.false c.in-Some.is c.claim_at-p.ensures)
