-- `soundness::examine_columns` meets its contract: what was looked up decides where something is against it; else what is asked then does
-- (Examining). Assumes nothing.
use Rattle.soundness.proofs.Examining.{refused_told, begun_told, ups_told, judged_told}
use Rattle.soundness.proofs.examine_columns.Goals as goal

pub claims_over-requires : goal.claims_over-requires
claims_over-requires c =
    let given = c.args in
    let b = begun_told given.h given.resources.reports given.m given.sheet.now given.n c.looked_up-looked.ensures c.if-looked.true in
    (b.short, b.long, b.single, ups_told given.h given.resources.reports given.m given.sheet.now given.n c.looked_up-looked.ensures)

pub returns-then-looked : goal.returns-then-looked
returns-then-looked c =
    let given = c.args in
    judged_told given.version given.actors given.h given.resources given.m given.alone given.sheet.now given.n c.looked_up-looked.ensures c.if-looked.true
    c.actors_fit.ensures c.keepers_fit.ensures c.claims_over.ensures c.claims_alone.ensures

pub returns-else-looked : goal.returns-else-looked
returns-else-looked c =
    let given = c.args in
    refused_told given.version given.actors given.h given.resources given.m given.alone given.sheet.now given.n c.looked_up-looked.ensures c.if-looked.false
