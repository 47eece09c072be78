-- `soundness::looked_up` meets its contract: the places are told by the columns of the sheet, and so is whether the ids are distinct (`looked_told`).
-- Assumes nothing.
use Rattle.soundness.proofs.Examining.{looked_told}
use Rattle.soundness.proofs.looked_up.Goals as goal

pub returns : goal.returns
returns c =
    let given = c.args in
    looked_told given.h given.reports.now given.m given.sheet.now given.n c.column-ids.ensures c.column-parents.ensures
    c.column-claimed.ensures c.earlier_places-earlier.ensures c.places_of-reported.ensures
