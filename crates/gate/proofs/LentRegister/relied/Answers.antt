-- `LentRegister::relied` meets its contract: the places that were gathered are those of the claims that can cover (`relied_held`). Assumes nothing.
use Rattle.gate.proofs.Seeing.{relied_held}
use Rattle.gate.proofs.LentRegister.relied.Goals as goal

pub returns : goal.returns
returns c =
    let l = c.args.self in
    relied_held c.args.who l.sheet.now l.ends.now l.found.now.spots l.bytes.now l.lens.now c.args.uses
    c.column-holders.ensures c.column-rights.ensures
    c.gather-held.ensures c.relied_on.ensures
