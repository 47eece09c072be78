-- `proposing::gate_permits` meets its contract: the verdict is the gate's, since the register was opened. Assumes nothing.
use Rattle.std.proofs.Common.{refl, ◌∙◌}
use Rattle.proposing.proofs.Owning.{permits_read}
use Rattle.proposing.proofs.gate_permits.Goals as goal

pub returns : goal.returns
returns c =
    let a = c.args in
    c.is_permitted.ensures
    ∙ permits_read a.r a.usage a.moment c.one_use.ensures (c.gate_by-verdict.ensures.gated c.requires.put c.requires.told) refl
