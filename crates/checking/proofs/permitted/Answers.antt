-- `checking::permitted` meets its contract: what the gate decides, and whether that permits. Assumes nothing.
use Rattle.std.proofs.Common.{◌∙◌}
use Rattle.checking.proofs.Passing.{permits_by}
use Rattle.checking.proofs.permitted.Goals as goal

pub returns : goal.returns
returns c = c.is_permitted.ensures ∙ permits_by _ _ _ c.decide.ensures
