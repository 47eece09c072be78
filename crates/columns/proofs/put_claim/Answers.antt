-- `columns::put_claim` meets its contract: the ten stores are the numbers put one by one, and no store changes how long the sheet is (Sheets).
-- Assumes nothing.
use Rattle.std.proofs.Common.{refl}
use Rattle.columns.specs.Sheet.{claim_put}
use Rattle.columns.proofs.put_claim.Goals as goal

pub returns : goal.returns
unfolding claim_put
returns c = refl
