-- Working: What a caller knows of a register that was examined: the sheet is that of its claims, and what was found is what is found by
-- that sheet. What it says of the register is proved in Laws (`judged_sound`, `judged_ups`, `judged_actors`, `judged_resources`).
use Rattle.std.specs.Prelude.{◌≡◌, List, ℕ}
use Rattle.register.specs.declared.Register.{Register}
use Rattle.columns.specs.Sheet.{sheet_of}
use Rattle.soundness.specs.Judged.{findings_by}
use Rattle.soundness.specs.declared.Findings.{Findings}

pub record Opened (r : Register) (s : List ℕ) (found : Findings) : Type 0 where
  pub put : s ≡ sheet_of r.claims
  pub told : found ≡ findings_by r.version r.actors r.resources s r.claims.count
