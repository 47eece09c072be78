-- What is proved of soundness of a table of claims that is lent beside a version, actors and resources. Assumes nothing.
use Rattle.std.proofs.Common.{◌≡◌, false, List, ℕ, ◌≤◌, ◌<◌, length}
use Rattle.register.specs.Limits.{claim_limit}
use Rattle.register.specs.Register.{claims_of, Shaped}
use Rattle.register.specs.declared.Actors.{Actors}
use Rattle.register.specs.declared.Resources.{Resources}
use Rattle.register.specs.declared.Claim.{Claim}
use Rattle.register.specs.declared.Register.{Register}
use Rattle.soundness_rules.specs.Sound.{sound, table_sound}
use Rattle.soundness_rules.proofs.Tables as tables

-- 9a. A table that holds the claims of a register, which are at most 256, is sound with its version, actors and resources exactly where the register is.
pub table_natural : (r : Register) → Shaped r → r.claims.count ≤ claim_limit → table_sound r.version r.actors r.resources (claims_of r.claims) ≡ sound r
table_natural = tables.table_as_register

-- 9b. A table of more than 256 claims is never sound.
pub table_many : (version : ℕ) (a : Actors) (o : Resources) (cs : List Claim) → claim_limit < length cs → table_sound version a o cs ≡ false
table_many = tables.table_many
