-- Working: What the plain gate knows of a sound register that was examined: the sheet of its claims, where their parents stand, and the columns of
-- the actors and the resources. That it does is `known_examined` of proofs/Answering.
use Rattle.std.specs.Prelude.{◌≡◌, true, List, ℕ}
use Rattle.register.specs.declared.Register.{Register}
use Rattle.soundness_rules.specs.Sound.{sound}
use Rattle.columns.specs.Columns.{actors_to, resources_to, actor_columns, resource_columns}
use Rattle.columns.specs.Sheet.{sheet_of, column_of, id_column, parent_column}
use Rattle.lookup.specs.Finding.{earlier_places}
use Rattle.soundness.specs.declared.Findings.{Findings}

pub record Known (r : Register) (sheet : List ℕ) (found : Findings) : Type 0 where
  pub soundly : sound r ≡ true
  pub claims : sheet ≡ sheet_of r.claims
  pub parents : found.ups ≡ earlier_places (column_of id_column (sheet_of r.claims)) (column_of parent_column (sheet_of r.claims)) r.claims.count
  pub actors : found.actors ≡ actor_columns (actors_to r.actors).list
  pub resources : found.resources ≡ resource_columns (resources_to r.resources).list
