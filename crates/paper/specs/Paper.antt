-- Working: The paper as the code holds it, and what it says: the remark on each claim, and in each cell the entry of the definition, as a number
-- (`cell_looked_up` of Laws).
use Rattle.std.specs.Prelude.{◌≡◌, true, false, List, map, ℕ, ◌+◌, ◌<◌, length, get_or, take}
use Rattle.rights.specs.Rights.{right_count}
use Rattle.register.specs.Register.{claims_of, no_claim}
use Rattle.register.specs.Chain.{latest, hops_of, live}
use Rattle.register.specs.declared.Claim.{Claim}
use Rattle.register.specs.declared.Resource.{Resource}
use Rattle.register.specs.declared.Register.{Register}
use Rattle.soundness_rules.specs.Sound.{sound}
use Rattle.columns.specs.Columns.{resource_id, resources_to}
use Rattle.columns.specs.Sheet.{sheet_of, column_of, id_column, parent_column}
use Rattle.lookup.specs.Finding.{earlier_places}
use Rattle.coverage_table.specs.Table.{Entry, nothing, openly, claimed, open_entry}
use Rattle.coverage_table.specs.Hearing.{remark_among, heard}
use Rattle.paper.specs.Cells.{cell_limit, cell_at, first_number, resource_at}
use Rattle.paper.specs.declared.Page.{Page}

-- the claim at a place of a register
abbrev pub claim_stands : Register → ℕ → Claim
claim_stands r j = get_or r.claims.list j no_claim

-- what a cell's number says of its entry: a claim stands at a place that the walk has come past
abbrev pub CellTells : Register → ℕ → Entry → ℕ → Type 0
CellTells r i nothing n = n ≡ 0
CellTells r i openly n = n ≡ 1
CellTells r i (claimed c hops far) n =
    (p : ℕ) × (p < i) × (n ≡ first_number far + p) × (c ≡ claim_stands r p) × (hops ≡ hops_of (latest (claims_of r.claims)) c)

-- the entry of x in the cell of a resource and a right after the first i claims
abbrev pub entry_by : Register → ℕ → ℕ → Resource → ℕ → ℕ → Entry
entry_by r moment x o b i = heard r x o b (map (remark_among moment (latest (claims_of r.claims))) (take i (claims_of r.claims))) (open_entry o b)

-- the table of x after the first i claims
pub record Filled (r : Register) (moment x i : ℕ) (cells : List ℕ) : Type 0 where
  pub long : length cells ≡ cell_limit
  pub tells : (row b : ℕ) → row < r.resources.count → b < right_count → CellTells r i (entry_by r moment x (resource_at r.resources row) b i) (cell_at cells row b)

-- what the walk is lent of a sound register: its claims, where their parents stand, and the ids of the resources
pub record Walkable (r : Register) (sheet ups reports : List ℕ) : Type 0 where
  pub soundly : sound r ≡ true
  pub claims : sheet ≡ sheet_of r.claims
  pub parents : ups ≡ earlier_places (column_of id_column (sheet_of r.claims)) (column_of parent_column (sheet_of r.claims)) r.claims.count
  pub ids : reports ≡ map resource_id (resources_to r.resources).list

-- what is on the paper after the last claim; the owner's table where the owner is another than the actor
pub record Written (r : Register) (moment actor owner : ℕ) (p : Page) : Type 0 where
  pub hops : (j : ℕ) → j < r.claims.count → get_or p.hops j 0 ≡ hops_of (latest (claims_of r.claims)) (claim_stands r j)
  pub lives : (j : ℕ) → j < r.claims.count → get_or p.lives j false ≡ live moment (latest (claims_of r.claims)) (claim_stands r j)
  pub own : Filled r moment actor r.claims.count p.own
  pub theirs : (actor ≡ owner → ⊥) → Filled r moment owner r.claims.count p.theirs
