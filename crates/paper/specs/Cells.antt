-- Working: The cells of a table as numbers of one list, seventeen to a resource, and what comes of them when a claim is entered. They are shaped for the
-- code; what a number says of its cell is `CellTells` of Paper.
use Rattle.std.specs.Prelude.{◌≡◌, Bool, ◌&&◌, cond, List, [], ℕ, ◌+◌, ◌*◌, ◌<◌, ltb, length, get_or, Option, None, Some}
use Rattle.rights.specs.Rights.{right_count, has_right}
use Rattle.paths.specs.Containment.{reach_between}
use Rattle.register.specs.Limits.{resource_limit, claim_limit}
use Rattle.register.specs.Register.{path_of}
use Rattle.register.specs.declared.Resource.{Resource}
use Rattle.register.specs.declared.Resources.{Resources}
use Rattle.register.specs.declared.Claim.{Claim}
use Rattle.columns.specs.Columns.{latest_place}
use Rattle.coverage_table.specs.Table.{is_open}

-- how many cells a table has: one for each of 64 resources and 17 rights
abbrev pub cell_limit : ℕ
cell_limit = 1088

-- the number in the cell of a row and a right
abbrev pub cell_at : List ℕ → ℕ → ℕ → ℕ
cell_at cells row b = get_or cells (row * right_count + b) 0

-- the first number of a claim whose path has this length: its place is added
abbrev pub first_number : ℕ → ℕ
first_number far = 2 + claim_limit * far

-- what is read past the last resource
abbrev pub past_resource : Resource
past_resource = record { id = 0; public = 0; keeper = 0; len = 0; path = [] }

-- the resource of a row
abbrev pub resource_at : Resources → ℕ → Resource
resource_at k row = get_or k.list row past_resource

-- a cell before the first claim
abbrev pub open_number : Resource → ℕ → ℕ
open_number o b = cond (is_open o b) 1 0

pub record OpenCells (k : Resources) (cells : List ℕ) : Type 0 where
  pub long : length cells ≡ cell_limit
  pub opens : (row b : ℕ) → row < k.count → b < right_count → cell_at cells row b ≡ open_number (resource_at k row) b

-- a cell after a claim at a place, which has the right or not, on a path of a length that contains the row's
abbrev pub number_after : Bool → ℕ → ℕ → ℕ → ℕ
number_after has far place n = cond (has && ltb n (first_number far)) (first_number far + place) n

-- a claim entered in one row: the cells of the others are as they were
pub record RowEntered (before : List ℕ) (row rights place far : ℕ) (after : List ℕ) : Type 0 where
  pub long : length after ≡ length before
  pub there : (b : ℕ) → b < right_count → cell_at after row b ≡ number_after (has_right rights b) far place (cell_at before row b)
  pub elsewhere : (other b : ℕ) → b < right_count → (other ≡ row → ⊥) → cell_at after other b ≡ cell_at before other b

-- a cell after a claim whose path contains the row's or not
abbrev pub number_over : Option ℕ → ℕ → ℕ → ℕ → ℕ → ℕ
number_over None rights b place n = n
number_over (Some far) rights b place n = number_after (has_right rights b) far place n

-- a claim on the resource at `spot` entered in every row
pub record RowsEntered (before : List ℕ) (k : Resources) (spot rights place : ℕ) (after : List ℕ) : Type 0 where
  pub long : length after ≡ length before
  pub there : (row b : ℕ) → row < k.count → b < right_count
      → cell_at after row b ≡ number_over (reach_between (path_of (resource_at k spot)) (path_of (resource_at k row))) rights b place (cell_at before row b)

-- a claim entered in every row, its resource found at a place or nowhere
abbrev pub EnteredFrom : List ℕ → Resources → Claim → ℕ → List ℕ → Option ℕ → Type 0
EnteredFrom before k c place after (Some spot) = RowsEntered before k spot c.rights place after
EnteredFrom before k c place after None = after ≡ before

abbrev pub ClaimEntered : List ℕ → List ℕ → Resources → Claim → ℕ → List ℕ → Type 0
ClaimEntered before reports k c place after = EnteredFrom before k c place after (latest_place reports k.count c.resource)

-- what stands in the cell of a right, in the row of a resource that was found at a place; 0 where there is no such cell
abbrev pub cell_in : List ℕ → ℕ → Option ℕ → ℕ
cell_in cells b (Some row) = cond (ltb row resource_limit && ltb b right_count) (cell_at cells row b) 0
cell_in cells b None = 0
