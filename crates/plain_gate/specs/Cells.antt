-- Working: The uses of an action by what stands in their cells: the cells, the hop counts, the violations. That they are those of the definition is
-- `uses_natural` and `hops_natural` of proofs/Uses.
use Rattle.std.specs.Prelude.{Bool, ◌&&◌, cond, List, [], ◌∷◌, ◌++◌, ℕ, ◌-◌, ◌%◌, min, eqb, ltb, length, get_or}
use Rattle.lists.specs.Lists.{counted}
use Rattle.lists.specs.Fills.{filled_by}
use Rattle.register.specs.Limits.{claim_limit}
use Rattle.columns.specs.Columns.{latest_place}
use Rattle.actions.specs.Actions.{no_use, use_limit}
use Rattle.actions.specs.declared.Action.{Action}
use Rattle.actions.specs.declared.Usage.{Usage}
use Rattle.actions.specs.declared.Violation.{Violation}
use Rattle.actions.specs.declared.Violation.TheVariants.{NotCovered, OwnerNotCovering}
use Rattle.paper.specs.Cells.{cell_in}

-- what stands in the cell of a use
abbrev pub cell_for : List ℕ → List ℕ → ℕ → Usage → ℕ
cell_for cells reports m u = cell_in cells u.right (latest_place reports m u.resource)

-- in those of an action's uses, 0 past them
unfoldable pub cells_of : List ℕ → List ℕ → ℕ → Action → List ℕ
cells_of cells reports m a = filled_by use_limit (λ i. cell_for cells reports m (get_or a.uses i no_use)) (min a.used use_limit) 0

-- the hop count of the claim in a cell: 0 where there is none
abbrev pub hops_told : List ℕ → ℕ → ℕ
hops_told hops n = cond (ltb n 2) 0 (get_or hops ((n - 2) % claim_limit) 0)

-- those of the first n uses, 0 past them
unfoldable pub cell_hops : List ℕ → List ℕ → ℕ → List ℕ
cell_hops hops own n = filled_by use_limit (λ i. hops_told hops (get_or own i 0)) (min n (min use_limit (length own))) 0

-- the violations of a use at a position, by its cell and the owner's
abbrev pub cell_faults : Bool → ℕ → ℕ → ℕ → List Violation
cell_faults owned i own their = cond (eqb own 0) (NotCovered i ∷ []) (cond (owned && eqb their 0) (OwnerNotCovering i ∷ []) [])

module _ (own theirs : List ℕ) (owned : Bool) where
  -- those of the uses at some positions
  abbrev pub faults_among : List ℕ → List Violation
  faults_among [] = []
  faults_among (i ∷ l) = cell_faults owned i (get_or own i 0) (get_or theirs i 0) ++ faults_among l

  -- those of the first n uses
  unfoldable pub faults_in : ℕ → List Violation
  faults_in n = faults_among (counted 0 (min n (min use_limit (min (length own) (length theirs)))))
