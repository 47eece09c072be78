-- `lending::resources_in` meets its contract: each column is filled from the front up to the count, each place with the number of the resource that
-- stands there (Filling). Assumes nothing.
use Rattle.std.proofs.Common.{List, ℕ, get_or}
use Rattle.lists.specs.Fills.{Filling}
use Rattle.register.specs.Limits.{resource_limit}
use Rattle.register.specs.Register.{no_resource}
use Rattle.register.specs.declared.Resource.{Resource}
use Rattle.register_bytes.specs.Bytes.{resource_size, resources_at, resource_in, records_in}
use Rattle.columns.specs.Columns.{resource_id, keeper_of, public_of}
use Rattle.lending.proofs.resources_in.Given as goal

abbrev pub resources : List ℕ → List Resource
resources bytes = records_in (resource_in bytes) resource_size resources_at resource_limit

-- the column holds f of the first i resources
abbrev pub Column : List ℕ → (Resource → ℕ) → ℕ → ℕ → List ℕ → Type 0
Column bytes f top i column = Filling resource_limit (λ k. f (get_or (resources bytes) k no_resource)) top (f no_resource) i column

abbrev pub invariant-loop-i : goal.invariant-loop-i
invariant-loop-i l =
    Column l.bytes resource_id l.i-end l.i l.columns.reports × Column l.bytes keeper_of l.i-end l.i l.columns.keepers × Column l.bytes public_of l.i-end l.i l.columns.publics
