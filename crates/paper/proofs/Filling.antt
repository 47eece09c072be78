-- A loop that enters a claim on the resource at `spot` in the rows whose paths that one's contains. Assumes nothing.
use Rattle.std.proofs.Common.{None, Some, ◌≡◌, ◌∙◌, List, ℕ, ◌<◌, ◌≤◌, arith, length}
use Rattle.lists.specs.Tests.{cases}
use Rattle.rights.specs.Rights.{right_count}
use Rattle.register.specs.Limits.{resource_limit, path_limit}
use Rattle.register.specs.Register.{path_of}
use Rattle.register.specs.declared.Resource.{Resource}
use Rattle.register.specs.declared.Resources.{Resources}
use Rattle.paths.specs.Containment.{contained, reached, reach_between}
use Rattle.paths.proofs.Laws.{reached_written}
use Rattle.paper.specs.Cells.{cell_limit, cell_at, resource_at, number_over}

-- the claim is entered in the rows before `row`; `outer` is its resource
pub record Filling (before : List ℕ) (k : Resources) (spot : ℕ) (outer : Resource) (rights place row : ℕ) (after : List ℕ) : Type 0 where
  pub claimed : outer ≡ resource_at k spot
  pub room : length before ≡ cell_limit
  pub few : k.count ≤ resource_limit
  pub within : row ≤ k.count
  pub long : length after ≡ length before
  pub done : (j b : ℕ) → j < row → b < right_count
      → cell_at after j b ≡ number_over (reach_between (path_of outer) (path_of (resource_at k j))) rights b place (cell_at before j b)
  pub ahead : (j b : ℕ) → row ≤ j → b < right_count → cell_at after j b ≡ cell_at before j b

module _ {before : List ℕ} {k : Resources} {spot : ℕ} {outer : Resource} {rights place : ℕ} where
  module _ {row : ℕ} {after : List ℕ} (s : Filling before k spot outer rights place row after) where
    pub filling_length : length after ≡ cell_limit
    filling_length = s.long ∙ s.room

    module _ (h : row < k.count) where
      pub filling_room : row < resource_limit
      filling_room = omega (arith, h, s.few)

-- how far a path reaches is at most its length
pub reach_short : (p q : List ℕ) (far : ℕ) → reach_between p q ≡ Some far → length p ≤ path_limit → far ≤ path_limit
reach_short p q far e few =
    cases (contained p q)
    (λ held. let told : reach_between p q ≡ Some (reached p q) = rw held in
    let same : reached p q ≡ far = cc in omega (arith, same, reached_written p q, few))
    (λ away. let told : reach_between p q ≡ None = rw away in
    let never : ◌≡◌ {A = ℕ} 0 1 = cc in absurd (omega (arith, never)))
