-- Of each resource whether its path contains that of another. Assumes nothing.
use Rattle.std.proofs.Common.{◌≡◌, sym, ap, ◌∙◌, Bool, false, List, [], map, ℕ, ◌≤◌, ◌<◌, min, arith, lt-ltb, le-ltb, get_or, replicate, get_or-take}
use lib.ListN.{get_or-map}
use Rattle.lists.specs.Fills.{Filling, filling_end}
use Rattle.paths.specs.Containment.{contained}
use Rattle.register.specs.Limits.{resource_limit}
use Rattle.register.specs.Register.{path_of, no_resource}
use Rattle.register.specs.declared.Resource.{Resource}
use Rattle.register.specs.declared.Resources.{Resources}
use Rattle.coverage.specs.Laws.{containing}
use Rattle.reason_finding.specs.Covering.{containers_of}

-- past the end of a list there is the empty path, whatever stands for none
path_at : (l : List Resource) (i : ℕ) (none : Resource) → path_of none ≡ [] → path_of (get_or l i none) ≡ path_of (get_or l i no_resource)
path_at l i none empty = sym (get_or-map path_of l i none) ∙ ap (get_or (map path_of l) i) empty ∙ get_or-map path_of l i no_resource

module _ (o : Resources) (spot : ℕ) {top : ℕ} (many : top ≡ min o.count resource_limit) where
  -- nothing is marked where nothing stands at the spot
  pub marking_none : top ≤ spot → replicate resource_limit false ≡ containers_of o spot
  unfolding containers_of
  marking_none past = rw (le-ltb spot (min o.count resource_limit) (omega (arith, many, past)))

  module _ (stands : spot < top) where
    pub marking_next : (none : Resource) → path_of none ≡ [] → (i : ℕ) {within : Bool} → i < top
        → within ≡ contained (path_of (get_or o.list i none)) (path_of (get_or o.list spot none)) → within ≡ containing o i spot
    marking_next none empty i here told =
        told
        ∙ rw (
          get_or-take o.count o.list i no_resource (omega (arith, many, here)),
          get_or-take o.count o.list spot no_resource (omega (arith, many, stands)),
          path_at o.list i none empty,
          path_at o.list spot none empty,
        )

    pub marking_done : {i : ℕ} {marks : List Bool} → Filling resource_limit (λ k. containing o k spot) top false i marks → top ≤ i → marks ≡ containers_of o spot
    unfolding containers_of
    marking_done s h = rw (lt-ltb spot (min o.count resource_limit) (omega (arith, many, stands))) (rw (← many) (filling_end s h))
