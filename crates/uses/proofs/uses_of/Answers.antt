-- `uses::uses_of` meets its contract. Assumes nothing.
use Rattle.std.proofs.Common.{◌≡◌, refl, ap, ◌∙◌, List, ℕ, min, arith}
use Rattle.lists.specs.Fills.{filling_start, filling_next, filling_end}
use Rattle.register.specs.Limits.{resource_limit}
use Rattle.uses.specs.Passes.{uses_by}
use Rattle.uses.specs.declared.Uses.{Uses}
use Rattle.uses.proofs.uses_of.Goals as goal

-- columns that are each the same are the same uses
uses_same : {rights spots rights' spots' : List ℕ} {count count' : ℕ} → rights ≡ rights' → spots ≡ spots' → count ≡ count'
    → ◌≡◌ {A = Uses} (record { rights = rights; spots = spots; count = count }) (record { rights = rights'; spots = spots'; count = count' })
uses_same p q e = rw (p, q, e)

pub loop-i-init : goal.loop-i-init
loop-i-init c = (refl, filling_start (omega arith), filling_start (omega arith))

pub loop-i-preserved : goal.loop-i-preserved
loop-i-preserved c =
    let inv = c.loop-i.invariant in (
      inv.0,
      filling_next inv.1 _ c.loop-i-test.true refl,
      filling_next inv.2 _ c.loop-i-test.true (c.min.ensures ∙ ap (λ spot. min spot resource_limit) c.spot-spot.ensures),
    )

pub returns : goal.returns
unfolding uses_by
returns c =
    let inv = c.loop-i.invariant in
    rw (← c.min-count.ensures)
    (uses_same (filling_end inv.1 c.loop-i-test.false) (filling_end inv.2 c.loop-i-test.false) inv.0)
