-- The invariant of the loop of `soundness::actors::keepers_fit`: whether all keepers so far were found is told.
use Rattle.std.proofs.Common.{◌≡◌, ltb, take}
use Rattle.lists.specs.Lists.{every}
use Rattle.register.specs.Limits.{claim_limit}
use Rattle.soundness.proofs.actors.keepers_fit.Given as goal

abbrev pub invariant-loop-place : goal.invariant-loop-place
invariant-loop-place l = l.fit ≡ every (λ p. ltb p claim_limit) (take l.place-index l.place-items)
