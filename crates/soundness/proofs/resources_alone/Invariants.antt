-- The invariant of the loop of `soundness::resources_alone`: every resource is as it should be, its keeper aside, where those before are and every
-- one of what is left is (Loops).
use Rattle.std.proofs.Common.{Bool, true, ◌&&◌, take}
use Rattle.lists.specs.Lists.{every}
use Rattle.lists.specs.Loops.{Loop}
use Rattle.register.specs.declared.Resource.{Resource}
use Rattle.soundness_rules.specs.Sound.{resource_fits}
use Rattle.soundness.proofs.resources_alone.Given as goal

-- what is asked of a resource but for its keeper
abbrev pub aside : Resource → Bool
aside = resource_fits (λ x. true)

abbrev pub invariant-loop-x : goal.invariant-loop-x
invariant-loop-x l = Loop (λ at m. l.fit && every aside m) l.fn.o.count l.fn.o.list l.x-index-end l.x-index (every aside (take l.fn.o.count l.fn.o.list))
