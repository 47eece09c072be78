-- `lending::resources_alone` meets its contract. The loop's invariant: every resource is as it should be where those before were and every one of
-- what is left is (Loops). Assumes nothing.
use Rattle.std.proofs.Common.{Bool, true, ◌&&◌, List, ℕ, take}
use Rattle.lists.specs.Lists.{every}
use Rattle.lists.specs.Loops.{Loop}
use Rattle.register.specs.Limits.{resource_limit}
use Rattle.register.specs.declared.Resource.{Resource}
use Rattle.register_bytes.specs.Bytes.{resource_size, resources_at, resource_in, records_in}
use Rattle.soundness_rules.specs.Sound.{resource_fits}
use Rattle.lending.proofs.resources_alone.Given as goal

abbrev pub resources : List ℕ → List Resource
resources bytes = records_in (resource_in bytes) resource_size resources_at resource_limit

-- whether a resource is as it should be by itself, its keeper aside
abbrev pub alone : Resource → Bool
alone = resource_fits (λ x. true)

abbrev pub invariant-loop-i : goal.invariant-loop-i
invariant-loop-i l = Loop (λ at os. l.fit && every alone os) l.count (resources l.bytes) l.i-end l.i (every alone (take l.count (resources l.bytes)))
