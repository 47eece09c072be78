-- The invariant of the loop of `paths::trimmed_len`: the first `last` bytes are trimmed to what the path is trimmed to.
use Rattle.std.proofs.Common.{◌≡◌, ◌≤◌, length, take}
use Rattle.paths.specs.Containment.{trimmed}
use Rattle.paths.proofs.trimmed_len.Given as goal

abbrev pub invariant-loop-last : goal.invariant-loop-last
invariant-loop-last l = (l.last ≤ length l.p) × (trimmed l.p ≡ trimmed (take l.last l.p))
