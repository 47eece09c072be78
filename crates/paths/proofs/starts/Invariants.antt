-- The invariant of the loop of `paths::starts`: `p` starts with `o` exactly when they are alike so far and, from place `i` on, the one starts with
-- the other.
use Rattle.std.proofs.Common.{◌≡◌, ◌&&◌, ◌≤◌, length, drop}
use Rattle.paths.specs.Containment.{starting}
use Rattle.paths.proofs.starts.Given as goal

abbrev pub invariant-loop-i : goal.invariant-loop-i
invariant-loop-i l = (length l.o ≤ length l.p) × (starting l.o l.p ≡ l.alike && starting (drop l.i l.o) (drop l.i l.p))
