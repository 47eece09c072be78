-- The invariant of the loop of `lists::is_same`: lists of one length are the same exactly when they are from place `i` on.
use Rattle.std.proofs.Common.{◌≡◌, length, drop}
use Rattle.lists.specs.Lists.{same}
use Rattle.lists.proofs.is_same.Given as goal

abbrev pub invariant-loop-i : goal.invariant-loop-i
invariant-loop-i l = (length l.a ≡ length l.b) × (same l.a l.b ≡ same (drop l.i l.a) (drop l.i l.b))
