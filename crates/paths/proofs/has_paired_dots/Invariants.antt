-- The invariant of the loop of `paths::has_paired_dots`: two dots stand next to each other where they were hit or do so from the place before `i` on.
use Rattle.std.proofs.Common.{◌≡◌, ◌||◌, ◌-◌, drop}
use Rattle.paths.specs.Lent.{paired}
use Rattle.paths.proofs.has_paired_dots.Given as goal

abbrev pub invariant-loop-i : goal.invariant-loop-i
invariant-loop-i l = paired l.p ≡ l.hit || paired (drop (l.i - 1) l.p)
