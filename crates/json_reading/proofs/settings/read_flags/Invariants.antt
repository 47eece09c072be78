-- The settings up to `at` were read, each flag once, and both arrays hold what they say. The measure is what is left of the text.
use Rattle.std.proofs.Common.{◌-◌, length}
use Rattle.json_reading.proofs.FlagSettings.{Reading}
use Rattle.json_reading.proofs.settings.read_flags.Given as goal

abbrev pub invariant-loop-flag : goal.invariant-loop-flag
invariant-loop-flag l = Reading l.s l.begun l.seen l.set l.at

abbrev pub decreases-loop-flag : goal.decreases-loop-flag
decreases-loop-flag l = length l.s - l.at
