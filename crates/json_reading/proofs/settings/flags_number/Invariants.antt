-- The flags below i are counted, each was seen, and the worth is that of flag i.
use Rattle.json_reading.proofs.Flags.{Counting}
use Rattle.json_reading.proofs.settings.flags_number.Given as goal

abbrev pub invariant-loop-i : goal.invariant-loop-i
invariant-loop-i l = Counting l.seen l.set l.flags l.worth l.i
