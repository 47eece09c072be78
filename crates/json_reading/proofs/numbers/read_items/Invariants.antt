-- The numbers so far stand in the array, and the list is those with what is read from here on.
use Rattle.json_reading.proofs.Lists.{Listing}
use Rattle.json_reading.proofs.numbers.read_items.Given as goal

abbrev pub invariant-loop-count : goal.invariant-loop-count
invariant-loop-count l = Listing l.s l.begun l.base l.initial.numbers l.numbers l.at l.count
