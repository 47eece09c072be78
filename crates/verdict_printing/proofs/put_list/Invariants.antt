-- The violations before `entry` are written.
use Rattle.register_writing.specs.Sections.{Going}
use Rattle.verdict_printing.proofs.Listing.{entry_text}
use Rattle.verdict_printing.proofs.put_list.Given as goal

abbrev pub invariant-loop-entry : goal.invariant-loop-entry
invariant-loop-entry l = Going entry_text l.fn.vs.list l.count l.initial.end l.initial.buf l.entry-index l.end l.buf
