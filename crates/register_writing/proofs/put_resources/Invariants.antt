-- Behind the count line the first resources are written (`Going`).
use Rattle.text_rules.specs.Registers.{resource_text}
use Rattle.register_writing.specs.Sections.{Going}
use Rattle.register_writing.proofs.put_resources.Given as goal

abbrev pub invariant-loop-o : goal.invariant-loop-o
invariant-loop-o l = Going resource_text l.fn.k.list l.fn.k.count l.initial.end l.initial.buf l.o-index l.end l.buf
