-- Behind the count line the first actors are written (`Going`).
use Rattle.text_rules.specs.Registers.{actor_text}
use Rattle.register_writing.specs.Sections.{Going}
use Rattle.register_writing.proofs.put_actors.Given as goal

abbrev pub invariant-loop-a : goal.invariant-loop-a
invariant-loop-a l = Going actor_text l.fn.k.list l.fn.k.count l.initial.end l.initial.buf l.a-index l.end l.buf
