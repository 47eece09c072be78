-- Behind the count line the first claims are written (`Going`).
use Rattle.columns.specs.Sheet.{claims_in}
use Rattle.text_rules.specs.Registers.{claim_text}
use Rattle.register_writing.specs.Sections.{Going}
use Rattle.register_writing.proofs.put_claims.Given as goal

abbrev pub invariant-loop-i : goal.invariant-loop-i
invariant-loop-i l = Going (claim_text l.version) (claims_in l.sheet) l.n l.initial.end l.initial.buf l.i l.end l.buf
