-- The invariant of the loop of `soundness::claims::claims_over`: the claims before place `i` are as they should be and their hops are kept, by the
-- places of their parents (Climbing).
use Rattle.columns.specs.Sheet.{claims_in}
use Rattle.soundness.proofs.Climbing.{Tables, Climbed}
use Rattle.soundness.proofs.claims.claims_over.Given as goal

abbrev pub invariant-loop-i : goal.invariant-loop-i
invariant-loop-i l = Tables l.version (claims_in l.sheet) l.n l.grantors l.holders l.ups × Climbed l.version (claims_in l.sheet) l.n l.hops l.i
