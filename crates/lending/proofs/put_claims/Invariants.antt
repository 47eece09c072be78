-- `lending::put_claims` meets its contract: the claims that stand are taken apart one after the other (Putting). Assumes nothing.
use Rattle.std.proofs.Common.{List, ℕ}
use Rattle.register.specs.Limits.{claim_limit}
use Rattle.register.specs.declared.Claim.{Claim}
use Rattle.register_bytes.specs.Bytes.{claim_size, claims_at, claim_in, records_in}
use Rattle.lending.proofs.Putting.{Put}
use Rattle.lending.proofs.put_claims.Given as goal

abbrev pub claims : List ℕ → List Claim
claims bytes = records_in (claim_in bytes) claim_size claims_at claim_limit

abbrev pub invariant-loop-i : goal.invariant-loop-i
invariant-loop-i l = Put l.initial.sheet (claims l.bytes) l.i-end l.i l.sheet
