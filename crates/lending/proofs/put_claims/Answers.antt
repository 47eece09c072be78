-- `lending::put_claims` meets its contract (Putting). Assumes nothing.
use Rattle.std.proofs.Common.{◌≡◌, sym, ap, ◌∙◌, List, ℕ, arith, length, take}
use Rattle.register.specs.Limits.{claim_limit}
use Rattle.register.specs.Register.{no_claim}
use Rattle.register_bytes.specs.Bytes.{claim_size, claims_at, claim_in}
use Rattle.register_bytes.specs.Laws.{records_length, record_at}
use Rattle.columns.specs.Sheet.{sheet_with}
use Rattle.lending.proofs.Putting.{put_none, put_next, put_all}
use Rattle.lending.proofs.put_claims.Invariants.{claims}
use Rattle.lending.proofs.put_claims.Goals as goal

claims_long : (bytes : List ℕ) → length (claims bytes) ≡ claim_limit
claims_long bytes = records_length (claim_in bytes) claim_size claim_limit claims_at

pub loop-i-init : goal.loop-i-init
loop-i-init c =
    put_none c.args.sheet.now (claims c.args.bytes.now) (claims_long c.args.bytes.now) _ c.requires.1

pub loop-i-preserved : goal.loop-i-preserved
loop-i-preserved c =
    let a = c.args in
    put_next a.sheet.now (claims a.bytes.now) (claims_long a.bytes.now) a.count c.min-i-end.ensures c.loop-i.invariant c.loop-i-test.true
    (c.claim_at.ensures
    ∙ sym (record_at (claim_in a.bytes.now) claim_size claim_limit claims_at _ no_claim (omega (arith, c.loop-i-test.true, c.min-i-end.ensures))))
    c.take_apart.ensures

pub returns : goal.returns
returns c =
    let a = c.args in
    put_all a.sheet.now (claims a.bytes.now) (claims_long a.bytes.now) a.count c.min-i-end.ensures c.loop-i.invariant c.requires.1 c.loop-i-test.false
    ∙ ap (λ n. sheet_with a.sheet.now (take n (claims a.bytes.now))) c.requires.2
