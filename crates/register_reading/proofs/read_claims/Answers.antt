-- The claims as their lines say them are stored in the list that they were read into.
use Rattle.std.proofs.Common.{ℕ, ◌-◌, ◌≡◌, sym, ap, ◌∙◌, List, ◌++◌, length, drop, replicate}
use lib.Seq.{take-append_seam, drop-append_seam}
use Rattle.register.specs.Limits.{claim_limit}
use Rattle.register.specs.Register.{no_claim}
use Rattle.register.specs.Chain.{latest}
use Rattle.register.specs.declared.Claim.{Claim}
use Rattle.register.specs.declared.Claims.{Claims}
use Rattle.soundness_rules.specs.Sound.{each_stored}
use Rattle.lines.specs.Reading.{State}
use Rattle.lines.specs.Answers.{state_of}
use Rattle.text_rules.specs.Keys.{claims_key}
use Rattle.text_rules.specs.Records.{section}
use Rattle.text_rules.specs.Registers.{read_claim, read_claims, held_claims}
use Rattle.register_reading.specs.Lefts.{stored_in}
use Rattle.register_reading.proofs.Storing.{stored_length}
use Rattle.register_reading.proofs.read_claims.Goals as goal

-- the claims that stand in the list are those that were read, and behind them stand none
stored_told : (version : ℕ) (st : State) {k claims : Claims} → k ≡ held_claims (section claims_key claim_limit (read_claim version) st).value → claims ≡ stored_in version k
    → claims ≡ held_claims (read_claims version st).value
unfolding read_claims
stored_told version st {k} listed told =
    let raw : List Claim = (section claims_key claim_limit (read_claim version) st).value in
    let rest = replicate (claim_limit - length raw) no_claim in
    let stored = latest (each_stored version (latest raw)) in
    told
    ∙ ap (stored_in version) listed
    ∙ ap (λ l. record { list = latest (each_stored version (latest l)) ++ drop (length raw) (raw ++ rest); count = length raw }) (take-append_seam raw rest)
    ∙ ap (λ l. record { list = stored ++ l; count = length raw }) (drop-append_seam raw rest)
    ∙ ap (λ n. record { list = stored ++ replicate (claim_limit - n) no_claim; count = n }) (sym (stored_length version raw))

state_told : (version : ℕ) (st : State) {end : State} → end ≡ (section claims_key claim_limit (read_claim version) st).state → end ≡ (read_claims version st).state
unfolding read_claims
state_told version st e = e

pub returns : goal.returns
returns c =
    let given = c.args in
    let st = state_of given.s.now given.c in
    let listed = c.read_listed-listed.ensures in
    record {
      claims = stored_told given.version st listed.claims c.stored_claims.ensures;
      state = state_told given.version st listed.state;
    }
