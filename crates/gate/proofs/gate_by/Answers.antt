-- `gate::gate_by` meets its contract: a test that is not passed stops it, and past them the action is judged by what is lent of the register
-- (`Assembling`). Assumes nothing.
use Rattle.std.proofs.Common.{◌≡◌, sym, ◌∙◌, length, rules}
use Rattle.lists.specs.Loops.{length_mapped}
use Rattle.lists.specs.Tests.{clash}
use Rattle.lists.specs.Lists.{All}
use Rattle.register.specs.Limits.{actor_limit, resource_limit, claim_limit, path_limit}
use Rattle.register.specs.declared.Register.{Register}
use Rattle.register.specs.Register.{Shaped}
use Rattle.coverage.specs.LaidLaws.{laid_zeros}
use Rattle.gate.specs.Assembling.{verdict_unsound, verdict_stopped, verdict_judged, both_told}
use Rattle.gate.proofs.gate_by.Goals as goal

-- a register whose arrays have their lengths is shaped
shaped : {A : Type 0} (r : Register) → length r.actors.list ≡ actor_limit → length r.resources.list ≡ resource_limit → length r.claims.list ≡ claim_limit
    → All (λ o. length o.path ≡ path_limit) r.resources.list → A → Shaped r
shaped r actors resources claims sized _ = record { actors = actors; resources = resources; claims = claims; paths = sized }

pub returns-then-not-found : goal.returns-then-not-found
returns-then-not-found c =
    let given = c.args in
    let unsound = c.if-not-found.true in
    -- the register's arrays have their lengths, by their types
    let claims_long : length given.r.claims.list ≡ claim_limit = search (rules, length_mapped) in
    let both = both_told given.r given.sheet.now given.found given.a claims_long (λ t. clash _ t unsound)
    (c.stopped.ensures ∙ verdict_unsound given.r given.sheet.now given.found given.a unsound) in
    record { told = both.0; gated = both.1 }

pub returns-in-Err : goal.returns-in-Err
returns-in-Err c =
    let given = c.args in
    let actors_long : length given.r.actors.list ≡ actor_limit = search (rules, length_mapped) in
    let resources_long : length given.r.resources.list ≡ resource_limit = search (rules, length_mapped) in
    let claims_long : length given.r.claims.list ≡ claim_limit = search (rules, length_mapped) in
    let both = both_told given.r given.sheet.now given.found given.a claims_long (shaped given.r actors_long resources_long claims_long c.lay-lens.ensures.sized)
    (c.stopped-in-Err.ensures
    ∙ verdict_stopped given.r given.sheet.now given.found given.a (c.if-not-found.false) c.in-Err.why
    (sym c.action_outcome-outcome.ensures ∙ c.in-Err.is)) in
    record { told = both.0; gated = both.1 }

pub returns-in-Ok : goal.returns-in-Ok
returns-in-Ok c =
    let given = c.args in
    let actors_long : length given.r.actors.list ≡ actor_limit = search (rules, length_mapped) in
    let resources_long : length given.r.resources.list ≡ resource_limit = search (rules, length_mapped) in
    let claims_long : length given.r.claims.list ≡ claim_limit = search (rules, length_mapped) in
    let paths = laid_zeros given.r.resources c.lay-lens.ensures.laid c.lay-lens.ensures.lengths in
    let both = both_told given.r given.sheet.now given.found given.a claims_long (shaped given.r actors_long resources_long claims_long c.lay-lens.ensures.sized)
    (c.decided.ensures
    ∙ verdict_judged given.r given.sheet.now given.found given.a (c.if-not-found.false)
    (sym c.action_outcome-outcome.ensures ∙ c.in-Ok.is)
    (c.judge-judged.ensures ∙ rw (c.claim_ends-ends.ensures, paths.0, paths.1))) in
    record { told = both.0; gated = both.1 }
