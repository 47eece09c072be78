-- `plain_gate::gate` meets its contract: a test that is not passed stops it, and past them the action is judged by its paper. Assumes nothing.
use Rattle.std.proofs.Common.{◌≡◌, sym, ◌∙◌, length, rules}
use Rattle.lists.specs.Loops.{length_mapped}
use Rattle.register.specs.Limits.{claim_limit}
use Rattle.gate_rules.proofs.Laws.{action_tests_out}
use Rattle.plain_gate.proofs.Answering.{unsound_examined, known_examined, tests_known, plain_unsound, plain_stopped, plain_judged}
use Rattle.plain_gate.proofs.gate.Goals as goal

pub returns-then-not-found : goal.returns-then-not-found
returns-then-not-found c =
    -- the array of the claims has its length, by its type
    let long : length c.args.r.claims.list ≡ claim_limit = search (rules, length_mapped) in
    c.stopped.ensures
    ∙ plain_unsound c.args.r c.args.a
    (unsound_examined c.args.r long (c.examine-found.ensures.put, c.examine-found.ensures.found) c.if-not-found.true)

pub judge-judged-requires : goal.judge-judged-requires
judge-judged-requires c =
    let long : length c.args.r.claims.list ≡ claim_limit = search (rules, length_mapped) in
    let known = known_examined c.args.r long (c.examine-found.ensures.put, c.examine-found.ensures.found) c.if-not-found.false in
    (known, action_tests_out c.args.r c.args.a (sym (tests_known c.args.r _ known c.args.a c.action_outcome-outcome.ensures) ∙ c.in-Ok.is))

pub returns-in-Err : goal.returns-in-Err
returns-in-Err c =
    let long : length c.args.r.claims.list ≡ claim_limit = search (rules, length_mapped) in
    let known = known_examined c.args.r long (c.examine-found.ensures.put, c.examine-found.ensures.found) c.if-not-found.false in
    c.stopped-in-Err.ensures
    ∙ plain_stopped c.args.r c.args.a known.soundly c.in-Err.why
    (sym (tests_known c.args.r _ known c.args.a c.action_outcome-outcome.ensures) ∙ c.in-Err.is)

pub returns-in-Ok : goal.returns-in-Ok
returns-in-Ok c =
    let long : length c.args.r.claims.list ≡ claim_limit = search (rules, length_mapped) in
    let known = known_examined c.args.r long (c.examine-found.ensures.put, c.examine-found.ensures.found) c.if-not-found.false in
    c.decided.ensures
    ∙ plain_judged c.args.r c.args.a known.soundly
    (sym (tests_known c.args.r _ known c.args.a c.action_outcome-outcome.ensures) ∙ c.in-Ok.is) c.judge-judged.result c.judge-judged.ensures
