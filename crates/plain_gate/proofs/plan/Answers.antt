-- `plain_gate::plan` meets its contract: test 1, then 2 on the count, then what is found to stop the plan does, and the actions of a plan that
-- nothing stops are judged one by one. Assumes nothing.
use Rattle.std.proofs.Common.{◌≡◌, ◌∙◌, length, rules}
use Rattle.lists.specs.Loops.{length_mapped}
use Rattle.register.specs.Limits.{claim_limit}
use Rattle.refusals.specs.declared.Refusal.TheVariants.{Unsound, Range}
use Rattle.gate_rules.specs.Plans.{halt_of}
use Rattle.plans.specs.StopsLaws.{halt_unsound, halt_many, told_runs, told_halts}
use Rattle.plain_gate.proofs.Answering.{unsound_examined, known_examined, plain_halts, plain_runs, stop_known}
use Rattle.plain_gate.proofs.plan.Goals as goal

pub returns-then-not-found : goal.returns-then-not-found
returns-then-not-found c =
    -- the array of the claims has its length, by its type
    let long : length c.args.r.claims.list ≡ claim_limit = search (rules, length_mapped) in
    c.stopped.ensures
    ∙ plain_halts c.args.r c.args.p Unsound 0 (halt_unsound c.args.r c.args.p
    (unsound_examined c.args.r long (c.examine-found.ensures.put, c.examine-found.ensures.found) c.if-not-found.true))

pub returns-then-p-gt-ACTIONS : goal.returns-then-p-gt-ACTIONS
returns-then-p-gt-ACTIONS c =
    let long : length c.args.r.claims.list ≡ claim_limit = search (rules, length_mapped) in
    let known = known_examined c.args.r long (c.examine-found.ensures.put, c.examine-found.ensures.found) c.if-not-found.false in
    c.stopped-then-p-gt-ACTIONS.ensures
    ∙ plain_halts c.args.r c.args.p Range 0 (halt_many c.args.r c.args.p known.soundly c.if-p-gt-ACTIONS.true)

pub judge_all-requires : goal.judge_all-requires
judge_all-requires c =
    let long : length c.args.r.claims.list ≡ claim_limit = search (rules, length_mapped) in
    let known = known_examined c.args.r long (c.examine-found.ensures.put, c.examine-found.ensures.found) c.if-not-found.false in
    let stop = stop_known c.args.r _ known c.args.p c.if-p-gt-ACTIONS.false c.first_stop-stop.ensures in
    (known, told_runs (halt_of c.args.r c.args.p) stop c.in-Ok.is)

pub returns-in-Err : goal.returns-in-Err
returns-in-Err c =
    let long : length c.args.r.claims.list ≡ claim_limit = search (rules, length_mapped) in
    let known = known_examined c.args.r long (c.examine-found.ensures.put, c.examine-found.ensures.found) c.if-not-found.false in
    let stop = stop_known c.args.r _ known c.args.p c.if-p-gt-ACTIONS.false c.first_stop-stop.ensures in
    c.stopped-in-Err.ensures
    ∙ plain_halts c.args.r c.args.p c.in-Err.why c.first_stop-stop.result.position
    (told_halts (halt_of c.args.r c.args.p) stop c.in-Err.why c.in-Err.is)

pub returns-in-Ok : goal.returns-in-Ok
returns-in-Ok c =
    let long : length c.args.r.claims.list ≡ claim_limit = search (rules, length_mapped) in
    let known = known_examined c.args.r long (c.examine-found.ensures.put, c.examine-found.ensures.found) c.if-not-found.false in
    let stop = stop_known c.args.r _ known c.args.p c.if-p-gt-ACTIONS.false c.first_stop-stop.ensures in
    c.judge_all.ensures ∙ plain_runs c.args.r c.args.p (told_runs (halt_of c.args.r c.args.p) stop c.in-Ok.is)
