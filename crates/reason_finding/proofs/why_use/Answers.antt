-- `reason_finding::why_use` meets its contract: test 1, then the gate's 2 and 3, and past them the reasons are told by what is lent of the register
-- (`why_held`). Assumes nothing.
use Rattle.std.proofs.Common.{◌≡◌, sym, ◌∙◌, length, rules}
use Rattle.lists.specs.Loops.{length_mapped}
use Rattle.register.specs.Limits.{claim_limit}
use Rattle.register.specs.Register.{Shaped}
use Rattle.coverage.specs.LaidLaws.{laid_zeros}
use Rattle.soundness.specs.Laws.{judged_sound}
use Rattle.reason_finding.proofs.Answering.{why_unsound, why_stopped, why_held}
use Rattle.reason_finding.proofs.why_use.Goals as goal

pub returns-then-not-found : goal.returns-then-not-found
returns-then-not-found c =
    let a = c.args in
    let found = c.examine-found.ensures in
    let room : length a.r.claims.list ≡ claim_limit = search (rules, length_mapped) in
    let soundly = judged_sound a.r (record { put = found.put; told = found.found }) room in
    c.unasked.ensures ∙ why_unsound a.r a.actor a.usage a.moment (sym soundly ∙ c.if-not-found.true)

pub returns-in-Err : goal.returns-in-Err
returns-in-Err c =
    let a = c.args in
    let found = c.examine-found.ensures in
    let room : length a.r.claims.list ≡ claim_limit = search (rules, length_mapped) in
    let soundly = judged_sound a.r (record { put = found.put; told = found.found }) room in
    c.unasked-in-Err.ensures
    ∙ why_stopped a.r a.actor a.usage a.moment (sym soundly ∙ c.if-not-found.false)
    found.put found.found c.one_use-action.ensures c.action_outcome-outcome.ensures c.in-Err.why c.in-Err.is

pub returns-in-Ok : goal.returns-in-Ok
returns-in-Ok c =
    let a = c.args in
    let found = c.examine-found.ensures in
    let room : length a.r.claims.list ≡ claim_limit = search (rules, length_mapped) in
    let soundly = judged_sound a.r (record { put = found.put; told = found.found }) room in
    let paths = laid_zeros a.r.resources c.lay-lens.ensures.laid c.lay-lens.ensures.lengths in
    let shaped : Shaped a.r = record {
      actors = search (rules, length_mapped);
      resources = search (rules, length_mapped);
      claims = room;
      paths = c.lay-lens.ensures.sized;
    } in
    why_held a.r a.actor a.usage a.moment (sym soundly ∙ c.if-not-found.false)
    found.put found.found c.one_use-action.ensures c.action_outcome-outcome.ensures shaped c.in-Ok.is
    paths.1 c.claim_ends-ends.ensures paths.0 c.spot-spot.ensures c.both.ensures
