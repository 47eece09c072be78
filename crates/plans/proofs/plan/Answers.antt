-- `plans::plan` meets its contract: test 1, then 2 on the count, then what is found to stop the plan does (`found_halts`), and a plan that
-- nothing stops is judged whole (`planned_lent`), each of the register whose claims are read from their sheet. Assumes nothing.
use Rattle.std.proofs.Common.{◌≡◌, sym, ◌∙◌, length, rules}
use Rattle.lists.specs.Loops.{length_mapped}
use Rattle.lists.specs.Lists.{All}
use Rattle.register.specs.Limits.{actor_limit, resource_limit, claim_limit, path_limit}
use Rattle.register.specs.declared.Register.{Register}
use Rattle.register.specs.Register.{Shaped}
use Rattle.coverage.specs.LaidLaws.{laid_zeros}
use Rattle.gate_rules.specs.Plans.{halt_of}
use Rattle.gate.specs.Sheets.{sheeted}
use Rattle.gate.specs.Laws.{found_sound, lent_told}
use Rattle.plans.specs.StopsLaws.{told_runs}
use Rattle.plans.specs.Stopping.{stop_unsound, stop_many, stop_found, found_halts}
use Rattle.plans.specs.Judging.{planned_lent, planned_sheeted}
use Rattle.plans.proofs.plan.Goals as goal

-- a register whose arrays have their lengths is shaped
shaped : (r : Register) → length r.actors.list ≡ actor_limit → length r.resources.list ≡ resource_limit → length r.claims.list ≡ claim_limit
    → All (λ o. length o.path ≡ path_limit) r.resources.list → Shaped r
shaped r actors resources claims sized = record { actors = actors; resources = resources; claims = claims; paths = sized }

pub returns-then-not-found : goal.returns-then-not-found
returns-then-not-found c =
    let a = c.args in
    -- the register's arrays have their lengths, by their types
    let long : length a.r.claims.list ≡ claim_limit = search (rules, length_mapped) in
    let found = c.examine-found.ensures in
    let soundly = found_sound a.r long found.put found.found in
    c.stopped.ensures ∙ stop_unsound (sheeted a.r) a.p (sym soundly ∙ c.if-not-found.true)
    ∙ planned_sheeted a.r long a.p

pub returns-then-p-gt-ACTIONS : goal.returns-then-p-gt-ACTIONS
returns-then-p-gt-ACTIONS c =
    let a = c.args in
    let long : length a.r.claims.list ≡ claim_limit = search (rules, length_mapped) in
    let found = c.examine-found.ensures in
    let soundly = found_sound a.r long found.put found.found in
    c.stopped-then-p-gt-ACTIONS.ensures
    ∙ stop_many (sheeted a.r) a.p (sym soundly ∙ c.if-not-found.false) c.if-p-gt-ACTIONS.true
    ∙ planned_sheeted a.r long a.p

pub returns-in-Err : goal.returns-in-Err
returns-in-Err c =
    let a = c.args in
    let long : length a.r.claims.list ≡ claim_limit = search (rules, length_mapped) in
    let found = c.examine-found.ensures in
    let h = sym (found_sound a.r long found.put found.found) ∙ c.if-not-found.false in
    let paths = laid_zeros a.r.resources c.lay-lens.ensures.laid c.lay-lens.ensures.lengths in
    let same = lent_told a.r long found.put found.found paths.1 c.claim_ends-ends.ensures paths.0 in
    let stop = stop_found a.r a.p h c.if-p-gt-ACTIONS.false same c.first_stop-stop.ensures in
    c.stopped-in-Err.ensures ∙ found_halts (sheeted a.r) a.p stop c.in-Err.why c.in-Err.is
    ∙ planned_sheeted a.r long a.p

pub returns-in-Ok : goal.returns-in-Ok
returns-in-Ok c =
    let a = c.args in
    let long : length a.r.claims.list ≡ claim_limit = search (rules, length_mapped) in
    let found = c.examine-found.ensures in
    let h = sym (found_sound a.r long found.put found.found) ∙ c.if-not-found.false in
    let paths = laid_zeros a.r.resources c.lay-lens.ensures.laid c.lay-lens.ensures.lengths in
    let same = lent_told a.r long found.put found.found paths.1 c.claim_ends-ends.ensures paths.0 in
    let stop = stop_found a.r a.p h c.if-p-gt-ACTIONS.false same c.first_stop-stop.ensures in
    let actors : length a.r.actors.list ≡ actor_limit = search (rules, length_mapped) in
    let resources : length a.r.resources.list ≡ resource_limit = search (rules, length_mapped) in
    planned_lent a.r a.p (shaped a.r actors resources long c.lay-lens.ensures.sized) (told_runs (halt_of (sheeted a.r) a.p) stop c.in-Ok.is)
    same c.judge_all.ensures
    ∙ planned_sheeted a.r long a.p
