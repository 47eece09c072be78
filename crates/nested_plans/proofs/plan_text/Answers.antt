-- A text that fails is refused at its line, then an unsound register, and else the actions that were found are judged by what is lent of the
-- register, whose claims are read from their sheet.
use Rattle.std.proofs.Common.{◌≡◌, sym, ◌∙◌, length, rules}
use Rattle.lists.specs.Loops.{length_mapped}
use Rattle.register.specs.Limits.{actor_limit, resource_limit, claim_limit}
use Rattle.register.specs.Register.{Shaped}
use Rattle.coverage.specs.LaidLaws.{laid_zeros}
use Rattle.gate.specs.Laws.{found_sound, lent_told}
use Rattle.register_reading.specs.Runs.{stands_failed, stands_going}
use Rattle.step_reading.specs.Finding.{actions_at}
use Rattle.nested_plans.proofs.Answering.{text_fails, text_reads, text_few, stop_unsound, judged_lent}
use Rattle.nested_plans.proofs.plan_text.Goals as goal

pub returns-then-not-goes_on : goal.returns-then-not-goes_on
returns-then-not-goes_on c =
    let a = c.args in
    let read = c.read_text-places in
    let cursor = read.result.cursor in
    let halted = stands_failed a.text.now cursor (sym c.goes_on.ensures ∙ c.if-not-goes_on.true) in
    c.stopped.ensures ∙ text_fails a.r a.text.now read.result read.ensures cursor.refusal cursor.line halted

pub returns-then-not-found : goal.returns-then-not-found
returns-then-not-found c =
    let a = c.args in
    let read = c.read_text-places in
    let claims_long : length a.r.claims.list ≡ claim_limit = search (rules, length_mapped) in
    let goes = stands_going a.text.now read.result.cursor (sym c.goes_on.ensures ∙ c.if-not-goes_on.false) in
    let found = c.examine-found.ensures in
    let soundly = found_sound a.r claims_long found.put found.found in
    c.stopped-then-not-found.ensures
    ∙ stop_unsound a.r claims_long (actions_at a.text.now read.result) (sym soundly ∙ c.if-not-found.true)
    ∙ sym (text_reads a.r a.text.now read.result read.ensures _ _ goes)

pub returns : goal.returns
returns c =
    let a = c.args in
    let read = c.read_text-places in
    let actions = actions_at a.text.now read.result in
    let actors_long : length a.r.actors.list ≡ actor_limit = search (rules, length_mapped) in
    let resources_long : length a.r.resources.list ≡ resource_limit = search (rules, length_mapped) in
    let claims_long : length a.r.claims.list ≡ claim_limit = search (rules, length_mapped) in
    let shaped : Shaped a.r = record { actors = actors_long; resources = resources_long; claims = claims_long; paths = c.lay-lens.ensures.sized } in
    let goes = stands_going a.text.now read.result.cursor (sym c.goes_on.ensures ∙ c.if-not-goes_on.false) in
    let found = c.examine-found.ensures in
    let h = sym (found_sound a.r claims_long found.put found.found) ∙ c.if-not-found.false in
    let paths = laid_zeros a.r.resources c.lay-lens.ensures.laid c.lay-lens.ensures.lengths in
    let lent = lent_told a.r claims_long found.put found.found paths.1 c.claim_ends-ends.ensures paths.0 in
    judged_lent a.r claims_long actions shaped h (text_few a.r a.text.now read.result read.ensures _ _ goes) lent c.judge_places.ensures
    ∙ sym (text_reads a.r a.text.now read.result read.ensures _ _ goes)
