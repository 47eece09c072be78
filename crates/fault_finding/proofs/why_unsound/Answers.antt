-- A sound register has no fault; then the version and the counts, the actors, the resources and the claims are told, each where those before are as
-- they should be (Parts).
use Rattle.std.proofs.Common.{◌≡◌, sym, ap, ◌∙◌, rules, length}
use Rattle.lists.specs.Loops.{length_mapped}
use Rattle.register.specs.Limits.{claim_limit}
use Rattle.columns.specs.Sheet.{sheet_of}
use Rattle.soundness.specs.Judged.{register_by}
use Rattle.soundness.specs.Laws.{examined, judged_sound}
use Rattle.faults.specs.Faults.{fault_of}
use Rattle.fault_finding.specs.Asked.{Turning}
use Rattle.fault_finding.proofs.Parts.{sound_faultless, limits_told, limits_passed, actors_told, actors_none, resources_told, resources_none, claims_turning, sheet_fault}
use Rattle.fault_finding.proofs.why_unsound.Goals as goal

pub returns-then-found : goal.returns-then-found
returns-then-found c =
    let r = c.args.r in
    let places : length r.claims.list ≡ claim_limit = search (rules, length_mapped) in
    c.no_fault.ensures ∙ sound_faultless r (sym (judged_sound r (examined r (c.examine-found.ensures.put, c.examine-found.ensures.found)) places) ∙ c.if-found.true)

pub returns-then-limits-eq0 : goal.returns-then-limits-eq0
returns-then-limits-eq0 c =
    let r = c.args.r in
    let limits = c.limits_fault-limits.ensures in
    limits ∙ limits_told r (sym (ap (λ f. f.sound) limits) ∙ c.if-limits-eq0.true)

pub returns-then-actors-eq0 : goal.returns-then-actors-eq0
returns-then-actors-eq0 c =
    let r = c.args.r in
    let actors = c.actors_fault-actors.ensures in
    let passed = limits_passed r (λ e. c.if-limits-eq0.false (ap (λ f. f.sound) c.limits_fault-limits.ensures ∙ e)) in
    actors ∙ actors_told r passed (sym (ap (λ f. f.sound) actors) ∙ c.if-actors-eq0.true)

pub returns-then-resources-eq0 : goal.returns-then-resources-eq0
returns-then-resources-eq0 c =
    let r = c.args.r in
    let resources = c.resources_fault-resources.ensures in
    let passed = limits_passed r (λ e. c.if-limits-eq0.false (ap (λ f. f.sound) c.limits_fault-limits.ensures ∙ e)) in
    let whole = actors_none r passed (λ e. c.if-actors-eq0.false (ap (λ f. f.sound) c.actors_fault-actors.ensures ∙ e)) in
    resources ∙ resources_told r passed whole (sym (ap (λ f. f.sound) resources) ∙ c.if-resources-eq0.true)

-- where nothing was told before the claims, the halving may begin
pub claims_fault-requires : goal.claims_fault-requires
claims_fault-requires c =
    let r = c.args.r in
    let places : length r.claims.list ≡ claim_limit = search (rules, length_mapped) in
    let opened = examined r (c.examine-found.ensures.put, c.examine-found.ensures.found) in
    let passed = limits_passed r (λ e. c.if-limits-eq0.false (ap (λ f. f.sound) c.limits_fault-limits.ensures ∙ e)) in
    let actors = actors_none r passed (λ e. c.if-actors-eq0.false (ap (λ f. f.sound) c.actors_fault-actors.ensures ∙ e)) in
    let resources = resources_none r passed (λ e. c.if-resources-eq0.false (ap (λ f. f.sound) c.resources_fault-resources.ensures ∙ e)) in
    let turning : Turning r.version r.actors r.resources (sheet_of r.claims) 0 r.claims.count =
    claims_turning r passed places actors resources (sym (judged_sound r opened places) ∙ c.if-found.false) in
    (rw opened.put turning, passed.within.claim_count)

pub returns : goal.returns
returns c =
    let r = c.args.r in
    let places : length r.claims.list ≡ claim_limit = search (rules, length_mapped) in
    let opened = examined r (c.examine-found.ensures.put, c.examine-found.ensures.found) in
    c.claims_fault.ensures
    ∙ ap (λ s. fault_of (register_by r.version r.actors r.resources s r.claims.count)) opened.put
    ∙ sheet_fault r places
