-- The claim behind those with which the register is sound is the one that is told (Turns).
use Rattle.std.proofs.Common.{sym, ap, ◌∙◌}
use Rattle.faults.specs.Faults.{told_fault}
use Rattle.fault_finding.proofs.Turns.{claim_told, claim_clash}
use Rattle.fault_finding.proofs.claims_fault.Goals as goal

pub returns-in-Err : goal.returns-in-Err
returns-in-Err c =
    let given = c.args in
    let at = c.sound_before-at in
    let refused = c.in-Err in
    c.told.ensures
    ∙ ap (λ d. told_fault refused.why 3 at.result d.id) c.claim_at-c.ensures
    ∙ claim_told given.version given.a given.o given.sheet.now at.result given.n at.ensures.0 at.ensures.1 c.requires.1
    (sym c.claim_outcome.ensures ∙ refused.is)

pub returns-in-Ok : goal.returns-in-Ok
returns-in-Ok c =
    let given = c.args in
    let at = c.sound_before-at in
    claim_clash given.version given.a given.o given.sheet.now at.result given.n at.ensures.0 at.ensures.1 c.requires.1
    (sym c.claim_outcome.ensures ∙ c.in-Ok.is)
