-- `proposing::propose_by` meets its contract: no grant, nothing, or what is drawn (Answering). Assumes nothing.
use Rattle.std.proofs.Common.{sym, ap, ◌∙◌, length}
use Rattle.columns.specs.SheetLaws.{sheet_long}
use Rattle.soundness_rules.proofs.Registers.{sound_out}
use Rattle.proposing.proofs.Answering.{marks_permitted, marks_barred, marks_drawn, drawn_read}
use Rattle.proposing.proofs.propose_by.Goals as goal

pub returns-then-gate_permits : goal.returns-then-gate_permits
returns-then-gate_permits c =
    let a = c.args in
    c.no_grant.ensures
    ∙ marks_permitted a.r a.ask.actor a.ask.usage a.ask.moment a.signers c.requires.1 (sym c.gate_permits.ensures ∙ c.if-gate_permits.true)

pub returns-then-not-is_clear : goal.returns-then-not-is_clear
returns-then-not-is_clear c =
    let a = c.args in
    c.refused.ensures
    ∙ marks_barred a.r a.ask.actor a.ask.usage a.ask.moment a.signers c.requires.1 (sym c.gate_permits.ensures ∙ c.if-gate_permits.false)
    (sym c.is_clear.ensures ∙ c.if-not-is_clear.true)

pub draw-requires : goal.draw-requires
draw-requires c =
    ((sound_out c.args.r c.requires.0.asked.judged).limits.claim_count, ap length c.requires.0.opened.put ∙ sheet_long c.args.r.claims)

pub returns : goal.returns
returns c =
    let a = c.args in
    c.draw.ensures
    ∙ drawn_read a.r a.ask.actor a.ask.usage a.ask.moment a.signers c.requires.0
    ∙ marks_drawn a.r a.ask.actor a.ask.usage a.ask.moment a.signers c.requires.1 (sym c.gate_permits.ensures ∙ c.if-gate_permits.false)
    (sym c.is_clear.ensures ∙ c.if-not-is_clear.false)
