-- What the numbers of an exported answer tell: memory that was never written, all zeros, is no yes, and is no answer of a call that can
-- refuse; no number means stopped and cancelled. Assumes nothing.
use Rattle.std.proofs.Common.{Result, Ok, ◌≡◌}
use Rattle.refusals.specs.declared.Refusal.{Refusal}
use Rattle.actions.specs.Actions.{judgement_number}
use Rattle.actions.specs.declared.Decision.{Decision}
use Rattle.actions.specs.declared.Decision.TheVariants.{Permitted, Stopped}
use Rattle.actions.specs.declared.Judgement.{Judgement}
use Rattle.actions.specs.declared.Judgement.TheVariants.{Permitted as Agreed}
use Rattle.proposals.specs.Proposals.{checked_number}
use Rattle.proposals.specs.declared.Checked.{Checked}
use Rattle.proposals.specs.declared.Checked.TheVariants.{Passes}
use Rattle.answers.specs.Answers.{accepted_number, refusal_number, decision_number}
use Rattle.answers.proofs.Telling as telling

-- 1. Only what is accepted has the number 1.
pub accepted_alone : (o : Result Unit Refusal) → accepted_number o ≡ 1 → o ≡ Ok tt
accepted_alone = telling.accepted_alone

-- 2a. Only the permitted action has the number 1.
pub permitted_alone : (d : Decision) → decision_number d ≡ 1 → d ≡ Permitted
permitted_alone = telling.permitted_alone

-- 2b. Only the permitted action of a plan has the number 1.
pub agreed_alone : (j : Judgement) → judgement_number j ≡ 1 → j ≡ Agreed
agreed_alone = telling.agreed_alone

-- 2c. Only the proposal that passes has the number 1.
pub passes_alone : (k : Checked) → checked_number k ≡ 1 → k ≡ Passes
passes_alone = telling.passes_alone

-- 3a. No outcome is told by zeros alone.
pub outcome_zero_clash : (o : Result Unit Refusal) → accepted_number o ≡ 0 → refusal_number o ≡ 0 → ⊥
outcome_zero_clash = telling.outcome_zero_clash

-- 3b. No decision is told by 0.
pub decision_zero_clash : (d : Decision) → decision_number d ≡ 0 → ⊥
decision_zero_clash = telling.decision_zero_clash

-- 3c. No answer of the check is told by 0.
pub checked_zero_clash : (k : Checked) → checked_number k ≡ 0 → ⊥
checked_zero_clash = telling.checked_zero_clash

-- 4. A stopped call and a verdict in a plan have no number in common.
pub stopped_judgement_clash : (why : Refusal) (j : Judgement) → decision_number (Stopped why) ≡ judgement_number j → ⊥
stopped_judgement_clash = telling.stopped_judgement_clash
