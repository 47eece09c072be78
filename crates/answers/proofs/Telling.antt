-- What the numbers of an exported answer tell, answer by answer. Assumes nothing.
use Rattle.std.proofs.Common.{Result, Err, Ok, ◌≡◌, refl, arith}
use Rattle.refusals.proofs.Laws.{number_bounds}
use Rattle.refusals.specs.declared.Refusal.{Refusal}
use Rattle.actions.specs.Actions.{judgement_number}
use Rattle.actions.specs.declared.Decision.{Decision}
use Rattle.actions.specs.declared.Decision.TheVariants.{Permitted, Refused, Stopped}
use Rattle.actions.specs.declared.Judgement.{Judgement}
use Rattle.actions.specs.declared.Judgement.TheVariants.{Permitted as Agreed, Refused as Denied, Cancelled}
use Rattle.proposals.specs.Proposals.{checked_number}
use Rattle.proposals.specs.declared.Checked.{Checked}
use Rattle.proposals.specs.declared.Checked.TheVariants.{Passes, Fails, Stopped as Halted}
use Rattle.answers.specs.Answers.{accepted_number, refusal_number, decision_number}

-- only what is accepted has the number 1
pub accepted_alone : (o : Result Unit Refusal) → accepted_number o ≡ 1 → o ≡ Ok tt
accepted_alone (Ok _) one = refl
accepted_alone (Err why) one = absurd (omega arith)

-- only the permitted action has the number 1
pub permitted_alone : (d : Decision) → decision_number d ≡ 1 → d ≡ Permitted
permitted_alone Permitted one = refl
permitted_alone Refused one = absurd (omega arith)
permitted_alone (Stopped why) one = absurd (omega arith)

-- only the permitted action of a plan has the number 1
pub agreed_alone : (j : Judgement) → judgement_number j ≡ 1 → j ≡ Agreed
agreed_alone Agreed one = refl
agreed_alone (Denied violations) one = absurd (omega arith)
agreed_alone Cancelled one = absurd (omega arith)

-- only the proposal that passes has the number 1
pub passes_alone : (k : Checked) → checked_number k ≡ 1 → k ≡ Passes
passes_alone Passes one = refl
passes_alone Fails one = absurd (omega arith)
passes_alone (Halted why) one = absurd (omega arith)

-- no answer of the check is told by 0
pub checked_zero_clash : (k : Checked) → checked_number k ≡ 0 → ⊥
checked_zero_clash Passes zero = omega arith
checked_zero_clash Fails zero = omega arith
checked_zero_clash (Halted why) zero = omega arith

-- no outcome is told by zeros alone
pub outcome_zero_clash : (o : Result Unit Refusal) → accepted_number o ≡ 0 → refusal_number o ≡ 0 → ⊥
outcome_zero_clash (Ok _) accepted refused = omega arith
outcome_zero_clash (Err why) accepted refused = omega (arith, (number_bounds why).0)

-- no decision is told by 0
pub decision_zero_clash : (d : Decision) → decision_number d ≡ 0 → ⊥
decision_zero_clash Permitted zero = omega arith
decision_zero_clash Refused zero = omega arith
decision_zero_clash (Stopped why) zero = omega arith

-- a stopped call and a verdict in a plan have no number in common
pub stopped_judgement_clash : (why : Refusal) (j : Judgement) → decision_number (Stopped why) ≡ judgement_number j → ⊥
stopped_judgement_clash why Agreed same = omega arith
stopped_judgement_clash why (Denied violations) same = omega arith
stopped_judgement_clash why Cancelled same = omega arith
