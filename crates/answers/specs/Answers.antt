-- Believed: What the exported calls answer: for each inner answer the struct of numbers that crosses to the portal. No answer whose numbers are all
-- zero is a yes.
use Rattle.refusals.specs.declared.Refusal.{Refusal}
use Rattle.std.specs.Prelude.{Bool, cond, List, ◌++◌, map, ℕ, ◌-◌, length, take, replicate, Result, Err, Ok}
use Rattle.paths.specs.Containment.{contained, reached}
use Rattle.refusals.specs.Refusals.{number_of}
use Rattle.change_rules.specs.declared.Granted.{Granted}
use Rattle.change_rules.specs.declared.Revoked.{Revoked}
use Rattle.actions.specs.Actions.{violation_limit, action_limit, kind_of, value_of, judgement_number, judgement_value}
use Rattle.actions.specs.declared.Violation.{Violation}
use Rattle.actions.specs.declared.Violations.{Violations}
use Rattle.actions.specs.declared.Decision.{Decision}
use Rattle.actions.specs.declared.Decision.TheVariants.{Permitted, Refused, Stopped}
use Rattle.actions.specs.declared.Verdict.{Verdict}
use Rattle.actions.specs.declared.Judgement.{Judgement}
use Rattle.actions.specs.declared.PlanVerdict.{PlanVerdict}
use Rattle.proposals.specs.Proposals.{checked_number}
use Rattle.proposals.specs.declared.Proposed.{Proposed}
use Rattle.proposals.specs.declared.Checked.{Checked}
use Rattle.proposals.specs.declared.Checked.TheVariants.{Passes, Fails, Stopped as Halted}
use Rattle.text_rules.specs.declared.RegisterRead.{RegisterRead}
use Rattle.text_rules.specs.declared.ActionRead.{ActionRead}
use Rattle.buffers.specs.declared.Written.{Written}
use Rattle.json_rules.specs.declared.JsonRead.{JsonRead}
use Rattle.steps.specs.Steps.{text_action_limit}
use Rattle.steps.specs.declared.PlanTextVerdict.{PlanTextVerdict}
use Rattle.fingerprints.specs.declared.Attached.{Attached}
use Rattle.fingerprints.specs.declared.Fetched.{Fetched}
use Rattle.reasons.specs.declared.Holders.{Holders}
use Rattle.table_showing.specs.declared.TableShown.{TableShown}
use Rattle.reasons.specs.declared.UseTold.{UseTold}
use Rattle.answers.specs.declared.Containment.{Containment}
use Rattle.answers.specs.declared.Soundness.{Soundness}
use Rattle.answers.specs.declared.GrantAnswer.{GrantAnswer}
use Rattle.answers.specs.declared.RevokeAnswer.{RevokeAnswer}
use Rattle.answers.specs.declared.ProposalAnswer.{ProposalAnswer}
use Rattle.answers.specs.declared.CheckAnswer.{CheckAnswer}
use Rattle.answers.specs.declared.ViolationNumbers.{ViolationNumbers}
use Rattle.answers.specs.declared.GateAnswer.{GateAnswer}
use Rattle.answers.specs.declared.JudgementNumbers.{JudgementNumbers}
use Rattle.answers.specs.declared.PlanAnswer.{PlanAnswer}
use Rattle.answers.specs.declared.PlanTextAnswer.{PlanTextAnswer}
use Rattle.answers.specs.declared.RegisterAnswer.{RegisterAnswer}
use Rattle.answers.specs.declared.ActionAnswer.{ActionAnswer}
use Rattle.answers.specs.declared.WrittenAnswer.{WrittenAnswer}
use Rattle.answers.specs.declared.JsonAnswer.{JsonAnswer}
use Rattle.answers.specs.declared.AttachAnswer.{AttachAnswer}
use Rattle.answers.specs.declared.FetchAnswer.{FetchAnswer}
use Rattle.answers.specs.declared.HoldersAnswer.{HoldersAnswer}
use Rattle.answers.specs.declared.TableAnswer.{TableAnswer}
use Rattle.answers.specs.declared.UseReasonAnswer.{UseReasonAnswer}
use Rattle.answers.specs.declared.VersionNumbers.{VersionNumbers}

-- a yes is 1 and a no is 0
abbrev pub yes_number : Bool → ℕ
yes_number held = cond held 1 0

-- of two paths: whether outer contains inner, and how far it reaches
abbrev pub containment : List ℕ → List ℕ → Containment
containment outer inner = record { contained = yes_number (contained outer inner); length = reached outer inner }

abbrev pub soundness : Bool → Soundness
soundness held = record { sound = yes_number held }

-- accepted is 1 and refused is 0
abbrev pub accepted_number : Result Unit Refusal → ℕ
accepted_number (Ok _) = 1
accepted_number (Err why) = 0

-- 01's number of the refusal, 0 where there is none
abbrev pub refusal_number : Result Unit Refusal → ℕ
refusal_number (Ok _) = 0
refusal_number (Err why) = number_of why

-- a grant: the parts of the register as the grant leaves it, beside its outcome
abbrev pub grant_answer : Granted → GrantAnswer
grant_answer g = record {
  actors = g.register.actors;
  resources = g.register.resources;
  list = g.register.claims.list;
  count = g.register.claims.count;
  version = g.register.version;
  accepted = accepted_number g.outcome;
  refusal = refusal_number g.outcome;
}

-- a revocation or a clearing: the register as it leaves it, beside its outcome and how many claims went
abbrev pub revoke_answer : Revoked → RevokeAnswer
revoke_answer g = record {
  state = g.register;
  accepted = accepted_number g.outcome;
  refusal = refusal_number g.outcome;
  removed = g.removed;
}

-- the planner: its proposal, of zeros where there is none, beside the outcome
abbrev pub proposal_answer : Proposed → ProposalAnswer
proposal_answer p = record { proposal = p.proposal; accepted = accepted_number p.outcome; refusal = refusal_number p.outcome }

-- the check of a proposal: the number of its answer, and 01's number of the refusal that stopped it, 0 where none did
abbrev pub check_answer : Checked → CheckAnswer
check_answer Passes = record { answer = checked_number Passes; refusal = 0 }
check_answer Fails = record { answer = checked_number Fails; refusal = 0 }
check_answer (Halted why) = record { answer = checked_number (Halted why); refusal = number_of why }

-- permitted is 1, refused is 2 and stopped is 3
abbrev pub decision_number : Decision → ℕ
decision_number Permitted = 1
decision_number Refused = 2
decision_number (Stopped why) = 3

-- 01's number of the refusal that stopped a call, 0 where none did
abbrev pub stop_number : Decision → ℕ
stop_number Permitted = 0
stop_number Refused = 0
stop_number (Stopped why) = number_of why

-- f of each of the first k, and nothing but `none` in the places past them, of which there are `most` in all
abbrev pub filled : {A B : Type 0} → (A → B) → B → ℕ → ℕ → List A → List B
filled f none most k l = map f (take k l) ++ replicate (most - length (take k l)) none

-- the kind of a violation and what it is about; a place without one holds zeros
abbrev pub violation_numbers : Violation → ViolationNumbers
violation_numbers v = record { kind = kind_of v; value = value_of v }

abbrev pub no_violation : ViolationNumbers
no_violation = record { kind = 0; value = 0 }

abbrev pub violation_list : Violations → List ViolationNumbers
violation_list vs = filled (λ v. violation_numbers v.what) no_violation violation_limit vs.count vs.list

-- the gate: the decision, the refusal that stopped it, the violations with their count, and the hop counts
abbrev pub gate_answer : Verdict → GateAnswer
gate_answer v = record {
  decision = decision_number v.decision;
  refusal = stop_number v.decision;
  violations = violation_list v.violations;
  count = v.violations.count;
  hops = v.hops;
}

-- the number of a plan's verdict on an action and its number of violations; a place without one holds zeros
abbrev pub judgement_numbers : Judgement → JudgementNumbers
judgement_numbers j = record { decision = judgement_number j; violations = judgement_value j }

abbrev pub no_judgement : JudgementNumbers
no_judgement = record { decision = 0; violations = 0 }

abbrev pub judgement_list : PlanVerdict → List JudgementNumbers
judgement_list v = filled judgement_numbers no_judgement action_limit v.count v.list

-- a plan: the outcome, the position of the action that stopped it, and the verdicts with their count
abbrev pub plan_answer : PlanVerdict → PlanAnswer
plan_answer v = record {
  accepted = accepted_number v.outcome;
  refusal = refusal_number v.outcome;
  position = v.position;
  list = judgement_list v;
  count = v.count;
}

-- a plan text: the outcome, the failing line, the position of the action that stopped it, and the verdicts with their count
abbrev pub text_judgement_list : PlanTextVerdict → List JudgementNumbers
text_judgement_list v = filled judgement_numbers no_judgement text_action_limit v.count v.list

abbrev pub plan_text_answer : PlanTextVerdict → PlanTextAnswer
plan_text_answer v = record {
  accepted = accepted_number v.outcome;
  refusal = refusal_number v.outcome;
  line = v.line;
  position = v.position;
  list = text_judgement_list v;
  count = v.count;
}

-- a reading: the register or the action, beside its outcome and the line
abbrev pub register_answer : RegisterRead → RegisterAnswer
register_answer r = record {
  state = r.register;
  accepted = accepted_number r.outcome;
  refusal = refusal_number r.outcome;
  line = r.line;
}

abbrev pub action_answer : ActionRead → ActionAnswer
action_answer r = record {
  action = r.action;
  accepted = accepted_number r.outcome;
  refusal = refusal_number r.outcome;
  line = r.line;
}

-- a writing: its outcome and the length of the text
abbrev pub written_answer : Written → WrittenAnswer
written_answer w = record {
  accepted = accepted_number w.outcome;
  refusal = refusal_number w.outcome;
  length = w.length;
}

-- a reading of a JSON action: the action beside its outcome, its kind and its id
abbrev pub json_answer : JsonRead → JsonAnswer
json_answer r = record {
  action = r.action;
  accepted = accepted_number r.outcome;
  refusal = refusal_number r.outcome;
  kind = r.kind;
  len = r.len;
  id = r.id;
}

-- an attach: the book as it leaves it, beside its outcome
abbrev pub attach_answer : Attached → AttachAnswer
attach_answer a = record { book = a.book; accepted = accepted_number a.outcome; refusal = refusal_number a.outcome }

-- a fetch: the fingerprint beside its outcome
abbrev pub fetch_answer : Fetched → FetchAnswer
fetch_answer f = record {
  fingerprint = record { bytes = f.fingerprint };
  accepted = accepted_number f.outcome;
  refusal = refusal_number f.outcome;
}

-- who may make a use: the ids with their count, beside the outcome
abbrev pub holders_answer : Holders → HoldersAnswer
holders_answer h = record {
  accepted = accepted_number h.outcome;
  refusal = refusal_number h.outcome;
  ids = h.ids;
  count = h.count;
}

-- a cover table: what is shown beside its outcome
abbrev pub table_answer : TableShown → TableAnswer
table_answer t = record {
  accepted = accepted_number t.outcome;
  refusal = refusal_number t.outcome;
  owner = t.owner;
  hops = t.hops;
  states = t.states;
  own = t.own;
  owners = t.owners;
}

-- why an actor may make a use or may not: the two reasons as they are told, beside the outcome
abbrev pub use_reason_answer : UseTold → UseReasonAnswer
use_reason_answer t = record {
  accepted = accepted_number t.outcome;
  refusal = refusal_number t.outcome;
  actor = t.actor;
  owner = t.owner;
  owners = t.owners;
}

-- the version of the calls, as the header has it
abbrev pub version_numbers : VersionNumbers
version_numbers = record { major = 3; minor = 5; patch = 0 }
