-- Answers put together from numbers that are each the inner answer's. Assumes nothing.
use Rattle.std.specs.Prelude.{◌≡◌, List, ℕ}
use Rattle.std.proofs.Common.{sym}
use Rattle.actions.specs.declared.Verdict.{Verdict}
use Rattle.actions.specs.declared.PlanVerdict.{PlanVerdict}
use Rattle.text_rules.specs.declared.RegisterRead.{RegisterRead}
use Rattle.text_rules.specs.declared.ActionRead.{ActionRead}
use Rattle.json_rules.specs.declared.JsonRead.{JsonRead}
use Rattle.steps.specs.declared.PlanTextVerdict.{PlanTextVerdict}
use Rattle.fingerprints.specs.declared.Attached.{Attached}
use Rattle.fingerprints.specs.declared.Fetched.{Fetched}
use Rattle.reasons.specs.declared.Holders.{Holders}
use Rattle.table_showing.specs.declared.TableShown.{TableShown}
use Rattle.reasons.specs.declared.UseTold.{UseTold}
use Rattle.answers.specs.declared.AttachAnswer.{AttachAnswer}
use Rattle.answers.specs.declared.FetchAnswer.{FetchAnswer}
use Rattle.answers.specs.declared.HoldersAnswer.{HoldersAnswer}
use Rattle.answers.specs.declared.TableAnswer.{TableAnswer}
use Rattle.answers.specs.declared.UseReasonAnswer.{UseReasonAnswer}
use Rattle.answers.specs.declared.ViolationNumbers.{ViolationNumbers}
use Rattle.answers.specs.declared.GateAnswer.{GateAnswer}
use Rattle.answers.specs.declared.JudgementNumbers.{JudgementNumbers}
use Rattle.answers.specs.declared.PlanAnswer.{PlanAnswer}
use Rattle.answers.specs.declared.PlanTextAnswer.{PlanTextAnswer}
use Rattle.answers.specs.declared.RegisterAnswer.{RegisterAnswer}
use Rattle.answers.specs.declared.ActionAnswer.{ActionAnswer}
use Rattle.answers.specs.declared.JsonAnswer.{JsonAnswer}
use Rattle.answers.specs.Answers.{accepted_number, refusal_number, decision_number, stop_number, violation_list, gate_answer, judgement_list, plan_answer, text_judgement_list, plan_text_answer, register_answer, action_answer, json_answer, attach_answer, fetch_answer, holders_answer, use_reason_answer, table_answer}

pub gate_told : {v w : Verdict} {d n : ℕ} {l : List ViolationNumbers} → v ≡ w → d ≡ decision_number v.decision → n ≡ stop_number v.decision
    → l ≡ violation_list v.violations
    → ◌≡◌ {A = GateAnswer} (record { decision = d; refusal = n; violations = l; count = v.violations.count; hops = v.hops }) (gate_answer w)
gate_told same decided stopped violated = rw (sym same, decided, stopped, violated)

pub plan_told : {v w : PlanVerdict} {a n : ℕ} {l : List JudgementNumbers} → v ≡ w → a ≡ accepted_number v.outcome → n ≡ refusal_number v.outcome
    → l ≡ judgement_list v
    → ◌≡◌ {A = PlanAnswer} (record { accepted = a; refusal = n; position = v.position; list = l; count = v.count }) (plan_answer w)
plan_told same accepted refused judged = rw (sym same, accepted, refused, judged)

pub plan_text_told : {v w : PlanTextVerdict} {a n : ℕ} {l : List JudgementNumbers} → v ≡ w → a ≡ accepted_number v.outcome → n ≡ refusal_number v.outcome
    → l ≡ text_judgement_list v
    → ◌≡◌ {A = PlanTextAnswer} (record { accepted = a; refusal = n; line = v.line; position = v.position; list = l; count = v.count }) (plan_text_answer w)
plan_text_told same accepted refused judged = rw (sym same, accepted, refused, judged)

pub register_told : {g h : RegisterRead} {a n : ℕ} → g ≡ h → a ≡ accepted_number g.outcome → n ≡ refusal_number g.outcome
    → ◌≡◌ {A = RegisterAnswer} (record { state = g.register; accepted = a; refusal = n; line = g.line }) (register_answer h)
register_told same accepted refused = rw (sym same, accepted, refused)

pub action_told : {g h : ActionRead} {a n : ℕ} → g ≡ h → a ≡ accepted_number g.outcome → n ≡ refusal_number g.outcome
    → ◌≡◌ {A = ActionAnswer} (record { action = g.action; accepted = a; refusal = n; line = g.line }) (action_answer h)
action_told same accepted refused = rw (sym same, accepted, refused)

pub json_told : {g h : JsonRead} {a n : ℕ} → g ≡ h → a ≡ accepted_number g.outcome → n ≡ refusal_number g.outcome
    → ◌≡◌ {A = JsonAnswer} (record { action = g.action; accepted = a; refusal = n; kind = g.kind; len = g.len; id = g.id }) (json_answer h)
json_told same accepted refused = rw (sym same, accepted, refused)

pub attach_told_lem : {g h : Attached} {a n : ℕ} → g ≡ h → a ≡ accepted_number g.outcome → n ≡ refusal_number g.outcome
    → ◌≡◌ {A = AttachAnswer} (record { book = g.book; accepted = a; refusal = n }) (attach_answer h)
attach_told_lem same accepted refused = rw (sym same, accepted, refused)

pub fetch_told_lem : {g h : Fetched} {a n : ℕ} → g ≡ h → a ≡ accepted_number g.outcome → n ≡ refusal_number g.outcome
    → ◌≡◌ {A = FetchAnswer} (record { fingerprint = record { bytes = g.fingerprint }; accepted = a; refusal = n }) (fetch_answer h)
fetch_told_lem same accepted refused = rw (sym same, accepted, refused)

pub holders_told : {g h : Holders} {a n : ℕ} → g ≡ h → a ≡ accepted_number g.outcome → n ≡ refusal_number g.outcome
    → ◌≡◌ {A = HoldersAnswer} (record { accepted = a; refusal = n; ids = g.ids; count = g.count }) (holders_answer h)
holders_told same accepted refused = rw (sym same, accepted, refused)

pub table_told : {v w : TableShown} {a n : ℕ} → v ≡ w → a ≡ accepted_number v.outcome → n ≡ refusal_number v.outcome
    → ◌≡◌ {A = TableAnswer} (record { accepted = a; refusal = n; owner = v.owner; hops = v.hops; states = v.states; own = v.own; owners = v.owners }) (table_answer w)
table_told same accepted refused = rw (sym same, accepted, refused)

pub use_reason_told : {g h : UseTold} {a n : ℕ} → g ≡ h → a ≡ accepted_number g.outcome → n ≡ refusal_number g.outcome
    → ◌≡◌ {A = UseReasonAnswer} (record { accepted = a; refusal = n; actor = g.actor; owner = g.owner; owners = g.owners }) (use_reason_answer h)
use_reason_told same accepted refused = rw (sym same, accepted, refused)
