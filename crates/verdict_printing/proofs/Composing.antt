-- What is printed, by what the code found: the readings and the gate's verdict. Assumes nothing.
use Rattle.std.proofs.Common.{Result, Err, Ok, ℕ, ◌≤◌, ◌≡◌, sym, ap, ◌∙◌, Bool, true, false, List, length}
use Rattle.register.specs.declared.Register.{Register}
use Rattle.refusals.specs.declared.Refusal.{Refusal}
use Rattle.refusals.specs.declared.Refusal.TheVariants.{Unsound}
use Rattle.soundness_rules.specs.Sound.{sound}
use Rattle.actions.specs.Actions.{violation_limit}
use Rattle.actions.specs.declared.Action.{Action}
use Rattle.actions.specs.declared.Verdict.{Verdict}
use Rattle.gate_rules.specs.Gate.{gated}
use Rattle.lines.specs.Reading.{State, going, failed, closed}
use Rattle.text_rules.specs.Registers.{register_ending, register_from, register_read}
use Rattle.text_rules.specs.Actions.{action_read}
use Rattle.text_rules.specs.declared.RegisterRead.{RegisterRead}
use Rattle.verdict_printing.specs.Printed.{stopped_text, verdict_text, unless_refused, printed, printed_limit, clock_read, clock_lines, json_printed}
use Rattle.verdict_printing.specs.Shared.{lines_by, printed_by}
use Rattle.verdict_printing.proofs.Lengths.{gated_fitting}

-- the gate's verdict fits
pub judged_fits : (r : Register) (a : Action) (v : Verdict) → v ≡ gated r a → (length (verdict_text v) ≤ printed_limit) × (v.violations.count ≤ violation_limit)
judged_fits r a v e = let fit = gated_fitting r a in rw e (fit.text, fit.few)

-- a text that is read, and one that is refused
pub lines_accepted : (stopped : Refusal → List ℕ) (lines : List ℕ) {o : Result Unit Refusal} → o ≡ Ok tt → unless_refused stopped o lines ≡ lines
lines_accepted stopped lines e = ap (λ o. unless_refused stopped o lines) e

pub lines_refused : (stopped : Refusal → List ℕ) (lines : List ℕ) (why : Refusal) {o : Result Unit Refusal} → o ≡ Err why → unless_refused stopped o lines ≡ stopped why
lines_refused stopped lines why e = ap (λ o. unless_refused stopped o lines) e

-- the answer of a reading, by the register that the lines say and where the reading ended
module _ (t : List ℕ) {r : Register} {st : State} (of-register : r ≡ (register_from t).value) (of-state : st ≡ (register_from t).state) where
  ended : register_ending r st ≡ register_read t
  unfolding register_read
  ended = rw (of-register, of-state)

  pub failed_answer : {why : Refusal} {l : ℕ} → st ≡ failed why l → (register_read t).outcome ≡ Err why
  failed_answer e = ap (λ (a : RegisterRead). a.outcome) (sym ended ∙ ap (register_ending r) e)

  module _ {u : List ℕ} {l : ℕ} (goes : st ≡ going u l) where
    pub unsound_answer : sound r ≡ false → (register_read t).outcome ≡ Err Unsound
    unsound_answer h =
        let told : (register_ending r (going u l)).outcome ≡ Err Unsound = rw h in
        ap (λ (a : RegisterRead). a.outcome) (sym ended ∙ ap (register_ending r) goes) ∙ told

    pub sound_answer : sound r ≡ true → record { register = r; outcome = Ok tt; line = 0 } ≡ register_read t
    sound_answer h =
        let told : register_ending r (going u l) ≡ record { register = r; outcome = Ok tt; line = 0 } = rw h in
        sym (sym ended ∙ ap (register_ending r) goes ∙ told)

-- what is printed of an action that was read, or refused
abbrev pub posed_text : Register → Result Unit Refusal → Action → List ℕ
posed_text r o a = unless_refused stopped_text o (verdict_text (gated r a))

-- a register before an action
module _ (t action : List ℕ) where
  pub accepted_printed : {r : Register} → (register_read t).outcome ≡ Ok tt → r ≡ (register_read t).register
      → printed t action ≡ posed_text r (action_read action).outcome (action_read action).action
  unfolding printed
  accepted_printed e same = lines_accepted stopped_text _ e ∙ ap (λ r. posed_text r (action_read action).outcome (action_read action).action) (sym same)

  pub refused_printed : (why : Refusal) → (register_read t).outcome ≡ Err why → printed t action ≡ stopped_text why
  unfolding printed
  refused_printed why e = lines_refused stopped_text _ why e

-- a clock that is read, and one that fails, by where its reading ends
module _ (r : Register) (clock action : List ℕ) where
  pub clock_failed : (why : Refusal) (l : ℕ) → closed (clock_read clock).state ≡ failed why l
      → clock_lines r (closed (clock_read clock).state) (clock_read clock).value action ≡ stopped_text why
  clock_failed why l e = ap (λ (st : State). clock_lines r st (clock_read clock).value action) e

-- a register before a clock and a JSON action
module _ (t clock action : List ℕ) where
  pub accepted_json : {r : Register} → (register_read t).outcome ≡ Ok tt → r ≡ (register_read t).register
      → json_printed t clock action ≡ clock_lines r (closed (clock_read clock).state) (clock_read clock).value action
  unfolding json_printed
  accepted_json e same =
      lines_accepted stopped_text _ e ∙ ap (λ r. clock_lines r (closed (clock_read clock).state) (clock_read clock).value action) (sym same)

  pub stopped_json : (why : Refusal) → (register_read t).outcome ≡ Err why → json_printed t clock action ≡ stopped_text why
  unfolding json_printed
  stopped_json why e = lines_refused stopped_text _ why e

-- a register before either
pub accepted_by : (json : Bool) (t clock action : List ℕ) {r : Register} → (register_read t).outcome ≡ Ok tt → r ≡ (register_read t).register
    → printed_by json t clock action ≡ lines_by json r clock action
accepted_by true t clock action e same = accepted_json t clock action e same
accepted_by false t clock action e same = accepted_printed t action e same

pub refused_by : (json : Bool) (t clock action : List ℕ) (why : Refusal) → (register_read t).outcome ≡ Err why → printed_by json t clock action ≡ stopped_text why
refused_by true t clock action why e = stopped_json t clock action why e
refused_by false t clock action why e = refused_printed t action why e
