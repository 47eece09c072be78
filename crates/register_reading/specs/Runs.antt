-- Laws: Numbers read one behind the other by the code: what they are, and where the reading then stands. Assumes nothing.
use Rattle.std.specs.Prelude.{ℕ, ◌+◌, ◌≤◌, ◌≡◌, refl, List, [], ◌∷◌, Bool, true, false, cond, ◌&&◌, leb, length, drop}
use Rattle.std.proofs.Math.Path.{ap}
use Rattle.std.proofs.Common.{◌∙◌, arith, le-leb}
use Rattle.lists.specs.Tests.{cases}
use Rattle.register.specs.Limits.{tells_left}
use Rattle.refusals.specs.declared.Refusal.{Refusal}
use Rattle.refusals.specs.declared.Refusal.TheVariants.{Form}
use Rattle.lines.specs.Reading.{State, going, failed, LineForm, decimal, read_form}
use Rattle.lines.proofs.Laws.{form_bound}
use Rattle.lines.specs.Answers.{FieldSays, state_of}
use Rattle.lines.specs.declared.Cursor.{Cursor}
use Rattle.lines.specs.declared.Reading.{Reading}
use Rattle.text_rules.specs.Records.{values, passed}
use Rattle.text_rules.specs.Registers.{expiry_form, claim_from}
use Rattle.register_reading.specs.Lefts.{left_form, read_left}

-- some numbers, and where the reading of s stands behind them, are what lines of these forms give
pub record Run (s : List ℕ) (forms : List LineForm) (st : State) (numbers : List ℕ) (end : State) : Type 0 where
  pub got : values forms st ≡ numbers
  pub stands : passed forms st ≡ end

pub run_none : (s : List ℕ) (st : State) → Run s [] st [] st
unfolding values passed
run_none s st = record { got = refl; stands = refl }

-- one line in front
pub run_next : (s : List ℕ) (f : LineForm) (forms : List LineForm) (st : State) (r : Reading ℕ) (numbers : List ℕ) (end : State) →
    FieldSays s r (read_form f st) → Run s forms (state_of s r.cursor) numbers end → Run s (f ∷ forms) st (r.value ∷ numbers) end
unfolding values passed
run_next s f forms st r numbers end says run = record {
  got = rw (← says.value, ← says.state) (ap (λ l. r.value ∷ l) run.got);
  stands = rw (← says.state) run.stands;
}

-- a number that was read is at most the greatest
pub field_bound : (s : List ℕ) (key : List ℕ) (least greatest : ℕ) (above : Refusal) (st : State) (r : Reading ℕ) →
    FieldSays s r (read_form (decimal key least greatest above) st) → r.value ≤ greatest
field_bound s key least greatest above st r says = rw says.value (form_bound key least greatest above st)

-- the line of the hands left, where the version has one
module _ (version : ℕ) (s : List ℕ) (st : State) (l : Reading ℕ) (says : FieldSays s l (read_left version st)) where
  left_told : tells_left version ≡ true → FieldSays s l (read_form left_form st)
  unfolding read_left
  left_told t = record {
    value = says.value ∙ ap (λ b. (cond b (read_form left_form st) (record { value = 0; state = st })).value) t;
    state = says.state ∙ ap (λ b. (cond b (read_form left_form st) (record { value = 0; state = st })).state) t;
  }

  left_untold : tells_left version ≡ false → (l.value ≡ 0) × (state_of s l.cursor ≡ st)
  unfolding read_left
  left_untold f = (
    says.value ∙ ap (λ b. (cond b (read_form left_form st) (record { value = 0; state = st })).value) f,
    says.state ∙ ap (λ b. (cond b (read_form left_form st) (record { value = 0; state = st })).state) f,
  )

  -- it stands before that of the expiry
  module _ (e : Reading ℕ) (last : FieldSays s e (read_form expiry_form (state_of s l.cursor))) where
    last_run : Run s (expiry_form ∷ []) (state_of s l.cursor) (e.value ∷ []) (state_of s e.cursor)
    last_run = run_next s expiry_form [] (state_of s l.cursor) e [] (state_of s e.cursor) last (run_none s (state_of s e.cursor))

    pub run_left : Run s (cond (tells_left version) (left_form ∷ expiry_form ∷ []) (expiry_form ∷ [])) st
        (cond (tells_left version) (l.value ∷ e.value ∷ []) (e.value ∷ [])) (state_of s e.cursor)
    run_left =
        cases (tells_left version)
        (λ t. rw t (run_next s left_form (expiry_form ∷ []) st l (e.value ∷ []) (state_of s e.cursor) (left_told t) last_run))
        (λ f. rw (f, ← (left_untold f).1) last_run)

  -- and the claim has what was read as left
  pub claim_told : (id parent grantor holder resource rights weight expiry : ℕ)
      → claim_from version (id ∷ parent ∷ grantor ∷ holder ∷ resource ∷ rights ∷ weight ∷ cond (tells_left version) (l.value ∷ expiry ∷ []) (expiry ∷ []))
      ≡ record {
        id = id;
        parent = parent;
        grantor = grantor;
        holder = holder;
        resource = resource;
        rights = rights;
        weight = weight;
        left = l.value;
        expiry = expiry;
      }
  claim_told id parent grantor holder resource rights weight expiry =
      cases (tells_left version) (λ t. rw t) (λ f. rw (f, (left_untold f).0))

-- a reading begins before the whole text, at line 1
pub run_start : (s : List ℕ) (c : Cursor) → c ≡ record { at = 0; line = 0; on = true; refusal = Form } → state_of s c ≡ going s 1
run_start s c begun = rw (begun, le-leb 0 (length s) (omega arith))

-- whether a reading goes on, and where it stands by that
abbrev pub goes : List ℕ → Cursor → Bool
goes s c = c.on && (leb c.at (length s) && leb c.line c.at)

pub stands_failed : (s : List ℕ) (c : Cursor) → goes s c ≡ false → state_of s c ≡ failed c.refusal c.line
stands_failed s c halted = rw halted

pub stands_going : (s : List ℕ) (c : Cursor) → goes s c ≡ true → state_of s c ≡ going (drop c.at s) (c.line + 1)
stands_going s c on = rw on
