-- What an action's lines say does not depend on the number of the line that they begin at. Assumes nothing.
use Rattle.std.proofs.Common.{ℕ, zero, suc, ◌≡◌, refl, ap, subst, ◌∙◌, List, [], ◌∷◌}
use Rattle.actions.specs.Actions.{use_limit, govern_limit}
use Rattle.lines.specs.Lines.{Line, line, beyond, fault}
use Rattle.lines.specs.Reading.{State, going, failed, Read, LineForm, count, taken, read_form, parse_form, above_refusal}
use Rattle.text_rules.specs.Keys.{uses_key, governs_key}
use Rattle.text_rules.specs.Records.{values, passed, many, section}
use Rattle.text_rules.specs.Actions.{head_forms, use_forms, use_from, read_use, govern_form, read_govern, read_uses, read_governs, read_action}

-- two readings before one text, or that both failed
abbrev Alike : State → State → Type 0
Alike (going t l) (going u m) = t ≡ u
Alike (going t l) (failed why m) = ⊥
Alike (failed why l) (going u m) = ⊥
Alike (failed why l) (failed other m) = Unit {0}

-- two readings that gave one value and are alike
record Level {A : Type 0} (one other : Read A) : Type 0 where
  pub value : one.value ≡ other.value
  pub state : Alike one.state other.state

-- a reading by which alike ones stay so
abbrev Levels : {A : Type 0} → (State → Read A) → Type 0
Levels read = (st su : State) → Alike st su → Level (read st) (read su)

form_level : (f : LineForm) → Levels (read_form f)
form_level f (going t l) (going u m) same = subst (λ (v : List ℕ). Level (read_form f (going t l)) (read_form f (going v m))) same (go (parse_form f t))
  where
    go : (p : Line ℕ) → Level (taken 0 (above_refusal f) l p) (taken 0 (above_refusal f) m p)
    go (line n rest) = record { value = refl; state = refl }
    go beyond = record { value = refl; state = tt }
    go fault = record { value = refl; state = tt }
form_level f (going t l) (failed why m) same = absurd same
form_level f (failed why l) (going u m) same = absurd same
form_level f (failed why l) (failed other m) same = record { value = refl; state = tt }

lines_level : (forms : List LineForm) (st su : State) → Alike st su → (values forms st ≡ values forms su) × Alike (passed forms st) (passed forms su)
unfolding values passed
lines_level [] st su same = (refl, same)
lines_level (f ∷ forms) st su same =
    let one = form_level f st su same in
    let more = lines_level forms (read_form f st).state (read_form f su).state one.state in
    (ap (λ n. n ∷ values forms (read_form f st).state) one.value ∙ ap (λ ns. (read_form f su).value ∷ ns) more.0, more.1)

many_level : {A : Type 0} (read : State → Read A) → Levels read → (n : ℕ) → Levels (many read n)
unfolding many
many_level read each zero st su same = record { value = refl; state = same }
many_level read each (suc n) st su same =
    let one = each st su same in
    let more = many_level read each n (read st).state (read su).state one.state in
    record {
      value = ap (λ a. a ∷ (many read n (read st).state).value) one.value ∙ ap (λ l. (read su).value ∷ l) more.value;
      state = more.state;
    }

section_level : {A : Type 0} (key : List ℕ) (limit : ℕ) (read : State → Read A) → Levels read → Levels (section key limit read)
section_level key limit read each st su same =
    let one = form_level (count key limit) st su same in
    let counted = read_form (count key limit) st in
    let other = read_form (count key limit) su in
    subst (λ (n : ℕ). Level (many read counted.value counted.state) (many read n other.state)) one.value
    (many_level read each counted.value counted.state other.state one.state)

use_level : Levels read_use
use_level st su same = let one = lines_level use_forms st su same in record { value = ap use_from one.0; state = one.1 }

uses_level : Levels read_uses
unfolding read_uses
uses_level = section_level uses_key use_limit read_use use_level

governs_level : Levels read_governs
unfolding read_governs
governs_level = section_level governs_key govern_limit read_govern (form_level govern_form)

action_level : Levels read_action
unfolding read_action
action_level st su same =
    let head = lines_level head_forms st su same in
    let uses = uses_level (passed head_forms st) (passed head_forms su) head.1 in
    let governs = governs_level (read_uses (passed head_forms st)).state (read_uses (passed head_forms su)).state uses.state in
    record { value = rw (head.0, uses.value, governs.value); state = governs.state }

pub action_alike : (t : List ℕ) (l m : ℕ) → (read_action (going t l)).value ≡ (read_action (going t m)).value
action_alike t l m = (action_level (going t l) (going t m) refl).value
