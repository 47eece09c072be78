-- Laws: Where a reading stands: from its line 1 on it goes on, or has failed at a line from 1 with one of the refusals that its lines have; and where one
-- stood that was closed. Assumes nothing.
use Rattle.std.specs.Prelude.{ℕ, zero, suc, ◌≤◌, ◌≡◌, List, [], ◌∷◌}
use Rattle.std.proofs.Common.{ap, arith}
use Rattle.lists.specs.Lists.{All}
use Rattle.actions.specs.Actions.{use_limit, govern_limit}
use Rattle.refusals.specs.declared.Refusal.{Refusal}
use Rattle.refusals.specs.declared.Refusal.TheVariants.{Form, Count}
use Rattle.lines.specs.Lines.{Line, line, beyond, fault, parse_scope}
use Rattle.lines.specs.Reading.{State, going, failed, Read, LineForm, count, taken, read_form, parse_form, above_refusal, read_scope, closed}
use Rattle.text_rules.specs.Keys.{uses_key, governs_key}
use Rattle.text_rules.specs.Records.{passed, many, section}
use Rattle.text_rules.specs.Actions.{head_forms, use_forms, govern_form, read_use, read_govern, read_uses, read_governs, read_action}

-- two readings at one place have one text before them
pub going_same : (t u : List ℕ) (l m : ℕ) → going t l ≡ going u m → t ≡ u
going_same t u l m e = cc

-- a reading that was closed and goes on stood at the end of the text
pub closed_going : (st : State) (t : List ℕ) (l : ℕ) → closed st ≡ going t l → st ≡ going [] l
closed_going (going [] m) t l h = let same : m ≡ l = cc in ap (going []) same
closed_going (going (b ∷ u) m) t l h = let never : ◌≡◌ {A = ℕ} 0 1 = cc in absurd (omega arith)
closed_going (failed why m) t l h = let never : ◌≡◌ {A = ℕ} 0 1 = cc in absurd (omega arith)

-- a reading that stands at a line from 1, or failed there with a refusal of the kind
abbrev pub Told : (Refusal → Type 0) → State → Type 0
Told Q (going t l) = 1 ≤ l
Told Q (failed why l) = (1 ≤ l) × Q why

-- the lines of a text fail with the form's refusal and with that of counts
module _ (Q : Refusal → Type 0) (form : Q Form) (many-counted : Q Count) where
  -- a reading that stays so
  abbrev Tells : {A : Type 0} → (State → Read A) → Type 0
  Tells read = (st : State) → Told Q st → Told Q (read st).state

  taken_told : {A : Type 0} (none : A) (above : Refusal) (l : ℕ) (p : Line A) → Q above → 1 ≤ l → Told Q (taken none above l p).state
  taken_told none above l (line a rest) h from = omega arith
  taken_told none above l beyond h from = (from, h)
  taken_told none above l fault h from = (from, form)

  pub form_told : (f : LineForm) → Q (above_refusal f) → Tells (read_form f)
  form_told f h (going t l) told = taken_told 0 (above_refusal f) l (parse_form f t) h told
  form_told f h (failed why l) told = told

  pub scope_told : Tells read_scope
  scope_told (going t l) told = taken_told [] Form l (parse_scope t) form told
  scope_told (failed why l) told = told

  pub passed_told : (forms : List LineForm) → All (λ f. Q (above_refusal f)) forms → (st : State) → Told Q st → Told Q (passed forms st)
  unfolding passed
  passed_told [] h st told = told
  passed_told (f ∷ forms) h st told = passed_told forms h.1 (read_form f st).state (form_told f h.0 st told)

  many_told : {A : Type 0} (read : State → Read A) → Tells read → (n : ℕ) → Tells (many read n)
  unfolding many
  many_told read each zero st told = told
  many_told read each (suc n) st told = many_told read each n (read st).state (each st told)

  pub section_told : {A : Type 0} (key : List ℕ) (limit : ℕ) (read : State → Read A) → Tells read → Tells (section key limit read)
  section_told key limit read each st told =
      let counted = read_form (count key limit) st in
      many_told read each counted.value counted.state (form_told (count key limit) many-counted st told)

  pub closed_told : (st : State) → Told Q st → Told Q (closed st)
  closed_told (going [] l) told = told
  closed_told (going (b ∷ t) l) told = (told, form)
  closed_told (failed why l) told = told

  pub action_lines_told : Tells read_action
  unfolding read_action read_uses read_governs
  action_lines_told st told =
      let uses = read_uses (passed head_forms st) in
      section_told governs_key govern_limit read_govern (form_told govern_form form) uses.state
      (section_told uses_key use_limit read_use (passed_told use_forms (form, (form, tt))) (passed head_forms st)
      (passed_told head_forms (form, (form, (form, tt))) st told))
