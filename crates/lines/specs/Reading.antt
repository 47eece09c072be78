-- Believed: Reading a text line by line: the first failing line decides, and nothing is read behind it.
use Rattle.std.specs.Prelude.{ℕ, ◌+◌, List, [], ◌∷◌}
use Rattle.refusals.specs.declared.Refusal.{Refusal}
use Rattle.refusals.specs.declared.Refusal.TheVariants.{Form, Count}
use Rattle.lines.specs.Lines.{Line, line, beyond, fault, parse_decimal, decimal_line, parse_kind, kind_line, parse_scope}

-- where a reading stands: before the rest of the text, at the line of that number; or failed, with a refusal at a line
pub data State : Type 0 where
  going : List ℕ → ℕ → State
  failed : Refusal → ℕ → State

-- what a reading gives and where it then stands
pub record Read (A : Type 0) : Type 0 where
  pub value : A
  pub state : State

-- the forms of a line that holds a number: a decimal, with its key, the least and the greatest number and the refusal of one above; an
-- actor's kind
pub data LineForm : Type 0 where
  decimal : List ℕ → ℕ → ℕ → Refusal → LineForm
  kind : LineForm

-- a number outside its field's range is not of the form
abbrev pub number : List ℕ → ℕ → ℕ → LineForm
number key least greatest = decimal key least greatest Form

-- a count above its limit has its own refusal
abbrev pub count : List ℕ → ℕ → LineForm
count key limit = decimal key 0 limit Count

-- what a text begins with, by the form
abbrev pub parse_form : LineForm → List ℕ → Line ℕ
parse_form (decimal key least greatest above) t = parse_decimal key least greatest t
parse_form kind t = parse_kind t

abbrev pub above_refusal : LineForm → Refusal
above_refusal (decimal key least greatest above) = above
above_refusal kind = Form

-- the text of a number by the form, and whether the number may stand there
abbrev pub form_line : LineForm → ℕ → List ℕ
form_line (decimal key least greatest above) n = decimal_line key n
form_line kind n = kind_line n

-- a line read, with what stands for its value where it fails
abbrev pub taken : {A : Type 0} → A → Refusal → ℕ → Line A → Read A
taken none above l (line a rest) = record { value = a; state = going rest (l + 1) }
taken none above l beyond = record { value = none; state = failed above l }
taken none above l fault = record { value = none; state = failed Form l }

-- the next line, by the form
abbrev pub read_form : LineForm → State → Read ℕ
read_form f (going t l) = taken 0 (above_refusal f) l (parse_form f t)
read_form f (failed why l) = record { value = 0; state = failed why l }

-- the next line is a path
abbrev pub read_scope : State → Read (List ℕ)
read_scope (going t l) = taken [] Form l (parse_scope t)
read_scope (failed why l) = record { value = []; state = failed why l }

-- trailing bytes fail as the next line
abbrev pub closed : State → State
closed (going [] l) = going [] l
closed (going (b ∷ t) l) = failed Form l
closed (failed why l) = failed why l
