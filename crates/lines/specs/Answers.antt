-- Working: What the code's answers say of a text: where a cursor stands, and what was read. The contracts of reading tie them to `read_form` and
-- `read_scope`.
use Rattle.std.specs.Prelude.{ℕ, ◌≤◌, ◌<◌, ◌+◌, ◌≡◌, List, cond, ◌&&◌, Option, Some, None, length, drop, leb}
use Rattle.refusals.specs.declared.Refusal.TheVariants.{Form}
use Rattle.lines.specs.Lines.{Line, line, beyond, fault, parse_word, action_step, action_step_line, plan_step, plan_step_line, held_path}
use Rattle.lines.specs.Reading.{Read, failed, State, going, taken}
use Rattle.lines.specs.declared.LineRead.{LineRead}
use Rattle.lines.specs.declared.LineRead.TheVariants.{Value, Over, Fault}
use Rattle.lines.specs.declared.PathRead.{PathRead}
use Rattle.lines.specs.declared.Reading.{Reading}
use Rattle.lines.specs.declared.Scope.{Scope}
use Rattle.lines.specs.declared.Cursor.{Cursor}

-- the next line is of one of two words, each with its number
abbrev pub read_word : List ℕ → ℕ → List ℕ → ℕ → State → Read ℕ
read_word first one second other (going t l) = taken 0 Form l (parse_word first one second other t)
read_word first one second other (failed why l) = record { value = 0; state = failed why l }

-- the next line is that of a step
abbrev pub read_step : State → Read ℕ
read_step st = read_word action_step_line action_step plan_step_line plan_step st

-- a reading by the code: it goes on where it is on and stands within the text, with no more lines than bytes behind it
abbrev pub state_of : List ℕ → Cursor → State
state_of s c =
    cond (c.on && (leb c.at (length s) && leb c.line c.at)) (going (drop c.at s) (c.line + 1)) (failed c.refusal c.line)

-- the code's answer for a line that begins at a position of s
abbrev pub LineSays : List ℕ → ℕ → LineRead → Line ℕ → Type 0
LineSays s at (Value n next) p = (p ≡ line n (drop next s)) × (next ≤ length s) × (at < next)
LineSays s at Over p = p ≡ beyond
LineSays s at Fault p = p ≡ fault

-- the code's answer for a path that begins at a position of s
unfoldable pub PathSays : List ℕ → ℕ → Option PathRead → Line (List ℕ) → Type 0
PathSays s at (Some r) (line p rest) = (r.path ≡ held_path p) × (r.len ≡ length p) × (rest ≡ drop r.next s) × (r.next ≤ length s) × (at < r.next)
PathSays s at (Some r) beyond = ⊥
PathSays s at (Some r) fault = ⊥
PathSays s at None (line p rest) = ⊥
PathSays s at None beyond = ⊥
PathSays s at None fault = Unit {0}

-- the code's answer for a number and for a path, and where the reading of s then stands
pub record FieldSays (s : List ℕ) (r : Reading ℕ) (read : Read ℕ) : Type 0 where
  pub value : r.value ≡ read.value
  pub state : state_of s r.cursor ≡ read.state

pub record ScopeSays (s : List ℕ) (r : Scope) (read : Read (List ℕ)) : Type 0 where
  pub path : r.path ≡ held_path read.value
  pub len : r.len ≡ length read.value
  pub state : state_of s r.cursor ≡ read.state
