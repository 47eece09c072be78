-- Believed: Things whose text is some lines one behind the other, and lists of them: how they are read and what their text is.
use Rattle.std.specs.Prelude.{ℕ, zero, suc, List, [], ◌∷◌, ◌++◌, length}
use Rattle.lines.specs.Reading.{State, Read, LineForm, count, read_form, form_line}

-- the numbers of lines of these forms, one behind the other, and where the reading then stands
unfoldable pub values : List LineForm → State → List ℕ
values [] st = []
values (f ∷ forms) st = (read_form f st).value ∷ values forms (read_form f st).state

unfoldable pub passed : List LineForm → State → State
passed [] st = st
passed (f ∷ forms) st = passed forms (read_form f st).state

-- the text of numbers, a line for each, and whether each may stand there
unfoldable pub lines_text : List LineForm → List ℕ → List ℕ
lines_text [] numbers = []
lines_text (f ∷ forms) [] = []
lines_text (f ∷ forms) (n ∷ numbers) = form_line f n ++ lines_text forms numbers

-- n things, one behind the other, each as `read` reads it
unfoldable pub many : {A : Type 0} → (State → Read A) → ℕ → State → Read (List A)
many read zero st = record { value = []; state = st }
many read (suc n) st =
    let one = read st in
    let more = many read n one.state in
    record { value = one.value ∷ more.value; state = more.state }

-- the texts of things, one behind the other
unfoldable pub texts : {A : Type 0} → (A → List ℕ) → List A → List ℕ
texts text [] = []
texts text (a ∷ things) = text a ++ texts text things

-- a count line and that many things
abbrev pub section : {A : Type 0} → List ℕ → ℕ → (State → Read A) → State → Read (List A)
section key limit read st = let counted = read_form (count key limit) st in many read counted.value counted.state

abbrev pub section_text : {A : Type 0} → List ℕ → ℕ → (A → List ℕ) → List A → List ℕ
section_text key limit text things = form_line (count key limit) (length things) ++ texts text things
