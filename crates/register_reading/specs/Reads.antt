-- Working: What the code's answers say of a reading of s: they are the value and the state that a reading gives, as `register_from` has them.
use Rattle.std.specs.Prelude.{◌≡◌, ◌≤◌, ◌-◌, ◌++◌, List, ℕ, length, replicate}
use Rattle.lines.specs.Reading.{Read}
use Rattle.lines.specs.declared.Cursor.{Cursor}
use Rattle.lines.specs.Answers.{state_of}

-- the value that was read, and where the reading then stands
pub record Reads {A : Type 0} (s : List ℕ) (value : A) (cursor : Cursor) (read : Read A) : Type 0 where
  pub got : value ≡ read.value
  pub stands : state_of s cursor ≡ read.state

-- the things that were read stand in front in an array of that size, as many as the count says, and where the reading then stands
pub record Fills {A : Type 0} (s : List ℕ) (size : ℕ) (none : A) (list : List A) (count : ℕ) (cursor : Cursor) (read : Read (List A)) : Type 0 where
  pub few : count ≤ size
  pub counted : count ≡ length read.value
  pub filled : list ≡ read.value ++ replicate (size - length read.value) none
  pub stands : state_of s cursor ≡ read.state
