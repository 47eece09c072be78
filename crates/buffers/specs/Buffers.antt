-- Believed: Writing into a lent buffer from a position on: all of a text, or nothing where it does not fit.
use Rattle.std.specs.Prelude.{ℕ, ◌+◌, List, cond, leb, length}
use Rattle.lists.specs.Lists.{splice}

-- the buffer after a text was put at a position
abbrev pub put : ℕ → List ℕ → List ℕ → List ℕ
put at t old = cond (leb (at + length t) (length old)) (splice at t old) old
