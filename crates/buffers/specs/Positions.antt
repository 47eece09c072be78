-- Working: The position behind a text that is put into a buffer; the buffer is as `put` says, and texts put one behind the other are one text
-- (`Writing` of Laws).
use Rattle.std.specs.Prelude.{List, cond, ℕ, ◌+◌, leb, length}

-- the position behind the text, or the same one where it does not fit
abbrev pub behind : ℕ → List ℕ → List ℕ → ℕ
behind at t old = cond (leb (at + length t) (length old)) (at + length t) at
