-- Believed: The first lines of a text.
use Rattle.std.specs.Prelude.{ℕ, zero, suc, List, [], ◌∷◌, cond, eqb}
use Rattle.lines.specs.Lines.{line_feed}

-- the first n lines of a text, each with the LF that ends it; the whole text where it has fewer
unfoldable pub first_lines : ℕ → List ℕ → List ℕ
first_lines zero t = []
first_lines (suc n) [] = []
first_lines (suc n) (b ∷ t) =
    let next = first_lines n t in
    let same = first_lines (suc n) t in
    b ∷ cond (eqb b line_feed) next same
