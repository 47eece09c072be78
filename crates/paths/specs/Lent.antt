-- Working: What the code asks of two paths as lent: two dots next to each other, without which a path has no `..` component (`paired_clean`), and
-- whether one path is the other or goes on behind it with a slash (`followed`).
use Rattle.std.specs.Prelude.{Bool, false, ◌&&◌, ◌||◌, List, [], ◌∷◌, ℕ, eqb, length, drop}
use Rattle.paths.specs.Containment.{dot, is_empty, starting, slashed}

-- whether a path begins with a dot
abbrev pub dotted : List ℕ → Bool
dotted [] = false
dotted (b ∷ p) = eqb b dot

-- whether two dots stand next to each other anywhere in a path
unfoldable pub paired : List ℕ → Bool
paired [] = false
paired (b ∷ p) = (eqb b dot && dotted p) || paired p

-- whether path q starts with t, and what follows is nothing or begins with a slash
abbrev pub beneath : List ℕ → List ℕ → Bool
beneath t q = starting t q && (is_empty (drop (length t) q) || slashed (drop (length t) q))
