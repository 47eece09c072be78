-- The array holds the `len` bytes of the path so far, with zeros behind them, and the path from `at` on is the path from `i` on behind those.
use Rattle.std.proofs.Common.{ℕ, ◌-◌, ◌≤◌, ◌≡◌, List, [], ◌++◌, length, drop, replicate}
use Rattle.lines.specs.Lines.{path_on}
use Rattle.lines.proofs.read_path.Given as goal

abbrev pub invariant-loop-i : goal.invariant-loop-i
invariant-loop-i l =
    (l.len ≤ 64) × ((p : List ℕ) × (length p ≡ l.len) × (l.path ≡ p ++ replicate (64 - l.len) 0) × (path_on [] (drop l.at l.s) ≡ path_on p (drop l.i l.s)))
