-- Working: What the code's answers say of the number that a text begins with: the position behind it besides. The contract of `read_number` ties them
-- to `parse`.
use Rattle.std.specs.Prelude.{◌≡◌, List, [], ◌∷◌, Bool, false, ℕ, ◌≤◌, length, drop}
use Rattle.decimals.specs.Decimals.{got, bad, is_digit, Parsed, large}
use Rattle.decimals.specs.declared.Number.{Number}
use Rattle.decimals.specs.declared.Number.TheVariants.{Value, Large, Bad}

-- whether a text goes on with a digit
unfoldable pub starts : List ℕ → Bool
starts [] = false
starts (b ∷ s) = is_digit b

-- an answer of the code, over the whole input, says what was parsed
abbrev pub Says : List ℕ → Number → Parsed → Type 0
Says s (Value n next) p = (p ≡ got n (drop next s)) × (next ≤ length s)
Says s (Large next) p = (p ≡ large (drop next s)) × (next ≤ length s)
Says s Bad p = p ≡ bad
