-- Believed: Decimals without leading zeros, as lists of bytes: what a number's text is, and what number a text begins with.
use Rattle.std.specs.Prelude.{ℕ, zero, suc, ◌+◌, ◌-◌, ◌*◌, ◌/◌, ◌%◌, List, [], ◌∷◌, ◌++◌, Bool, true, false, not, cond, ltb, leb, eqb}

-- 48 to 57 are '0' to '9'
abbrev pub is_digit : ℕ → Bool
is_digit b = cond (ltb b 48) false (ltb b 58)

-- the text of n, with fuel
unfoldable pub digits_with : ℕ → ℕ → List ℕ
digits_with zero n = []
digits_with (suc f) n = let more = digits_with f (n / 10) ++ ((48 + n % 10) ∷ []) in cond (ltb n 10) ((48 + n) ∷ []) more

-- the one text of n
unfoldable pub digits : ℕ → List ℕ
digits n = digits_with (suc n) n

-- the longest run of digits at the front, and what follows it
unfoldable pub digit_run : List ℕ → List ℕ
digit_run [] = []
digit_run (b ∷ s) = cond (is_digit b) (b ∷ digit_run s) []

unfoldable pub after : List ℕ → List ℕ
after [] = []
after (b ∷ s) = cond (is_digit b) (after s) (b ∷ s)

-- what digits are worth, behind a number
unfoldable pub value : ℕ → List ℕ → ℕ
value a [] = a
value a (b ∷ s) = value (a * 10 + (b - 48)) s

-- not empty, and no leading zero
unfoldable pub canonical : List ℕ → Bool
canonical [] = false
canonical (b ∷ []) = true
canonical (b ∷ c ∷ s) = not (eqb b 48)

-- a number at the front: one up to the limit, with what follows; one above it; or none
pub data Parsed : Type 0 where
  got : ℕ → List ℕ → Parsed
  large : List ℕ → Parsed
  bad : Parsed

abbrev pub judge : ℕ → ℕ → List ℕ → Parsed
judge greatest n rest = cond (leb n greatest) (got n rest) (large rest)

unfoldable pub parse : ℕ → List ℕ → Parsed
parse greatest t = cond (canonical (digit_run t)) (judge greatest (value 0 (digit_run t)) (after t)) bad
