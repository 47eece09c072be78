-- Working: What the code's answer says of a text's tokens: the first of `tokens`, and where the others begin.
use Rattle.std.specs.Prelude.{ℕ, ◌+◌, ◌-◌, ◌≤◌, ◌<◌, ◌≡◌, List, [], ◌∷◌, length, take, drop}
use Rattle.json_tokens.specs.Tokens.{Token, mark, text, no_token, tokens}
use Rattle.json_tokens.specs.declared.TokenAt.{TokenAt}
use Rattle.json_tokens.specs.declared.TokenAt.TheVariants.{Mark, Text, End, Bad}

-- the bytes of s from a position up to, not including, another
abbrev pub part : ℕ → ℕ → List ℕ → List ℕ
part from end s = take (end - from) (drop from s)

-- the token at a position of s, and where the next ones begin
abbrev pub TokenSays : List ℕ → ℕ → TokenAt → List Token → Type 0
TokenSays s at (Mark b next) ts = (ts ≡ mark b ∷ tokens (drop next s)) × (at < next) × (next ≤ length s)
TokenSays s at (Text from end) ts = (ts ≡ text (part from end s) ∷ tokens (drop (end + 1) s)) × (at < from) × (from ≤ end) × (end < length s)
TokenSays s at End ts = ts ≡ []
TokenSays s at Bad ts = ts ≡ no_token ∷ []
