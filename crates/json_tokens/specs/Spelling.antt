-- Believed: How tokens are spelled: each one's text, one behind the other, with blanks in front of any of them and at the end.
use Rattle.std.specs.Prelude.{ℕ, ◌≡◌, Bool, true, not, cond, ◌||◌, eqb, List, [], ◌∷◌, ◌++◌}
use mathlib.Core.List.{flatten}
use Rattle.lists.specs.Lists.{every}
use Rattle.json_tokens.specs.Tokens.{Token, mark, text, no_token, is_blank, is_mark, quote, true_mark, false_mark, true_word, false_word}

-- a token's text
unfoldable pub spelled : Token → List ℕ
spelled (mark b) = cond (eqb b true_mark) true_word (cond (eqb b false_mark) false_word (b ∷ []))
spelled (text x) = quote ∷ (x ++ (quote ∷ []))
spelled no_token = []

-- whether a text has no quote
abbrev pub unquoted : List ℕ → Bool
unquoted = every (λ b. not (eqb b quote))

-- which tokens have a text: the marks and the words, and every text without a quote
abbrev pub Spelt : Token → Type 0
Spelt (mark b) = is_mark b || (eqb b true_mark || eqb b false_mark) ≡ true
Spelt (text x) = unquoted x ≡ true
Spelt no_token = ⊥

-- whether a text is blank
abbrev pub blanks : List ℕ → Bool
blanks = every is_blank

-- the tokens' texts one behind the other
unfoldable pub spelled_all : List Token → List ℕ
spelled_all [] = []
spelled_all (k ∷ ts) = spelled k ++ spelled_all ts

-- the same, each with the next run of blanks in front of it as long as there are any, and the runs that are left at the end
unfoldable pub spaced : List (List ℕ) → List Token → List ℕ
spaced ws [] = flatten ws
spaced [] (k ∷ ts) = spelled k ++ spaced [] ts
spaced (w ∷ ws) (k ∷ ts) = w ++ (spelled k ++ spaced ws ts)
