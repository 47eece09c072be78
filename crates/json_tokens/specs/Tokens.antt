-- Believed: The tokens of a JSON text without escapes: marks, words and texts in quotes, with blanks around any of them.
use Rattle.std.specs.Prelude.{ℕ, zero, suc, List, [], ◌∷◌, Bool, cond, ◌||◌, length, take, drop, eqb}
use Rattle.lists.specs.Bytes.{bytes}
use Rattle.lists.specs.Lists.{same}

-- a token: a mark, by its byte; a text, without its quotes; or what is no token, behind which nothing is looked at
pub data Token : Type 0 where
  mark : ℕ → Token
  text : List ℕ → Token
  no_token : Token

-- the marks
abbrev pub opens_object : ℕ
opens_object = 123

abbrev pub closes_object : ℕ
closes_object = 125

abbrev pub opens_list : ℕ
opens_list = 91

abbrev pub closes_list : ℕ
closes_list = 93

abbrev pub colon : ℕ
colon = 58

abbrev pub comma : ℕ
comma = 44

-- the number 0, and the two words by their first bytes
abbrev pub zero_mark : ℕ
zero_mark = 48

abbrev pub true_mark : ℕ
true_mark = 116

abbrev pub false_mark : ℕ
false_mark = 102

abbrev pub true_word : List ℕ
true_word = bytes "true"

abbrev pub false_word : List ℕ
false_word = bytes "false"

-- the byte around a text
abbrev pub quote : ℕ
quote = 34

-- space, tab, LF, CR
abbrev pub is_blank : ℕ → Bool
is_blank b = eqb b 32 || (eqb b 9 || (eqb b 10 || eqb b 13))

-- whether a byte is a mark by itself
abbrev pub is_mark : ℕ → Bool
is_mark b =
    eqb b opens_object
    || (eqb b closes_object || (eqb b opens_list || (eqb b closes_list || (eqb b colon || (eqb b comma || eqb b zero_mark)))))

-- a text without the blanks at its front
unfoldable pub unblanked : List ℕ → List ℕ
unblanked [] = []
unblanked (b ∷ t) = cond (is_blank b) (unblanked t) (b ∷ t)

-- the bytes up to the next quote, and what begins with that quote
unfoldable pub quoted : List ℕ → List ℕ
quoted [] = []
quoted (b ∷ t) = cond (eqb b quote) [] (b ∷ quoted t)

unfoldable pub closing : List ℕ → List ℕ
closing [] = []
closing (b ∷ t) = cond (eqb b quote) (b ∷ t) (closing t)

-- the first token of a text, with what follows it; or the text's end
pub data FirstToken : Type 0 where
  first : Token → List ℕ → FirstToken
  exhausted : FirstToken

-- a text in quotes ends with a quote
abbrev pub quote_closed : List ℕ → List ℕ → FirstToken
quote_closed inside [] = first no_token []
quote_closed inside (q ∷ t) = first (text inside) t

-- the first token of a text that begins with no blank
unfoldable pub leading : List ℕ → FirstToken
leading [] = exhausted
leading (b ∷ t) =
    cond (is_mark b) (first (mark b) t)
    (cond (eqb b quote) (quote_closed (quoted t) (closing t))
    (cond (same true_word (take 4 (b ∷ t))) (first (mark true_mark) (drop 4 (b ∷ t)))
    (cond (same false_word (take 5 (b ∷ t))) (first (mark false_mark) (drop 5 (b ∷ t))) (first no_token []))))

-- a token, and those of what follows it
abbrev pub with_rest : (List ℕ → List Token) → FirstToken → List Token
with_rest more (first k t) = k ∷ more t
with_rest more exhausted = []

-- the tokens of a text, with fuel
unfoldable pub tokens_with : ℕ → List ℕ → List Token
tokens_with zero t = []
tokens_with (suc f) t = with_rest (tokens_with f) (leading (unblanked t))

-- the tokens of a text: each takes a byte at least
unfoldable pub tokens : List ℕ → List Token
tokens t = tokens_with (suc (length t)) t
