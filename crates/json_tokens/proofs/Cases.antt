-- The definitions of tokens on small texts, yes and no, computed. Assumes nothing.
use Rattle.std.proofs.Common.{◌≡◌, refl, [], ◌∷◌}
use mathlib.Core.List.{flatten}
use Rattle.lists.specs.Bytes.{bytes}
use Rattle.lists.specs.Lists.{same}
use Rattle.json_tokens.specs.Tokens.{mark, text, no_token, quote, opens_object, closes_object, colon, comma, zero_mark, true_mark, false_mark, unblanked, quoted, closing, leading, tokens_with, tokens}
use Rattle.json_tokens.specs.Spelling.{spelled, spelled_all, spaced}

-- an object with every kind of blank in it: SP, `{`, TAB, `"a"`, LF, `:`, CR, `0`, `,`, `"b"`, `:`, `false`, SP, SP, `}`, LF
blank_rich :
    tokens (32 ∷ 123 ∷ 9 ∷ quote ∷ 97 ∷ quote ∷ 10 ∷ 58 ∷ 13 ∷ 48 ∷ 44 ∷ quote ∷ 98 ∷ quote ∷ 58 ∷ 102 ∷ 97 ∷ 108 ∷ 115 ∷ 101 ∷ 32 ∷ 32 ∷ 125 ∷ 10 ∷ [])
    ≡ mark opens_object ∷ text (bytes "a") ∷ mark colon ∷ mark zero_mark ∷ mark comma ∷ text (bytes "b") ∷ mark colon ∷ mark false_mark ∷ mark closes_object ∷ []
unfolding tokens tokens_with leading unblanked quoted closing same
blank_rich = refl

-- no text, and blanks alone, have no tokens; the vertical tab is no blank
nothing : (tokens [] ≡ []) × (tokens (32 ∷ 9 ∷ 10 ∷ 13 ∷ []) ≡ []) × (tokens (11 ∷ 123 ∷ []) ≡ no_token ∷ [])
unfolding tokens tokens_with leading unblanked quoted closing same
nothing = (refl, refl, refl)

-- a text that is closed, one that is not, and the empty one
quotes : (tokens (quote ∷ 97 ∷ quote ∷ []) ≡ text (bytes "a") ∷ []) × (tokens (quote ∷ 97 ∷ []) ≡ no_token ∷ []) × (tokens (quote ∷ quote ∷ []) ≡ text [] ∷ [])
unfolding tokens tokens_with leading unblanked quoted closing same
quotes = (refl, refl, refl)

-- a backslash is a byte as any other: it does not keep the quote behind it from closing the text
backslash : (tokens (quote ∷ 92 ∷ 110 ∷ quote ∷ []) ≡ text (92 ∷ 110 ∷ []) ∷ []) × (tokens (quote ∷ 92 ∷ quote ∷ quote ∷ []) ≡ text (92 ∷ []) ∷ no_token ∷ [])
unfolding tokens tokens_with leading unblanked quoted closing same
backslash = (refl, refl)

-- a word is its bytes, whatever follows: `truex` is `true` and no token; `tru` is none
words : (tokens (bytes "true") ≡ mark true_mark ∷ []) × (tokens (bytes "truex") ≡ mark true_mark ∷ no_token ∷ []) × (tokens (bytes "tru") ≡ no_token ∷ [])
unfolding tokens tokens_with leading unblanked quoted closing same
words = (refl, refl, refl)

-- `00` is 0 twice; there is no other number
numbers : (tokens (bytes "00") ≡ mark zero_mark ∷ mark zero_mark ∷ []) × (tokens (bytes "1") ≡ no_token ∷ []) × (tokens (bytes "-0") ≡ no_token ∷ [])
unfolding tokens tokens_with leading unblanked quoted closing same
numbers = (refl, refl, refl)

-- what is no token ends the tokens
behind_no_token : tokens (bytes "{x}") ≡ mark opens_object ∷ no_token ∷ []
unfolding tokens tokens_with leading unblanked quoted closing same
behind_no_token = refl

-- texts of tokens; more runs of blanks than tokens, and fewer
spellings :
    (spelled_all (mark comma ∷ mark true_mark ∷ text (bytes "a") ∷ []) ≡ 44 ∷ 116 ∷ 114 ∷ 117 ∷ 101 ∷ quote ∷ 97 ∷ quote ∷ [])
    × (spaced (bytes " " ∷ bytes "  " ∷ bytes " " ∷ []) (mark comma ∷ []) ≡ bytes " ,   ")
    × (spaced (bytes " " ∷ []) (mark comma ∷ mark colon ∷ []) ≡ bytes " ,:")
unfolding spelled_all spelled spaced flatten
spellings = (refl, refl, refl)
