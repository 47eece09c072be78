-- Laws: What spelled tokens read as: themselves, with any blanks between them. Assumes nothing.
use Rattle.std.specs.Prelude.{ℕ, ◌≡◌, refl, true, false, not, ◌||◌, eqb, List, [], ◌∷◌, ◌++◌}
use Rattle.std.proofs.Common.{ap, ◌∙◌, eqb-true, append_assoc}
use mathlib.Core.List.{flatten}
use Rattle.std.proofs.lemmas.Bool.{not-true}
use Rattle.lists.specs.Tests.{cases, clash, and_left, and_right, or_other}
use Rattle.lists.specs.Lists.{every, All, same}
use Rattle.json_tokens.specs.Tokens.{Token, mark, text, no_token, first, is_blank, is_mark, quote, true_mark, false_mark, unblanked, quoted, closing, leading, tokens}
use Rattle.json_tokens.specs.Spelling.{spelled, unquoted, Spelt, blanks, spelled_all, spaced}
use Rattle.json_tokens.specs.Laws.{tokens_first, tokens_nil, tokens_unblanked}

-- blanks in front of a text are passed over
pub unblanked_blanks : (w t : List ℕ) → blanks w ≡ true → unblanked (w ++ t) ≡ unblanked t
unfolding unblanked
unblanked_blanks [] t h = refl
unblanked_blanks (b ∷ w) t h = rw (and_left (is_blank b) (blanks w) h) (unblanked_blanks w t (and_right (is_blank b) (blanks w) h))

pub tokens_blanks : (w t : List ℕ) → blanks w ≡ true → tokens (w ++ t) ≡ tokens t
tokens_blanks w t h = tokens_unblanked (w ++ t) t (unblanked_blanks w t h)

-- a text ends at its closing quote, whatever follows that
quoted_text : (x t : List ℕ) → unquoted x ≡ true → quoted ((x ++ (quote ∷ [])) ++ t) ≡ x
unfolding quoted
quoted_text [] t h = refl
quoted_text (b ∷ x) t h =
    let plain : eqb b quote ≡ false = not-true (eqb b quote) (and_left (not (eqb b quote)) (unquoted x) h) in
    rw plain (ap (λ l. b ∷ l) (quoted_text x t (and_right (not (eqb b quote)) (unquoted x) h)))

closing_text : (x t : List ℕ) → unquoted x ≡ true → closing ((x ++ (quote ∷ [])) ++ t) ≡ quote ∷ t
unfolding closing
closing_text [] t h = refl
closing_text (b ∷ x) t h =
    let plain : eqb b quote ≡ false = not-true (eqb b quote) (and_left (not (eqb b quote)) (unquoted x) h) in
    rw plain (closing_text x t (and_right (not (eqb b quote)) (unquoted x) h))

-- a blank is no mark
blank_unmarked : (b : ℕ) → is_blank b ≡ true → is_mark b ≡ false
blank_unmarked b h =
    cases (eqb b 32) (λ e. rw (eqb-true b 32 e))
    (λ n. let nine = or_other (eqb b 32) (eqb b 9 || (eqb b 10 || eqb b 13)) h n in
    cases (eqb b 9) (λ e. rw (eqb-true b 9 e))
    (λ n. let ten = or_other (eqb b 9) (eqb b 10 || eqb b 13) nine n in
    cases (eqb b 10) (λ e. rw (eqb-true b 10 e)) (λ n. rw (eqb-true b 13 (or_other (eqb b 10) (eqb b 13) ten n)))))

marked_unblank : (b : ℕ) → is_mark b ≡ true → is_blank b ≡ false
marked_unblank b h = cases (is_blank b) (λ e. clash (is_mark b) h (blank_unmarked b e)) (λ e. e)

first_mark : (b : ℕ) (t : List ℕ) → Spelt (mark b) → leading (unblanked (spelled (mark b) ++ t)) ≡ first (mark b) t
unfolding spelled leading unblanked same
first_mark b t h =
    cases (eqb b true_mark) (λ e. rw (eqb-true b true_mark e))
    (λ n. cases (eqb b false_mark) (λ e. rw (eqb-true b false_mark e))
    (λ m. let marked : is_mark b ≡ true = cases (is_mark b) (λ e. e) (λ e. clash (eqb b false_mark)
    (or_other (eqb b true_mark) (eqb b false_mark) (or_other (is_mark b) (eqb b true_mark || eqb b false_mark) h e) n) m) in
    rw (n, m, marked_unblank b marked, marked)))

-- the first token of a token's text, whatever follows it, is that token
pub first_spelled : (k : Token) (t : List ℕ) → Spelt k → leading (unblanked (spelled k ++ t)) ≡ first k t
unfolding spelled leading unblanked
first_spelled (mark b) t h = first_mark b t h
first_spelled (text x) t h = rw (quoted_text x t h, closing_text x t h)
first_spelled no_token t h = absurd h

pub tokens_spelled_first : (k : Token) (t : List ℕ) → Spelt k → tokens (spelled k ++ t) ≡ k ∷ tokens t
tokens_spelled_first k t h = tokens_first (spelled k ++ t) k t (first_spelled k t h)

-- tokens' texts, one behind the other, have these tokens
pub tokens_spelled : (ts : List Token) → All Spelt ts → tokens (spelled_all ts) ≡ ts
unfolding spelled_all
tokens_spelled [] h = tokens_nil
tokens_spelled (k ∷ ts) h = tokens_spelled_first k (spelled_all ts) h.0 ∙ ap (λ us. k ∷ us) (tokens_spelled ts h.1)

pub spelled_append : (ts us : List Token) → spelled_all (ts ++ us) ≡ spelled_all ts ++ spelled_all us
unfolding spelled_all
spelled_append [] us = refl
spelled_append (k ∷ ts) us = rw (spelled_append ts us, append_assoc)

-- runs of blanks have no tokens
tokens_runs : (ws : List (List ℕ)) → All (λ w. every is_blank w ≡ true) ws → tokens (flatten ws) ≡ []
unfolding flatten
tokens_runs [] h = tokens_nil
tokens_runs (w ∷ ws) h = tokens_blanks w (flatten ws) h.0 ∙ tokens_runs ws h.1

-- and with blanks in front of any of them and at the end they have the same
pub tokens_spaced : (ws : List (List ℕ)) (ts : List Token) → All (λ w. every is_blank w ≡ true) ws → All Spelt ts → tokens (spaced ws ts) ≡ ts
unfolding spaced
tokens_spaced ws [] h k = tokens_runs ws h
tokens_spaced [] (t ∷ ts) h k = tokens_spelled_first t (spaced [] ts) k.0 ∙ ap (λ us. t ∷ us) (tokens_spaced [] ts h k.1)
tokens_spaced (w ∷ ws) (t ∷ ts) h k =
    tokens_blanks w (spelled t ++ spaced ws ts) h.0
    ∙ tokens_spelled_first t (spaced ws ts) k.0
    ∙ ap (λ us. t ∷ us) (tokens_spaced ws ts h.1 k.1)
