-- The first token at a position of a text, from what stands there. Assumes nothing.
use Rattle.std.proofs.Common.{ℕ, ◌+◌, ◌≤◌, ◌<◌, ◌≡◌, refl, ap, ◌∙◌, List, [], ◌∷◌, true, false, arith, length, get_or, take, drop, drop_of_length-le, length-drop, length-take, drop-drop, eq-eqb, ne_eqb}
use Rattle.lists.specs.Loops.{drop_next}
use Rattle.lists.specs.Lists.{same}
use Rattle.lists.specs.Same.{same_sound}
use Rattle.json_tokens.specs.Tokens.{Token, mark, text, no_token, first, exhausted, is_mark, quote, true_mark, false_mark, true_word, false_word, unblanked, quoted, closing, quote_closed, leading, tokens}
use Rattle.json_tokens.specs.Answers.{part}
use Rattle.json_tokens.specs.Laws.{tokens_first, tokens_exhausted, tokens_nil}

-- a word that stands at a position is within the text
pub word_within : (word s : List ℕ) (i : ℕ) → 0 < length word → same word (take (length word) (drop i s)) ≡ true → i + length word ≤ length s
word_within word s i some e =
    let long : length word ≡ length (take (length word) (drop i s)) = ap length (same_sound word (take (length word) (drop i s)) e) in
    omega (arith, simp (length-take, length-drop) at long)

-- what a text's first byte, or its first bytes, make of its first token
module _ (t u : List ℕ) (b : ℕ) (begun : t ≡ b ∷ u) where
  first_mark : is_mark b ≡ true → leading t ≡ first (mark b) u
  unfolding leading
  first_mark e = rw (begun, e)

  module _ (plain : is_mark b ≡ false) where
    first_quote : b ≡ quote → leading t ≡ quote_closed (quoted u) (closing u)
    unfolding leading
    first_quote e = rw (begun, plain, eq-eqb b quote e)

    module _ (other : b ≡ quote → ⊥) where
      first_true : same true_word (take 4 t) ≡ true → leading t ≡ first (mark true_mark) (drop 4 t)
      unfolding leading
      first_true e = rw (begun, plain, ne_eqb b quote other, rw begun at e)

      module _ (untrue : same true_word (take 4 t) ≡ false) where
        first_false : same false_word (take 5 t) ≡ true → leading t ≡ first (mark false_mark) (drop 5 t)
        unfolding leading
        first_false e = rw (begun, plain, ne_eqb b quote other, rw begun at untrue, rw begun at e)

        first_no_token : same false_word (take 5 t) ≡ false → leading t ≡ first no_token []
        unfolding leading
        first_no_token e = rw (begun, plain, ne_eqb b quote other, rw begun at untrue, rw begun at e)

first_nil : leading [] ≡ exhausted
unfolding leading
first_nil = refl

-- the tokens from `at` on, where `i` is the first position from there that has no blank
module _ (s : List ℕ) (at i : ℕ) (passed : unblanked (drop at s) ≡ drop i s) where
  pub tokens_none : length s ≤ i → tokens (drop at s) ≡ []
  tokens_none h = tokens_exhausted (drop at s) (rw (passed, drop_of_length-le s h) first_nil)

  at_first : (k : Token) (rest : List ℕ) → leading (drop i s) ≡ first k rest → tokens (drop at s) ≡ k ∷ tokens rest
  at_first k rest e = tokens_first (drop at s) k rest (ap leading passed ∙ e)

  module _ (inside : i < length s) where
    pub tokens_mark : is_mark (get_or s i 0) ≡ true → tokens (drop at s) ≡ mark (get_or s i 0) ∷ tokens (drop (i + 1) s)
    tokens_mark e = at_first _ _ (first_mark (drop i s) (drop (i + 1) s) (get_or s i 0) (drop_next s i 0 inside) e)

    module _ (plain : is_mark (get_or s i 0) ≡ false) where
      module _ (opened : get_or s i 0 ≡ quote) (end : ℕ) (ends : closing (drop (i + 1) s) ≡ drop end s) where
        first_quote_closed : leading (drop i s) ≡ quote_closed (quoted (drop (i + 1) s)) (drop end s)
        first_quote_closed = first_quote (drop i s) (drop (i + 1) s) (get_or s i 0) (drop_next s i 0 inside) plain opened ∙ rw ends

        pub tokens_text : quoted (drop (i + 1) s) ≡ part (i + 1) end s → end < length s →
            tokens (drop at s) ≡ text (part (i + 1) end s) ∷ tokens (drop (end + 1) s)
        tokens_text e h = at_first _ _ (first_quote_closed ∙ rw (drop_next s end 0 h, e))

        pub tokens_unclosed : length s ≤ end → tokens (drop at s) ≡ no_token ∷ []
        tokens_unclosed h = at_first no_token [] (first_quote_closed ∙ rw (drop_of_length-le s h)) ∙ rw tokens_nil

      module _ (other : get_or s i 0 ≡ quote → ⊥) where
        pub tokens_true : same true_word (take 4 (drop i s)) ≡ true → tokens (drop at s) ≡ mark true_mark ∷ tokens (drop (i + 4) s)
        tokens_true e = at_first _ _ (first_true (drop i s) (drop (i + 1) s) (get_or s i 0) (drop_next s i 0 inside) plain other e) ∙ rw drop-drop

        module _ (untrue : same true_word (take 4 (drop i s)) ≡ false) where
          pub tokens_false : same false_word (take 5 (drop i s)) ≡ true → tokens (drop at s) ≡ mark false_mark ∷ tokens (drop (i + 5) s)
          tokens_false e =
              at_first _ _ (first_false (drop i s) (drop (i + 1) s) (get_or s i 0) (drop_next s i 0 inside) plain other untrue e) ∙ rw drop-drop

          pub tokens_no_token : same false_word (take 5 (drop i s)) ≡ false → tokens (drop at s) ≡ no_token ∷ []
          tokens_no_token e =
              at_first _ _ (first_no_token (drop i s) (drop (i + 1) s) (get_or s i 0) (drop_next s i 0 inside) plain other untrue e) ∙ rw tokens_nil
