-- The definitions of tokens at a position of a text: what one byte more makes of them. Assumes nothing.
use Rattle.std.proofs.Common.{ℕ, suc, ◌+◌, ◌-◌, ◌≤◌, ◌<◌, ◌≡◌, ◌∙◌, List, [], ◌∷◌, ◌++◌, append_assoc, append-nil, true, false, arith, length, get_or, drop, drop_of_length-le, length-drop, take-suc, get_or-drop, eq-eqb, ne_eqb}
use Rattle.lists.specs.Loops.{drop_next}
use Rattle.json_tokens.specs.Tokens.{is_blank, quote, unblanked, quoted, closing}
use Rattle.json_tokens.specs.Answers.{part}

-- one byte more of a part
pub part_next : (s : List ℕ) (at i : ℕ) → at ≤ i → i < length s → part at (i + 1) s ≡ part at i s ++ (get_or s i 0 ∷ [])
part_next s at i h k =
    let count : i + 1 - at ≡ suc (i - at) = omega arith in
    let place : at + (i - at) ≡ i = omega arith in
    rw (count, take-suc (drop at s) (i - at) 0 (simp length-drop (omega arith)), get_or-drop, place)

module _ (s : List ℕ) (i : ℕ) where
  pub unblanked_blank : i < length s → is_blank (get_or s i 0) ≡ true → unblanked (drop i s) ≡ unblanked (drop (i + 1) s)
  unfolding unblanked
  unblanked_blank h e = rw (drop_next s i 0 h, e)

  pub unblanked_stop : i < length s → is_blank (get_or s i 0) ≡ false → unblanked (drop i s) ≡ drop i s
  unfolding unblanked
  unblanked_stop h e = rw (drop_next s i 0 h, e)

  pub unblanked_end : length s ≤ i → unblanked (drop i s) ≡ drop i s
  unfolding unblanked
  unblanked_end h = rw (drop_of_length-le s h)

  -- up to a quote, at it, and at the end
  pub closing_next : i < length s → (get_or s i 0 ≡ quote → ⊥) → closing (drop i s) ≡ closing (drop (i + 1) s)
  unfolding closing
  closing_next h e = rw (drop_next s i 0 h, ne_eqb _ _ e)

  pub closing_stop : i < length s → get_or s i 0 ≡ quote → closing (drop i s) ≡ drop i s
  unfolding closing
  closing_stop h e = rw (drop_next s i 0 h, eq-eqb _ _ e)

  pub closing_end : length s ≤ i → closing (drop i s) ≡ drop i s
  unfolding closing
  closing_end h = rw (drop_of_length-le s h)

  module _ (at : ℕ) (behind : at ≤ i) (upto : quoted (drop at s) ≡ part at i s ++ quoted (drop i s)) where
    pub quoted_next : i < length s → (get_or s i 0 ≡ quote → ⊥) → quoted (drop at s) ≡ part at (i + 1) s ++ quoted (drop (i + 1) s)
    unfolding quoted
    quoted_next h e =
        let byte : quoted (drop i s) ≡ get_or s i 0 ∷ quoted (drop (i + 1) s) = rw (drop_next s i 0 h, ne_eqb _ _ e) in
        upto ∙ rw (byte, part_next s at i behind h, append_assoc)

    pub quoted_stop : i < length s → get_or s i 0 ≡ quote → quoted (drop at s) ≡ part at i s
    unfolding quoted
    quoted_stop h e =
        let none : quoted (drop i s) ≡ [] = rw (drop_next s i 0 h, eq-eqb _ _ e) in
        upto ∙ rw none (append-nil _)

    pub quoted_end : length s ≤ i → quoted (drop at s) ≡ part at i s
    unfolding quoted
    quoted_end h =
        let none : quoted (drop i s) ≡ [] = rw (drop_of_length-le s h) in
        upto ∙ rw none (append-nil _)
