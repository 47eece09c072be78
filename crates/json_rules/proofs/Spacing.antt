-- A text all of whose tokens have a text is these texts, one behind the other, with runs of blanks
-- between them: so an accepted text is a spelling of its members. Assumes nothing.
use Rattle.std.proofs.Common.{ℕ, zero, suc, ◌<◌, ◌≡◌, refl, sym, ap, ◌∙◌, true, cond, List, [], ◌∷◌, ◌++◌, append_assoc, arith, eqb-true, eqb, length, take, drop, take-append-drop}
use mathlib.Core.List.{flatten}
use Rattle.lists.specs.Tests.{cases, clash}
use Rattle.lists.specs.Lists.{All, same}
use Rattle.lists.specs.Each.{cons_clash}
use Rattle.lists.specs.Same.{same_sound}
use Rattle.json_tokens.specs.Tokens.{Token, mark, FirstToken, first, exhausted, is_blank, is_mark, quote, true_mark, false_mark, true_word, false_word, unblanked, quoted, closing, quote_closed, leading, tokens}
use Rattle.json_tokens.specs.Spelling.{Spelt, blanks, spelled, spaced}
use Rattle.json_tokens.specs.Laws.{first_cases, tokens_first, tokens_exhausted, tokens_shorter}

-- the blanks at the front of a text
abbrev blank : List ℕ → List ℕ
blank [] = []
blank (b ∷ t) = let more = b ∷ blank t in cond (is_blank b) more []

blank_blanks : (t : List ℕ) → blanks (blank t) ≡ true
blank_blanks [] = refl
blank_blanks (b ∷ t) = cases (is_blank b) (λ e. rw (e, e, blank_blanks t)) (λ e. rw e)

blank_front : (t : List ℕ) → t ≡ blank t ++ unblanked t
unfolding unblanked
blank_front [] = refl
blank_front (b ∷ t) = cases (is_blank b) (λ e. rw e (ap (λ l. b ∷ l) (blank_front t))) (λ e. rw e)

-- a text in quotes is what stands up to the closing quote
quoted_closing : (u : List ℕ) → u ≡ quoted u ++ closing u
unfolding quoted closing
quoted_closing [] = refl
quoted_closing (b ∷ u) = cases (eqb b quote) (λ e. rw e) (λ e. rw e (ap (λ l. b ∷ l) (quoted_closing u)))

closing_quote : (u : List ℕ) (q : ℕ) (v : List ℕ) → closing u ≡ q ∷ v → q ≡ quote
unfolding closing
closing_quote [] q v h = cons_clash (sym h)
closing_quote (b ∷ u) q v h =
    cases (eqb b quote)
    (λ e. let here : b ≡ q = cc (rw e at h) in sym here ∙ eqb-true b quote e)
    (λ e. closing_quote u q v (rw e at h))

-- a mark by itself is none of the two words
mark_spelled : (b : ℕ) → is_mark b ≡ true → spelled (mark b) ≡ b ∷ []
unfolding spelled
mark_spelled b h =
    cases (eqb b true_mark) (λ e. clash true refl (sym h ∙ rw (eqb-true b true_mark e)))
    (λ n. cases (eqb b false_mark) (λ e. clash true refl (sym h ∙ rw (eqb-true b false_mark e))) (λ m. rw (n, m)))

-- a first token that has a text: the text is its text and what follows
abbrev Leads : List ℕ → FirstToken → Type 0
Leads t (first k rest) = Spelt k → t ≡ spelled k ++ rest
Leads t exhausted = t ≡ []

closed_leads : (u v : List ℕ) → closing u ≡ v → Leads (quote ∷ u) (quote_closed (quoted u) v)
unfolding spelled
closed_leads u [] h = λ never. absurd never
closed_leads u (q ∷ v) h = λ plain.
    let ended : q ≡ quote = closing_quote u q v h in
    ap (λ l. quote ∷ l) (quoted_closing u ∙ ap (λ l. quoted u ++ l) (h ∙ ap (λ b. b ∷ v) ended) ∙ sym (append_assoc (quoted u) (quote ∷ []) v))

word_leads : (word : List ℕ) (n : ℕ) (t : List ℕ) → same word (take n t) ≡ true → t ≡ word ++ drop n t
word_leads word n t h = sym (take-append-drop n t) ∙ ap (λ l. l ++ drop n t) (sym (same_sound word (take n t) h))

leading_leads : (t : List ℕ) → Leads t (leading t)
unfolding leading spelled
leading_leads [] = refl
leading_leads (b ∷ t) =
    cases (is_mark b) (λ e. rw e (λ plain. ap (λ l. l ++ t) (sym (mark_spelled b e))))
    (λ n. cases (eqb b quote) (λ e. rw (n, e, eqb-true b quote e) (closed_leads t (closing t) refl))
    (λ m. cases (same true_word (take 4 (b ∷ t))) (λ e. rw (n, m, e) (λ plain. word_leads true_word 4 (b ∷ t) e))
    (λ o. cases (same false_word (take 5 (b ∷ t))) (λ e. rw (n, m, o, e) (λ plain. word_leads false_word 5 (b ∷ t) e))
    (λ p. rw (n, m, o, p) (λ never. absurd never)))))

-- the runs of blanks of a text whose tokens have texts
pub record Spelled (t : List ℕ) (ts : List Token) : Type 0 where
  pub runs : List (List ℕ)
  pub blank_runs : All (λ w. blanks w ≡ true) runs
  pub laid : t ≡ spaced runs ts

runs_below : (n : ℕ) (t : List ℕ) → length t < n → All Spelt (tokens t) → Spelled t (tokens t)
unfolding spaced flatten
runs_below zero t less plain = absurd (omega arith)
runs_below (suc n) t less plain =
    first_cases (leading (unblanked t))
    (λ k rest e.
    let named : tokens t ≡ k ∷ tokens rest = tokens_first t k rest e in
    let parts : All Spelt (k ∷ tokens rest) = rw named at plain in
    let more = runs_below n rest (omega (arith, tokens_shorter t k rest e)) parts.1 in
    let here : unblanked t ≡ spelled k ++ rest = (rw e at (leading_leads (unblanked t))) parts.0 in
    rw named (record {
      runs = blank t ∷ more.runs;
      blank_runs = (blank_blanks t, more.blank_runs);
      laid = blank_front t ∙ ap (λ l. blank t ++ l) (here ∙ ap (λ l. spelled k ++ l) more.laid);
    }))
    (λ e.
    let here : unblanked t ≡ [] = rw e at (leading_leads (unblanked t)) in
    rw (tokens_exhausted t e) (record {
      runs = blank t ∷ [];
      blank_runs = (blank_blanks t, tt);
      laid = blank_front t ∙ ap (λ l. blank t ++ l) here;
    }))

-- a text whose tokens all have a text is spelled by them
pub text_spelled : (t : List ℕ) → All Spelt (tokens t) → Spelled t (tokens t)
text_spelled t plain = runs_below (suc (length t)) t (omega arith) plain
