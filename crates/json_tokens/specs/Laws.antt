-- Laws: The tokens of a text: the first of them and the others, however much fuel there is. Assumes nothing.
use Rattle.std.specs.Prelude.{ℕ, zero, suc, ◌≤◌, ◌<◌, ◌≡◌, refl, List, [], ◌∷◌, Bool, true, false, cond, eqb, length, take, drop}
use Rattle.std.proofs.Common.{sym, ap, ◌∙◌, arith, length-drop}
use Rattle.lists.specs.Tests.{cases}
use Rattle.lists.specs.Lists.{same}
use Rattle.json_tokens.specs.Tokens.{Token, mark, no_token, FirstToken, first, exhausted, is_blank, is_mark, quote, true_word, false_word, true_mark, false_mark, unblanked, quoted, closing, quote_closed, leading, tokens_with, tokens}

-- a first token taken apart, with its equation
pub first_cases : {A : Type 0} (f : FirstToken) → ((k : Token) (rest : List ℕ) → f ≡ first k rest → A) → (f ≡ exhausted → A) → A
first_cases (first k rest) some none = some k rest refl
first_cases exhausted some none = none refl

first_rest : {k l : Token} (t u : List ℕ) → first k t ≡ first l u → length t ≡ length u
first_rest t u e = let rests : t ≡ u = cc in ap length rests

first_exhausted : {k : Token} {t : List ℕ} → exhausted ≡ first k t → ⊥
first_exhausted e = let never : ◌≡◌ {A = ℕ} 0 1 = cc in omega arith

pub unblanked_length : (t : List ℕ) → length (unblanked t) ≤ length t
unfolding unblanked
unblanked_length [] = omega arith
unblanked_length (b ∷ t) = cases (is_blank b) (λ e. rw e (omega (arith, unblanked_length t))) (λ e. rw e (omega arith))

pub closing_length : (t : List ℕ) → length (closing t) ≤ length t
unfolding closing
closing_length [] = omega arith
closing_length (b ∷ t) = cases (eqb b quote) (λ e. rw e (omega arith)) (λ e. rw e (omega (arith, closing_length t)))

-- a text takes its closing quote, or all
quote_closed_rest : (k : Token) (rest inside t : List ℕ) → quote_closed inside t ≡ first k rest → length rest ≤ length t
quote_closed_rest k rest inside [] e = omega (arith, first_rest [] rest e)
quote_closed_rest k rest inside (q ∷ t) e = omega (arith, first_rest t rest e)

-- which of four answers is given
one_of : (P : FirstToken → Type 0) (m q w v : Bool) (a b c d e : FirstToken) → P a → P b → P c → P d → P e → P (cond m a (cond q b (cond w c (cond v d e))))
one_of P true q w v a b c d e ha hb hc hd he = ha
one_of P false true w v a b c d e ha hb hc hd he = hb
one_of P false false true v a b c d e ha hb hc hd he = hc
one_of P false false false true a b c d e ha hb hc hd he = hd
one_of P false false false false a b c d e ha hb hc hd he = he

-- a token takes a byte at least
pub first_shorter : (t : List ℕ) (k : Token) (rest : List ℕ) → leading t ≡ first k rest → length rest < length t
unfolding leading
first_shorter [] k rest e = absurd (first_exhausted e)
first_shorter (b ∷ t) k rest e =
    one_of (λ f. f ≡ first k rest → length rest < length (b ∷ t)) (is_mark b) (eqb b quote) (same true_word (take 4 (b ∷ t))) (same false_word (take 5 (b ∷ t)))
    (first (mark b) t) (quote_closed (quoted t) (closing t)) (first (mark true_mark) (drop 4 (b ∷ t))) (first (mark false_mark) (drop 5 (b ∷ t))) (first no_token [])
    (λ e. omega (arith, first_rest t rest e))
    (λ e. omega (arith, quote_closed_rest k rest (quoted t) (closing t) e, closing_length t))
    (λ e. omega (arith, first_rest (drop 4 (b ∷ t)) rest e, length-drop 4 (b ∷ t)))
    (λ e. omega (arith, first_rest (drop 5 (b ∷ t)) rest e, length-drop 5 (b ∷ t)))
    (λ e. omega (arith, first_rest [] rest e)) e

pub tokens_shorter : (t : List ℕ) (k : Token) (rest : List ℕ) → leading (unblanked t) ≡ first k rest → length rest < length t
tokens_shorter t k rest e = omega (arith, first_shorter (unblanked t) k rest e, unblanked_length t)

-- fuel above the length is enough
tokens_with_lem : (f g : ℕ) (t : List ℕ) → length t < f → length t < g → tokens_with f t ≡ tokens_with g t
unfolding tokens_with
tokens_with_lem zero g t h k = absurd (omega arith)
tokens_with_lem (suc f) zero t h k = absurd (omega arith)
tokens_with_lem (suc f) (suc g) t h k =
    first_cases (leading (unblanked t))
    (λ l rest e. let less = tokens_shorter t l rest e in rw e (ap (λ ts. l ∷ ts) (tokens_with_lem f g rest (omega arith) (omega arith))))
    (λ e. rw e)

-- the tokens of a text are its first one and those of what follows it
pub tokens_first : (t : List ℕ) (k : Token) (rest : List ℕ) → leading (unblanked t) ≡ first k rest → tokens t ≡ k ∷ tokens rest
unfolding tokens tokens_with
tokens_first t k rest e =
    let less = tokens_shorter t k rest e in
    rw e (ap (λ ts. k ∷ ts) (tokens_with_lem (length t) (suc (length rest)) rest (omega arith) (omega arith)))

-- and none where it has no first one
pub tokens_exhausted : (t : List ℕ) → leading (unblanked t) ≡ exhausted → tokens t ≡ []
unfolding tokens tokens_with
tokens_exhausted t e = rw e

pub tokens_nil : tokens [] ≡ []
unfolding tokens tokens_with leading unblanked
tokens_nil = refl

-- texts that differ in the blanks at their fronts have the same tokens
pub tokens_unblanked : (t u : List ℕ) → unblanked t ≡ unblanked u → tokens t ≡ tokens u
tokens_unblanked t u e =
    first_cases (leading (unblanked t))
    (λ k rest f. tokens_first t k rest f ∙ sym (tokens_first u k rest (sym (ap leading e) ∙ f)))
    (λ f. tokens_exhausted t f ∙ sym (tokens_exhausted u (sym (ap leading e) ∙ f)))
