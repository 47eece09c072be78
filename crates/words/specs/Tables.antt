-- Working: the texts of a table in one, a line feed at the end of each, and the text at a place of it. `table_natural` leads back to
-- the list of the texts. Assumes nothing.
use Rattle.std.specs.Prelude.{ℕ, zero, suc, ◌-◌, min, ◌≡◌, refl, Bool, true, not, cond, List, [], ◌∷◌, ◌++◌, eqb, length, get_or}
use Rattle.std.proofs.Common.{ap, ◌∙◌, append_assoc, append-nil, arith, eq-eqb, ne_eqb}
use Rattle.lists.specs.Lists.{every}
use Rattle.lists.specs.Tests.{clash, and_left, and_right}
use Rattle.lines.specs.Lines.{line_feed}

-- the texts in one
abbrev pub table_of : List (List ℕ) → List ℕ
table_of [] = []
table_of (t ∷ ts) = t ++ (line_feed ∷ table_of ts)

-- the text at a place, counted from 0, where so much of the text at hand was passed; past the last text it is empty
unfoldable pub text_at : ℕ → List ℕ → List ℕ → List ℕ
text_at place passed [] = []
text_at place passed (b ∷ rest) =
    let later = text_at (place - 1) [] rest in
    let more = text_at place (passed ++ (b ∷ [])) rest in
    cond (eqb b line_feed) (cond (eqb place 0) passed later) more

-- behind the table there is no text
pub text_end : (place : ℕ) (passed : List ℕ) → text_at place passed [] ≡ []
unfolding text_at
text_end place passed = refl

-- a line feed ends the text at hand, and the next one begins
pub text_here : (place b : ℕ) (passed rest : List ℕ) → b ≡ line_feed → place ≡ 0 → text_at place passed (b ∷ rest) ≡ passed
unfolding text_at
text_here place b passed rest ends here = rw (eq-eqb b line_feed ends, eq-eqb place 0 here)

pub text_later : (place b : ℕ) (passed rest : List ℕ) → b ≡ line_feed → (place ≡ 0 → ⊥) → text_at place passed (b ∷ rest) ≡ text_at (place - 1) [] rest
unfolding text_at
text_later place b passed rest ends other = rw (eq-eqb b line_feed ends, ne_eqb place 0 other)

-- any other byte belongs to the text at hand
pub text_more : (place b : ℕ) (passed rest : List ℕ) → (b ≡ line_feed → ⊥) → text_at place passed (b ∷ rest) ≡ text_at place (passed ++ (b ∷ [])) rest
unfolding text_at
text_more place b passed rest other = rw (ne_eqb b line_feed other)

-- no byte of a text is a line feed
abbrev pub is_plain : List ℕ → Bool
is_plain t = every (λ b. not (eqb b line_feed)) t

-- a plain text is passed as a whole
text_passed : (place : ℕ) (passed t rest : List ℕ) → is_plain t ≡ true → text_at place passed (t ++ rest) ≡ text_at place (passed ++ t) rest
text_passed place passed [] rest plain = rw (append-nil passed)
text_passed place passed (b ∷ t) rest plain =
    let first = and_left (not (eqb b line_feed)) (is_plain t) plain in
    text_more place b passed (t ++ rest) (λ e. clash (not (eqb b line_feed)) first (ap not (eq-eqb b line_feed e)))
    ∙ text_passed place (passed ++ (b ∷ [])) t rest (and_right (not (eqb b line_feed)) (is_plain t) plain)
    ∙ rw (append_assoc passed (b ∷ []) t)

-- the text at a place of a table is the one at that place of the list; the last one stands for every place behind the others
pub table_natural : (ts : List (List ℕ)) (last : List ℕ) (n : ℕ) → every is_plain ts ≡ true → is_plain last ≡ true
    → text_at (min n (length ts)) [] (table_of (ts ++ (last ∷ []))) ≡ get_or ts n last
table_natural [] last n plain lastPlain =
    let none : min n 0 ≡ 0 = omega arith in
    rw none (text_passed 0 [] last (line_feed ∷ []) lastPlain ∙ text_here 0 line_feed last [] refl refl)
table_natural (t ∷ ts) last zero plain lastPlain =
    let rest = line_feed ∷ table_of (ts ++ (last ∷ [])) in
    let first : min 0 (length (t ∷ ts)) ≡ 0 = omega arith in
    rw first (text_passed 0 [] t rest (and_left (is_plain t) (every is_plain ts) plain) ∙ text_here 0 line_feed t (table_of (ts ++ (last ∷ []))) refl refl)
table_natural (t ∷ ts) last (suc n) plain lastPlain =
    let rest = table_of (ts ++ (last ∷ [])) in
    let place = min (suc n) (length (t ∷ ts)) in
    let before : place - 1 ≡ min n (length ts) = omega arith in
    text_passed place [] t (line_feed ∷ rest) (and_left (is_plain t) (every is_plain ts) plain)
    ∙ text_later place line_feed t rest refl (λ e. omega arith)
    ∙ rw before (table_natural ts last n (and_right (is_plain t) (every is_plain ts) plain) lastPlain)
