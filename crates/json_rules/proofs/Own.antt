-- What is taken is what is written: the tokens in front are its own, and it fits. Assumes nothing.
use Rattle.std.proofs.Common.{ℕ, zero, suc, ◌≡◌, refl, sym, ap, ◌∙◌, Bool, true, false, cond, List, [], ◌∷◌, ◌++◌, map, append_assoc, append-nil, eqb-true, ltb-true, le-leb, eqb, leb, ltb, length, get_or}
use Rattle.lists.specs.Tests.{cases}
use Rattle.lists.specs.Lists.{All}
use Rattle.register.specs.Limits.{id_limit}
use Rattle.actions.specs.Actions.{flag_count}
use Rattle.decimals.specs.Decimals.{Parsed, got, large, bad, digits, parse}
use Rattle.decimals.specs.Laws.{digits_parse}
use Rattle.json_tokens.specs.Tokens.{Token, mark, text, no_token, comma, colon, true_mark, false_mark}
use Rattle.json_rules.specs.Names.{flag_names, place_of}
use Rattle.json_rules.specs.Members.{Setting, Taken, taking, missed, past, made, led_by, separated, items_with, items, any_items, take_text, is_exact, exact_of, take_number, take_word, take_set, take_setting, named}
use Rattle.json_rules.specs.Actions.{commaed, setting_tokens}
use Rattle.json_rules.specs.Items.{taken_cases, missed_took}
use Rattle.json_rules.proofs.Naming.{placed_name}

pub text_own : (ts : List Token) (x : List ℕ) (rest : List Token) → take_text ts ≡ taking x rest → ts ≡ text x ∷ rest
text_own [] x rest e = missed_took e
text_own (mark b ∷ ts) x rest e = missed_took e
text_own (text y ∷ ts) x rest e = cc
text_own (no_token ∷ ts) x rest e = missed_took e

word_own : (ts : List Token) (on : Bool) (rest : List Token) → take_word ts ≡ taking on rest → ts ≡ mark (cond on true_mark false_mark) ∷ rest
word_own [] on rest e = missed_took e
word_own (mark b ∷ ts) on rest e =
    cases (eqb b true_mark) (λ t. let what : taking true ts ≡ taking on rest = rw t at e in
    let on_is : true ≡ on = cc in let rests : ts ≡ rest = cc in rw (eqb-true b true_mark t, rests, ← on_is))
    (λ n. cases (eqb b false_mark) (λ t. let what : taking false ts ≡ taking on rest = rw (n, t) at e in
    let on_is : false ≡ on = cc in let rests : ts ≡ rest = cc in rw (eqb-true b false_mark t, rests, ← on_is))
    (λ m. missed_took (rw (n, m) at e)))
word_own (text x ∷ ts) on rest e = missed_took e
word_own (no_token ∷ ts) on rest e = missed_took e

-- what was made, of what
pub record Made {A B : Type 0} (fits : A → Bool) (make : A → B) (x : Taken A) (b : B) (rest : List Token) : Type 0 where
  pub of : A
  pub taken : x ≡ taking of rest
  pub fit : fits of ≡ true
  pub whole : make of ≡ b

pub made_own : {A B : Type 0} (fits : A → Bool) (make : A → B) (x : Taken A) (b : B) (rest : List Token) → made fits make x ≡ taking b rest
    → Made fits make x b rest
made_own fits make (taking a ts) b rest e =
    cases (fits a)
    (λ t. let what : taking (make a) ts ≡ taking b rest = rw t at e in
    let rests : ts ≡ rest = cc in let whole : make a ≡ b = cc in record { of = a; taken = rw rests; fit = t; whole = whole })
    (λ n. missed_took (rw n at e))
made_own fits make missed b rest e = missed_took e

-- what stands behind a mark
pub past_own : {A : Type 0} (b : ℕ) (more : List Token → Taken A) (ts : List Token) (a : A) (rest : List Token) → past b more ts ≡ taking a rest
    → (us : List Token) × (ts ≡ mark b ∷ us) × (more us ≡ taking a rest)
past_own b more [] a rest e = missed_took e
past_own b more (mark c ∷ ts) a rest e = cases (eqb c b) (λ t. (ts, rw (eqb-true c b t), rw t at e)) (λ n. missed_took (rw n at e))
past_own b more (text x ∷ ts) a rest e = missed_took e
past_own b more (no_token ∷ ts) a rest e = missed_took e

-- what stands behind a name and a colon
pub named_own : {A : Type 0} (names : List (List ℕ)) (more : ℕ → List Token → Taken A) (ts : List Token) (a : A) (rest : List Token)
    → named names more (take_text ts) ≡ taking a rest
    → (x : List ℕ) × (us : List Token) × (ts ≡ text x ∷ mark colon ∷ us) × (more (place_of names x) us ≡ taking a rest)
named_own names more ts a rest e =
    taken_cases (take_text ts)
    (λ x us t. let inside = past_own colon (more (place_of names x)) us a rest (rw t at e) in
    (x, inside.0, text_own ts x us t ∙ ap (λ vs. text x ∷ vs) inside.1, inside.2))
    (λ n. missed_took (rw n at e))

exact_own : (p : Parsed) → is_exact p ≡ true → p ≡ got (exact_of p) []
exact_own (got n []) t = refl
exact_own (got n (b ∷ rest)) t = cc
exact_own (large rest) t = cc
exact_own bad t = cc

pub number_own : (ts : List Token) (n : ℕ) (rest : List Token) → take_number ts ≡ taking n rest → (ts ≡ text (digits n) ∷ rest) × (leb n id_limit ≡ true)
unfolding take_number
number_own ts n rest e =
    let read = made_own (λ x. is_exact (parse id_limit x)) (λ x. exact_of (parse id_limit x)) (take_text ts) n rest e in
    let whole = digits_parse id_limit n [] read.of (exact_own (parse id_limit read.of) read.fit ∙ ap (λ m. got m []) read.whole) in
    (text_own ts read.of rest read.taken ∙ rw (whole.text ∙ append-nil (digits n)), le-leb n id_limit whole.within)

set_own : (x : List ℕ) (us : List Token) (s : Setting) (rest : List Token) → take_set (place_of flag_names x) us ≡ taking s rest
    → (text x ∷ mark colon ∷ us ≡ setting_tokens s ++ rest) × (ltb s.flag flag_count ≡ true)
set_own x us s rest e =
    let i = place_of flag_names x in
    let set = made_own (λ on. ltb i flag_count) (λ on. record { flag = i; set = on }) (take_word us) s rest e in
    let name = placed_name flag_names x (ltb-true i flag_count set.fit) in
    let word = word_own us set.of rest set.taken in (
      ap (λ y. text y ∷ mark colon ∷ us) (sym name) ∙ ap (λ vs. text (get_or flag_names i []) ∷ mark colon ∷ vs) word
          ∙ ap (λ (s : Setting). setting_tokens s ++ rest) set.whole,
      ap (λ (s : Setting). ltb s.flag flag_count) (sym set.whole) ∙ set.fit,
    )

pub setting_own : (ts : List Token) (s : Setting) (rest : List Token) → take_setting ts ≡ taking s rest
    → (ts ≡ setting_tokens s ++ rest) × (ltb s.flag flag_count ≡ true)
unfolding take_setting
setting_own ts s rest e =
    let read = named_own flag_names take_set ts s rest e in
    let set = set_own read.0 read.1 s rest read.3 in
    (read.2 ∙ set.0, set.1)

led_own : {A : Type 0} (a : A) (x : Taken (List A)) (l : List A) (rest : List Token) → led_by a x ≡ taking l rest
    → (more : List A) × (x ≡ taking more rest) × (l ≡ a ∷ more)
led_own a (taking more ts) l rest e = let rests : ts ≡ rest = cc in (more, rw rests, cc)
led_own a missed l rest e = missed_took e

-- things that are taken one by one, with commas between them
module _ {A : Type 0} (item : List Token → Taken A) (close : ℕ) (shown : A → List Token) (P : A → Type 0)
    (own : (ts : List Token) (a : A) (rest : List Token) → item ts ≡ taking a rest → (ts ≡ shown a ++ rest) × P a) where
  -- at least one
  record Some (ts : List Token) (l : List A) (rest : List Token) : Type 0 where
    first : A
    more : List A
    list : l ≡ first ∷ more
    whole : ts ≡ commaed (map shown (first ∷ more)) ++ (mark close ∷ rest)
    fits : All P (first ∷ more)

  separated_own : (next : List Token → Taken (List A)) → ((ts : List Token) (l : List A) (rest : List Token) → next ts ≡ taking l rest → Some ts l rest)
      → (a : A) → P a → (ts : List Token) (l : List A) (rest : List Token) → separated close next a ts ≡ taking l rest → Some (shown a ++ ts) l rest
  unfolding commaed
  separated_own next more a fit [] l rest e = missed_took e
  separated_own next more a fit (mark b ∷ ts) l rest e =
      cases (eqb b comma)
      (λ t. let led = led_own a (next ts) l rest (rw t at e) in
      let inside = more ts led.0 rest led.1 in
      record {
        first = a;
        more = inside.first ∷ inside.more;
        list = led.2 ∙ ap (λ m. a ∷ m) inside.list;
        whole = ap (λ c. shown a ++ (mark c ∷ ts)) (eqb-true b comma t) ∙ ap (λ us. shown a ++ (mark comma ∷ us)) inside.whole
            ∙ sym (append_assoc (shown a) (mark comma ∷ commaed (map shown (inside.first ∷ inside.more))) (mark close ∷ rest));
        fits = (fit, inside.fits);
      })
      (λ n. cases (eqb b close)
      (λ t. let what : taking (a ∷ []) ts ≡ taking l rest = rw (n, t) at e in
      let rests : ts ≡ rest = cc in
      record { first = a; more = []; list = cc; whole = rw (eqb-true b close t, rests); fits = (fit, tt) })
      (λ m. missed_took (rw (n, m) at e)))
  separated_own next more a fit (text x ∷ ts) l rest e = missed_took e
  separated_own next more a fit (no_token ∷ ts) l rest e = missed_took e

  items_with_own : (f : ℕ) (ts : List Token) (l : List A) (rest : List Token) → items_with item close f ts ≡ taking l rest → Some ts l rest
  unfolding items_with
  items_with_own zero ts l rest e = missed_took e
  items_with_own (suc f) ts l rest e =
      taken_cases (item ts)
      (λ a us t. let first = own ts a us t in
      rw first.0 (separated_own (items_with item close f) (items_with_own f) a first.1 us l rest (rw t at e)))
      (λ n. missed_took (rw n at e))

  items_own : (ts : List Token) (l : List A) (rest : List Token) → items item close ts ≡ taking l rest
      → (ts ≡ commaed (map shown l) ++ (mark close ∷ rest)) × All P l
  unfolding items
  items_own ts l rest e =
      let some = items_with_own (length ts) ts l rest e in
      (rw some.list some.whole, rw some.list some.fits)

  pub any_items_own : (ts : List Token) (l : List A) (rest : List Token) → any_items item close ts ≡ taking l rest
      → (ts ≡ commaed (map shown l) ++ (mark close ∷ rest)) × All P l
  unfolding commaed
  any_items_own [] l rest e = missed_took e
  any_items_own (mark b ∷ ts) l rest e =
      cases (eqb b close)
      (λ t. let what : taking [] ts ≡ taking l rest = rw t at e in
      let rests : ts ≡ rest = cc in
      let empty : l ≡ [] = cc in
      (rw (eqb-true b close t, rests, empty), rw empty tt))
      (λ n. items_own (mark b ∷ ts) l rest (rw n at e))
  any_items_own (text x ∷ ts) l rest e = items_own (text x ∷ ts) l rest e
  any_items_own (no_token ∷ ts) l rest e = missed_took e
