-- Laws: Taking things off the front of a list of tokens: each takes a token at least, so fuel does not matter to items. Assumes nothing.
use Rattle.std.specs.Prelude.{ℕ, zero, suc, ◌≤◌, ◌<◌, ◌≡◌, List, [], ◌∷◌, ◌++◌, Bool, true, false, cond, ◌||◌, length, eqb, leb, ltb}
use Rattle.std.proofs.Common.{ap, ◌∙◌, append_assoc, arith}
use Rattle.std.proofs.Math.Path.{refl}
use Rattle.lists.specs.Tests.{cases}
use Rattle.lists.specs.Lists.{same}
use Rattle.rights.specs.Rights.{right_count}
use Rattle.actions.specs.Actions.{use_limit}
use Rattle.json_tokens.specs.Tokens.{Token, mark, text, no_token, comma, colon, true_mark, false_mark, opens_list, closes_list, opens_object, closes_object, zero_mark}
use Rattle.json_rules.specs.Names.{place_of, key_names, kind_names, flag_names, default_domain, id_place, actor_place, kind_place, read_place, write_place, execute_place, flags_place, domain_place, depth_place}
use Rattle.json_rules.specs.Members.{Taken, taking, missed, past, made, led_by, separated, further, items_with, items, any_items, named, Value, letters, figure, figures, settings, is_id_text, take_text, take_number, take_numbers, take_word, take_set, take_setting, take_settings, take_zero, take_value, take_held, take_member}

abbrev pub key_count : ℕ
key_count = 9

-- what was taken, with its equation
pub taken_cases : {A B : Type 0} (x : Taken A) → ((a : A) (rest : List Token) → x ≡ taking a rest → B) → (x ≡ missed → B) → B
taken_cases (taking a rest) some none = some a rest refl
taken_cases missed some none = none refl

took_rest : {A : Type 0} {a b : A} (t u : List Token) → taking a t ≡ taking b u → length t ≡ length u
took_rest t u e = let rests : t ≡ u = cc in ap length rests

pub missed_took : {A C : Type 0} {a : A} {t : List Token} → missed ≡ taking a t → C
missed_took e = let never : ◌≡◌ {A = ℕ} 0 1 = cc in absurd (omega arith)

-- what is taken leaves fewer tokens
abbrev pub Shrinks : {A : Type 0} → (List Token → Taken A) → Type 0
Shrinks {A} item = (ts : List Token) (a : A) (rest : List Token) → item ts ≡ taking a rest → length rest < length ts

text_shrinks : Shrinks take_text
text_shrinks [] a rest e = missed_took e
text_shrinks (mark b ∷ ts) a rest e = missed_took e
text_shrinks (text x ∷ ts) a rest e = omega (arith, took_rest ts rest e)
text_shrinks (no_token ∷ ts) a rest e = missed_took e

word_shrinks : Shrinks take_word
word_shrinks [] a rest e = missed_took e
word_shrinks (mark b ∷ ts) a rest e =
    cases (eqb b true_mark) (λ on. omega (arith, took_rest ts rest (rw on at e)))
    (λ other. cases (eqb b false_mark) (λ off. omega (arith, took_rest ts rest (rw (other, off) at e))) (λ none. missed_took (rw (other, none) at e)))
word_shrinks (text x ∷ ts) a rest e = missed_took e
word_shrinks (no_token ∷ ts) a rest e = missed_took e

-- what is made of what was taken leaves the same tokens
made_rest : {A B : Type 0} (fits : A → Bool) (make : A → B) (x : Taken A) (b : B) (rest : List Token) → made fits make x ≡ taking b rest
    → (a : A) × (x ≡ taking a rest)
made_rest fits make (taking a ts) b rest e =
    cases (fits a) (λ fit. let rests : ts ≡ rest = cc (rw fit at e) in (a, rw rests)) (λ unfit. missed_took (rw unfit at e))
made_rest fits make missed b rest e = missed_took e

module _ {A B : Type 0} (fits : A → Bool) (make : A → B) (item : List Token → Taken A) where
  made_shrinks : Shrinks item → Shrinks (λ ts. made fits make (item ts))
  made_shrinks shrinks ts b rest e = let taken = made_rest fits make (item ts) b rest e in shrinks ts taken.0 rest taken.1

pub past_shrinks : {A : Type 0} (b : ℕ) (more : List Token → Taken A) → Shrinks more → Shrinks (past b more)
past_shrinks b more shrinks [] a rest e = missed_took e
past_shrinks b more shrinks (mark c ∷ ts) a rest e =
    cases (eqb c b) (λ here. omega (arith, shrinks ts a rest (rw here at e))) (λ other. missed_took (rw other at e))
past_shrinks b more shrinks (text x ∷ ts) a rest e = missed_took e
past_shrinks b more shrinks (no_token ∷ ts) a rest e = missed_took e

named_shrinks : {A : Type 0} (names : List (List ℕ)) (more : ℕ → List Token → Taken A) → ((k : ℕ) → Shrinks (more k))
    → Shrinks (λ ts. named names more (take_text ts))
named_shrinks names more shrinks ts a rest e =
    taken_cases (take_text ts)
    (λ x behind taken. omega (
      arith,
      text_shrinks ts x behind taken,
      past_shrinks colon (more (place_of names x)) (shrinks (place_of names x)) behind a rest (rw taken at e),
    ))
    (λ none. missed_took (rw none at e))

led_rest : {A : Type 0} (a : A) (x : Taken (List A)) (l : List A) (rest : List Token) → led_by a x ≡ taking l rest → (m : List A) × (x ≡ taking m rest)
led_rest a (taking more ts) l rest e = let rests : ts ≡ rest = cc in (more, rw rests)
led_rest a missed l rest e = missed_took e

module _ {A : Type 0} (item : List Token → Taken A) (close : ℕ) (shrinks : Shrinks item) where
  -- two ways to go on that agree on all that is shorter give one answer
  separated_same : (one other : List Token → Taken (List A)) (a : A) (rest : List Token)
      → ((ts : List Token) → length ts < length rest → one ts ≡ other ts) → separated close one a rest ≡ separated close other a rest
  separated_same one other a [] agree = refl
  separated_same one other a (mark b ∷ ts) agree = rw (agree ts (omega arith))
  separated_same one other a (text x ∷ ts) agree = refl
  separated_same one other a (no_token ∷ ts) agree = refl

  further_same : (one other : List Token → Taken (List A)) (ts : List Token)
      → ((us : List Token) → length us < length ts → one us ≡ other us) → further close one (item ts) ≡ further close other (item ts)
  further_same one other ts agree =
      taken_cases (item ts)
      (λ a rest taken. let less = shrinks ts a rest taken in rw taken (separated_same one other a rest (λ us short. agree us (omega arith))))
      (λ none. rw none)

  -- fuel as long as the tokens is enough
  items_with_lem : (f g : ℕ) (ts : List Token) → length ts ≤ f → length ts ≤ g → items_with item close f ts ≡ items_with item close g ts
  unfolding items_with
  items_with_lem zero zero ts h k = refl
  items_with_lem zero (suc g) ts h k = taken_cases (item ts) (λ a rest taken. absurd (omega (arith, shrinks ts a rest taken))) (λ none. rw none)
  items_with_lem (suc f) zero ts h k = taken_cases (item ts) (λ a rest taken. absurd (omega (arith, shrinks ts a rest taken))) (λ none. rw none)
  items_with_lem (suc f) (suc g) ts h k =
      further_same (items_with item close f) (items_with item close g) ts (λ us short. items_with_lem f g us (omega arith) (omega arith))

  -- items are the first one and, behind a comma, the others
  pub items_step : (ts : List Token) → items item close ts ≡ further close (items item close) (item ts)
  unfolding items items_with
  items_step ts =
      items_with_lem (length ts) (suc (length ts)) ts (omega arith) (omega arith)
      ∙ further_same (items_with item close (length ts)) (items item close) ts (λ us short. items_with_lem (length ts) (length us) us (omega arith) (omega arith))

  separated_shrinks : (more : List Token → Taken (List A)) → Shrinks more → (a : A) → Shrinks (separated close more a)
  separated_shrinks more shrinks a [] l rest e = missed_took e
  separated_shrinks more shrinks a (mark b ∷ ts) l rest e =
      cases (eqb b comma)
      (λ next. let taken = led_rest a (more ts) l rest (rw next at e) in omega (arith, shrinks ts taken.0 rest taken.1))
      (λ other. cases (eqb b close) (λ closed. omega (arith, took_rest ts rest (rw (other, closed) at e))) (λ none. missed_took (rw (other, none) at e)))
  separated_shrinks more shrinks a (text x ∷ ts) l rest e = missed_took e
  separated_shrinks more shrinks a (no_token ∷ ts) l rest e = missed_took e

  items_with_shrinks : (f : ℕ) → Shrinks (items_with item close f)
  unfolding items_with
  items_with_shrinks zero ts l rest e = missed_took e
  items_with_shrinks (suc f) ts l rest e =
      taken_cases (item ts)
      (λ a behind taken. let after = separated_shrinks (items_with item close f) (items_with_shrinks f) a behind l rest (rw taken at e) in
      omega (arith, shrinks ts a behind taken, after))
      (λ none. missed_took (rw none at e))

  pub items_shrinks : Shrinks (items item close)
  unfolding items
  items_shrinks ts = items_with_shrinks (length ts) ts

  any_items_shrinks : Shrinks (any_items item close)
  any_items_shrinks [] l rest e = missed_took e
  any_items_shrinks (mark b ∷ ts) l rest e =
      cases (eqb b close) (λ closed. omega (arith, took_rest ts rest (rw closed at e))) (λ more. items_shrinks (mark b ∷ ts) l rest (rw more at e))
  any_items_shrinks (text x ∷ ts) l rest e = items_shrinks (text x ∷ ts) l rest e
  any_items_shrinks (no_token ∷ ts) l rest e = missed_took e

pub number_shrinks : Shrinks take_number
unfolding take_number
number_shrinks ts n rest e = let taken = made_rest _ _ (take_text ts) n rest e in text_shrinks ts taken.0 rest taken.1

set_shrinks : (i : ℕ) → Shrinks (take_set i)
set_shrinks i ts s rest e = let taken = made_rest _ _ (take_word ts) s rest e in word_shrinks ts taken.0 rest taken.1

pub setting_shrinks : Shrinks take_setting
unfolding take_setting
setting_shrinks = named_shrinks flag_names take_set set_shrinks

numbers_shrinks : Shrinks take_numbers
unfolding take_numbers
numbers_shrinks = past_shrinks opens_list (any_items take_number closes_list) (any_items_shrinks take_number closes_list number_shrinks)

zero_shrinks : Shrinks take_zero
zero_shrinks [] v rest e = missed_took e
zero_shrinks (mark c ∷ ts) v rest e = cases (eqb c zero_mark) (λ here. omega (arith, took_rest ts rest (rw here at e))) (λ other. missed_took (rw other at e))
zero_shrinks (text x ∷ ts) v rest e = missed_took e
zero_shrinks (no_token ∷ ts) v rest e = missed_took e

settings_shrinks : Shrinks take_settings
unfolding take_settings
settings_shrinks ts ss rest e =
    let inside = past_shrinks opens_object (any_items take_setting closes_object) (any_items_shrinks take_setting closes_object setting_shrinks) in
    let taken = made_rest _ _ (past opens_object (any_items take_setting closes_object) ts) ss rest e in
    inside ts taken.0 rest taken.1

-- what holds of both answers holds of the one that a test picks
either_way : {A : Type 0} (P : A → Type 0) (b : Bool) (yes no : A) → P yes → P no → P (cond b yes no)
either_way P true x y h k = h
either_way P false x y h k = k

value_shrinks : (k : ℕ) → Shrinks (take_value k)
unfolding take_value
value_shrinks k ts v rest =
    let P : Taken Value → Type 0 = λ x. x ≡ taking v rest → length rest < length ts in
    either_way P (eqb k id_place) _ _ (made_shrinks is_id_text letters take_text text_shrinks ts v rest)
    (either_way P (eqb k actor_place) _ _ (made_shrinks (λ n. true) figure take_number number_shrinks ts v rest)
    (either_way P (eqb k kind_place) _ _ (made_shrinks (λ x. ltb (place_of kind_names x) right_count) (λ x. figure (place_of kind_names x)) take_text text_shrinks ts v rest)
    (either_way P (eqb k read_place || (eqb k write_place || eqb k execute_place)) _ _ (made_shrinks (λ ns. leb (length ns) use_limit) figures take_numbers numbers_shrinks ts v rest)
    (either_way P (eqb k flags_place) _ _ (made_shrinks (λ ss. true) settings take_settings settings_shrinks ts v rest)
    (either_way P (eqb k domain_place) _ _ (made_shrinks (same default_domain) letters take_text text_shrinks ts v rest)
    (either_way P (eqb k depth_place) _ _ (zero_shrinks ts v rest) missed_took))))))

held_shrinks : (k : ℕ) → Shrinks (take_held k)
held_shrinks k = made_shrinks (λ v. true) (λ v. record { key = k; value = v }) (take_value k) (value_shrinks k)

pub member_shrinks : Shrinks take_member
unfolding take_member
member_shrinks = named_shrinks key_names take_held held_shrinks

-- what was taken, with some more in front of it
unfoldable pub prefixed : {A : Type 0} → List A → Taken (List A) → Taken (List A)
prefixed l (taking m ts) = taking (l ++ m) ts
prefixed l missed = missed

pub prefixed_nil : {A : Type 0} (x : Taken (List A)) → prefixed [] x ≡ x
unfolding prefixed
prefixed_nil (taking m ts) = refl
prefixed_nil missed = refl

pub prefixed_led : {A : Type 0} (l : List A) (a : A) (x : Taken (List A)) → prefixed l (led_by a x) ≡ prefixed (l ++ (a ∷ [])) x
unfolding prefixed
prefixed_led l a (taking m ts) = rw append_assoc
prefixed_led l a missed = refl
