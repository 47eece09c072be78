-- The tokens of members that fit have a text each. Assumes nothing.
use Rattle.std.proofs.Common.{ℕ, zero, suc, ◌+◌, ◌/◌, ◌%◌, ◌<◌, ◌≡◌, refl, ap, ◌∙◌, Bool, true, false, not, cond, ◌&&◌, ◌||◌, List, [], ◌∷◌, ◌++◌, map, arith, ne_eqb, ltb-true, eqb, leb, ltb, length, get_or}
use native.Mathlib.Decide.{dec_lt}
use borrow.Author.Tests.{not-true}
use Rattle.lists.specs.Tests.{and_right, or_left}
use Rattle.lists.specs.Lists.{every, All, same}
use Rattle.lists.specs.Each.{all_imp, all_append, all_map, every_all, all_every, each_all, every_at, every_append}
use Rattle.lists.specs.Same.{same_sound}
use Rattle.rights.specs.Rights.{right_count}
use Rattle.actions.specs.Actions.{flag_count}
use Rattle.decimals.specs.Decimals.{digits}
use Rattle.decimals.specs.Laws.{digits_small, digits_step}
use Rattle.json_tokens.specs.Tokens.{Token, mark, text, comma, closes_list, closes_object, quote, true_mark, false_mark}
use Rattle.json_tokens.specs.Spelling.{Spelt, unquoted}
use Rattle.json_rules.specs.Names.{key_names, kind_names, flag_names, default_domain}
use Rattle.json_rules.specs.Members.{Value, Member, is_id_text, is_id_byte, id_length}
use Rattle.json_rules.specs.Actions.{commaed, setting_tokens, number_tokens, value_tokens, member_tokens, object_tokens}
use Rattle.json_rules.specs.Fitting.{value_fits, MemberFits}
use Rattle.json_rules.specs.Items.{key_count}
use Rattle.json_rules.proofs.Holding.{value_cases, key_below}

-- no name has a quote
keys_unquoted : (k : ℕ) → k < key_count → unquoted (get_or key_names k []) ≡ true
keys_unquoted = every_at unquoted key_names refl []

kinds_unquoted : (k : ℕ) → k < right_count → unquoted (get_or kind_names k []) ≡ true
kinds_unquoted = every_at unquoted kind_names refl []

flags_unquoted : (k : ℕ) → k < flag_count → unquoted (get_or flag_names k []) ≡ true
flags_unquoted = every_at unquoted flag_names refl []

-- nor has a number, nor an id, nor the domain
digit_unquoted : (d : ℕ) → not (eqb (48 + d) quote) ≡ true
digit_unquoted d = rw (ne_eqb (48 + d) quote (λ e. omega arith))

digits_unquoted_below : (f n : ℕ) → n < f → unquoted (digits n) ≡ true
digits_unquoted_below zero n h = absurd (omega arith)
digits_unquoted_below (suc f) n h = elim (dec_lt n 10) [
  | yes lt ↦ rw (digits_small n lt, digit_unquoted n)
  | no ge ↦ ap unquoted (digits_step n (omega arith))
      ∙ every_append (λ b. not (eqb b quote)) (digits (n / 10)) ((48 + n % 10) ∷ [])
      ∙ rw (digits_unquoted_below f (n / 10) (omega arith), digit_unquoted (n % 10))
]

digits_unquoted : (n : ℕ) → unquoted (digits n) ≡ true
digits_unquoted n = digits_unquoted_below (suc n) n (omega arith)

id_byte_unquoted : (b : ℕ) → is_id_byte b ≡ true → not (eqb b quote) ≡ true
id_byte_unquoted b h =
    let plain = not-true (eqb b quote || eqb b 92) (and_right (leb 32 b && leb b 126) (not (eqb b quote || eqb b 92)) h) in
    rw (or_left (eqb b quote) (eqb b 92) plain)

pub id_unquoted : (x : List ℕ) → is_id_text x ≡ true → unquoted x ≡ true
unfolding is_id_text
id_unquoted x h =
    all_every (λ b. not (eqb b quote)) x (all_imp (λ b. is_id_byte b ≡ true) (λ b. not (eqb b quote) ≡ true) id_byte_unquoted x
    (every_all is_id_byte x (and_right (leb (length x) id_length) (every is_id_byte x) h)))

domain_unquoted : (x : List ℕ) → same default_domain x ≡ true → unquoted x ≡ true
domain_unquoted x h = rw (← same_sound default_domain x h)

-- commas between things that have texts
commaed_spelt : (l : List (List Token)) → All (All Spelt) l → All Spelt (commaed l)
unfolding commaed
commaed_spelt [] h = tt
commaed_spelt (ts ∷ []) h = h.0
commaed_spelt (ts ∷ us ∷ more) h = all_append Spelt ts (mark comma ∷ commaed (us ∷ more)) h.0 (refl, commaed_spelt (us ∷ more) h.1)

-- and a mark behind them
closed_spelt : {A : Type 0} (shown : A → List Token) (close : ℕ) (l : List A) → Spelt (mark close) → All (λ a. All Spelt (shown a)) l
    → All Spelt (commaed (map shown l) ++ (mark close ∷ []))
closed_spelt shown close l h k =
    all_append Spelt (commaed (map shown l)) (mark close ∷ []) (commaed_spelt (map shown l) (all_map shown (All Spelt) l k)) (h, tt)

word_spelt : (on : Bool) → Spelt (mark (cond on true_mark false_mark))
word_spelt true = refl
word_spelt false = refl

value_spelt : (k : ℕ) (v : Value) → value_fits k v ≡ true → All Spelt (value_tokens k v)
unfolding value_tokens number_tokens
value_spelt =
    value_cases (λ k v. All Spelt (value_tokens k v)) (λ x t. (id_unquoted x t, tt)) (λ x t. (domain_unquoted x t, tt))
    (λ n t. (digits_unquoted n, tt)) (λ n t. (kinds_unquoted n (ltb-true n right_count t), tt)) (λ n t. (refl, tt))
    (λ k ns place few fit. (
      refl,
      closed_spelt (λ n. text (digits n) ∷ []) closes_list ns refl
          (each_all (λ l n. All Spelt (text (digits n) ∷ [])) (λ l n. (digits_unquoted n, tt)) ns),
    ))
    (λ ss full fit. (
      refl,
      closed_spelt setting_tokens closes_object ss refl
          (all_imp (λ s. ltb s.flag flag_count ≡ true) (λ s. All Spelt (setting_tokens s))
          (λ s t. (flags_unquoted s.flag (ltb-true s.flag flag_count t), (refl, (word_spelt s.set, tt)))) ss
          (every_all (λ s. ltb s.flag flag_count) ss fit)),
    ))

member_spelt : (m : Member) → MemberFits m → All Spelt (member_tokens m)
unfolding member_tokens
member_spelt m h = (keys_unquoted m.key (key_below m.key m.value h), (refl, value_spelt m.key m.value h))

pub object_spelt : (ms : List Member) → All MemberFits ms → All Spelt (object_tokens ms)
unfolding object_tokens
object_spelt ms h = (refl, closed_spelt member_tokens closes_object ms refl (all_imp MemberFits (λ m. All Spelt (member_tokens m)) member_spelt ms h))
