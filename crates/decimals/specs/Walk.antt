-- Laws: The definitions of decimals at a position of a list: what one byte more of the walk makes of them. Assumes nothing.
use Rattle.std.specs.Prelude.{ℕ, zero, suc, ◌+◌, ◌-◌, ◌*◌, ◌/◌, ◌^◌, ◌≤◌, ◌<◌, ◌≡◌, refl, List, [], ◌∷◌, false, length, get_or, drop}
use Rattle.std.proofs.Common.{ap, ◌∙◌, arith, pow-suc, add-one, drop_of_length-le, length-append, drop-cons, le-leb, eq-eqb, ne_eqb}
use Rattle.std.proofs.Math.Bool.{true}
use Rattle.std.proofs.Math.Decide.{dec_lt}
use borrow.Author.Tests.{lt-leb}
use Rattle.decimals.specs.Decimals.{is_digit, digits, digit_run, after, value, canonical, judge, bad, parse}
use Rattle.decimals.specs.Laws.{digits_small, digits_step}
use Rattle.decimals.specs.declared.Number.TheVariants.{Value, Large}
use Rattle.decimals.specs.Answers.{Says}

pub drop_byte : (s : List ℕ) (i : ℕ) → i < length s → drop i s ≡ get_or s i 0 ∷ drop (i + 1) s
drop_byte s i h = rw (add-one, drop-cons s i 0)

module _ (s : List ℕ) (i : ℕ) where
  pub after_digit : i < length s → is_digit (get_or s i 0) ≡ true → after (drop i s) ≡ after (drop (i + 1) s)
  unfolding after
  after_digit h d = rw (drop_byte s i h, d)

  pub after_stop : i < length s → is_digit (get_or s i 0) ≡ false → after (drop i s) ≡ drop i s
  unfolding after
  after_stop h d = rw (drop_byte s i h, d)

  pub after_end : length s ≤ i → after (drop i s) ≡ drop i s
  unfolding after
  after_end h = rw (drop_of_length-le s h)

  pub worth_digit : (a : ℕ) → i < length s → is_digit (get_or s i 0) ≡ true →
      value a (digit_run (drop i s)) ≡ value (a * 10 + (get_or s i 0 - 48)) (digit_run (drop (i + 1) s))
  unfolding value digit_run
  worth_digit a h d = rw (drop_byte s i h, d)

  pub worth_stop : (a : ℕ) → i < length s → is_digit (get_or s i 0) ≡ false → value a (digit_run (drop i s)) ≡ a
  unfolding value digit_run
  worth_stop a h d = rw (drop_byte s i h, d)

  pub worth_end : (a : ℕ) → length s ≤ i → value a (digit_run (drop i s)) ≡ a
  unfolding value digit_run
  worth_end a h = rw (drop_of_length-le s h)

-- digits only add
pub value_more : (a : ℕ) (s : List ℕ) → a ≤ value a s
unfolding value
value_more a [] = omega arith
value_more a (b ∷ s) = omega (arith, value_more (a * 10 + (b - 48)) s)

pub length_small : (n : ℕ) → n < 10 → length (digits n) ≡ 1
length_small n h = rw (digits_small n h)

pub length_step : (n : ℕ) → 10 ≤ n → length (digits n) ≡ length (digits (n / 10)) + 1
length_step n h = rw (digits_step n h, length-append)

-- the answers of the scan
pub says_value : (s : List ℕ) (greatest v n i : ℕ) (rest : List ℕ) → v ≡ n → rest ≡ drop i s → n ≤ greatest → i ≤ length s → Says s (Value n i) (judge greatest v rest)
says_value s greatest v n i rest e f h k = (rw (e, f, le-leb n greatest h), k)

pub says_large : (s : List ℕ) (greatest v i : ℕ) (rest : List ℕ) → greatest < v → rest ≡ drop i s → i ≤ length s → Says s (Large i) (judge greatest v rest)
says_large s greatest v i rest h f k = (rw (f, lt-leb v greatest h), k)

module _ (s : List ℕ) (i : ℕ) where
  pub run_digit : i < length s → is_digit (get_or s i 0) ≡ true → digit_run (drop i s) ≡ get_or s i 0 ∷ digit_run (drop (i + 1) s)
  unfolding digit_run
  run_digit h d = rw (drop_byte s i h, d)

  pub run_stop : i < length s → is_digit (get_or s i 0) ≡ false → digit_run (drop i s) ≡ []
  unfolding digit_run
  run_stop h d = rw (drop_byte s i h, d)

  pub run_end : length s ≤ i → digit_run (drop i s) ≡ []
  unfolding digit_run
  run_end h = rw (drop_of_length-le s h)

canonical_lead : (b : ℕ) (x : List ℕ) → (b ≡ 48 → ⊥) → canonical (b ∷ x) ≡ true
unfolding canonical
canonical_lead b [] h = refl
canonical_lead b (c ∷ x) h = rw (ne_eqb b 48 h)

-- what the first bytes say of the number
module _ (greatest : ℕ) (s : List ℕ) (at : ℕ) where
  pub parse_empty : digit_run (drop at s) ≡ [] → parse greatest (drop at s) ≡ bad
  unfolding parse canonical
  parse_empty e = rw e

  pub parse_zero : at < length s → is_digit (get_or s at 0) ≡ true → get_or s at 0 ≡ 48 → at + 1 < length s → is_digit (get_or s (at + 1) 0) ≡ true →
      parse greatest (drop at s) ≡ bad
  unfolding parse canonical
  parse_zero h d z k f = rw (run_digit s at h d, run_digit s (at + 1) k f, eq-eqb _ _ z)

  pub parse_lead : at < length s → is_digit (get_or s at 0) ≡ true → (get_or s at 0 ≡ 48 → ⊥) →
      parse greatest (drop at s) ≡ judge greatest (value 0 (digit_run (drop at s))) (after (drop at s))
  unfolding parse
  parse_lead h d ne = rw (ap canonical (run_digit s at h d) ∙ canonical_lead (get_or s at 0) (digit_run (drop (at + 1) s)) ne)

  pub parse_single : at < length s → is_digit (get_or s at 0) ≡ true → digit_run (drop (at + 1) s) ≡ [] →
      parse greatest (drop at s) ≡ judge greatest (value 0 (digit_run (drop at s))) (after (drop at s))
  unfolding parse canonical
  parse_single h d e =
      let one : canonical (digit_run (drop at s)) ≡ true = rw (run_digit s at h d, e) in
      rw one

-- a 64-bit number has at most 20 digits
pub length_under : (k n : ℕ) → n < 10 ^ suc k → length (digits n) ≤ suc k
length_under zero n h = omega (arith, length_small n h)
length_under (suc k) n h = elim (dec_lt n 10) [
  | yes lt ↦ omega (arith, length_small n lt)
  | no ge ↦ omega (arith, length_step n (omega arith), length_under k (n / 10) (let p : 10 ^ suc (suc k) ≡ 10 ^ suc k * 10 = pow-suc 10 (suc k) in omega arith))
]
