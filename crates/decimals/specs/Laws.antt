-- Laws: A number's text reads as the number, and whatever reads as a number is its text. Assumes nothing.
use Rattle.std.specs.Prelude.{ℕ, zero, suc, ◌+◌, ◌-◌, ◌*◌, ◌/◌, ◌%◌, ◌≤◌, ◌<◌, ◌≡◌, refl, List, [], ◌∷◌, ◌++◌, Bool, true, false, not, cond, ltb, leb, eqb}
use Rattle.std.proofs.Common.{sym, ap, ◌∙◌, append_assoc, append-nil, arith, lt-ltb, le-ltb, ne_eqb, ltb-true, ltb-false, leb-true}
use Rattle.std.proofs.Math.Decide.{dec_lt}
use Rattle.std.proofs.lemmas.Bool.{eqb-false, not-true}
use Rattle.decimals.specs.Decimals.{is_digit, digits_with, digits, digit_run, after, value, canonical, got, large, bad, judge, parse}
use Rattle.decimals.specs.Answers.{starts}

digits_with_small : (f n : ℕ) → n < 10 → digits_with (suc f) n ≡ (48 + n) ∷ []
unfolding digits_with
digits_with_small f n h = rw (lt-ltb n 10 h)

digits_with_step : (f n : ℕ) → 10 ≤ n → digits_with (suc f) n ≡ digits_with f (n / 10) ++ ((48 + n % 10) ∷ [])
unfolding digits_with
digits_with_step f n h = rw (le-ltb n 10 h)

-- the fuel does not matter, where it is enough
digits_with_fuel : (f g n : ℕ) → n < f → n < g → digits_with f n ≡ digits_with g n
digits_with_fuel zero g n h k = absurd (omega arith)
digits_with_fuel (suc f) zero n h k = absurd (omega arith)
digits_with_fuel (suc f) (suc g) n h k = elim (dec_lt n 10) [
  | yes lt ↦ digits_with_small f n lt ∙ sym (digits_with_small g n lt)
  | no ge ↦ digits_with_step f n (omega arith) ∙ ap (λ (l : List ℕ). l ++ ((48 + n % 10) ∷ [])) (digits_with_fuel f g (n / 10) (omega arith) (omega arith)) ∙ sym (digits_with_step g n (omega arith))
]

pub digits_small : (n : ℕ) → n < 10 → digits n ≡ (48 + n) ∷ []
unfolding digits
digits_small n h = digits_with_small n n h

pub digits_step : (n : ℕ) → 10 ≤ n → digits n ≡ digits (n / 10) ++ ((48 + n % 10) ∷ [])
unfolding digits
digits_step n h = digits_with_step n n h ∙ ap (λ (l : List ℕ). l ++ ((48 + n % 10) ∷ [])) (digits_with_fuel n (suc (n / 10)) (n / 10) (omega arith) (omega arith))

value_snoc : (a : ℕ) (s : List ℕ) (b : ℕ) → value a (s ++ (b ∷ [])) ≡ value a s * 10 + (b - 48)
unfolding value
value_snoc a [] b = refl
value_snoc a (c ∷ s) b = value_snoc (a * 10 + (c - 48)) s b

value_digits_with : (f n : ℕ) → n < f → value 0 (digits_with f n) ≡ n
unfolding value
value_digits_with zero n h = absurd (omega arith)
value_digits_with (suc f) n h = elim (dec_lt n 10) [
  | yes lt ↦ ap (value 0) (digits_with_small f n lt) ∙ omega arith
  | no ge ↦ ap (value 0) (digits_with_step f n (omega arith)) ∙ value_snoc 0 (digits_with f (n / 10)) (48 + n % 10)
      ∙ omega (arith, value_digits_with f (n / 10) (omega arith))
]

pub value_digits : (n : ℕ) → value 0 (digits n) ≡ n
unfolding digits
value_digits n = value_digits_with (suc n) n (omega arith)

-- a byte 48 + d is a digit
digit_of : (d : ℕ) → d < 10 → is_digit (48 + d) ≡ true
digit_of d h = rw (le-ltb (48 + d) 48 (omega arith), lt-ltb (48 + d) 58 (omega arith))

pub digit_low : (b : ℕ) → is_digit b ≡ true → 48 ≤ b
digit_low b h = go (ltb b 48) refl h
  where
    go : (x : Bool) → ltb b 48 ≡ x → cond x false (ltb b 58) ≡ true → 48 ≤ b
    go true e k = absurd (let z : ◌≡◌ {A = ℕ} 0 1 = cc in omega arith)
    go false e k = ltb-false b 48 e

pub digit_high : (b : ℕ) → is_digit b ≡ true → b < 58
digit_high b h = go (ltb b 48) refl h
  where
    go : (x : Bool) → ltb b 48 ≡ x → cond x false (ltb b 58) ≡ true → b < 58
    go true e k = absurd (let z : ◌≡◌ {A = ℕ} 0 1 = cc in omega arith)
    go false e k = ltb-true b 58 k

-- nothing but digits
unfoldable AllDigits : List ℕ → Type 0
AllDigits [] = Unit {0}
AllDigits (b ∷ s) = (is_digit b ≡ true) × AllDigits s

all_snoc : (s : List ℕ) (b : ℕ) → AllDigits s → is_digit b ≡ true → AllDigits (s ++ (b ∷ []))
unfolding AllDigits
all_snoc [] b a d = (d, tt)
all_snoc (c ∷ s) b a d = (a.0, all_snoc s b a.1 d)

all_digits_with : (f n : ℕ) → n < f → AllDigits (digits_with f n)
unfolding AllDigits
all_digits_with zero n h = absurd (omega arith)
all_digits_with (suc f) n h = elim (dec_lt n 10) [
  | yes lt ↦ rw (digits_with_small f n lt) (digit_of n lt, tt)
  | no ge ↦ rw (digits_with_step f n (omega arith)) (all_snoc (digits_with f (n / 10)) (48 + n % 10) (all_digits_with f (n / 10) (omega arith)) (digit_of (n % 10) (omega arith)))
]

run_append : (s t : List ℕ) → AllDigits s → starts t ≡ false → digit_run (s ++ t) ≡ s
unfolding AllDigits digit_run starts
run_append [] [] a h = refl
run_append [] (b ∷ t) a h = rw h
run_append (c ∷ s) t a h = rw a.0 (ap (λ (l : List ℕ). c ∷ l) (run_append s t a.1 h))

after_append : (s t : List ℕ) → AllDigits s → starts t ≡ false → after (s ++ t) ≡ t
unfolding AllDigits after starts
after_append [] [] a h = refl
after_append [] (b ∷ t) a h = rw h
after_append (c ∷ s) t a h = rw a.0 (after_append s t a.1 h)

-- the first byte is there, and is no '0'
lead : List ℕ → Bool
lead [] = false
lead (b ∷ s) = not (eqb b 48)

lead_snoc : (s : List ℕ) (b : ℕ) → lead s ≡ true → lead (s ++ (b ∷ [])) ≡ true
unfolding lead
lead_snoc [] b h = absurd (let z : ◌≡◌ {A = ℕ} 0 1 = cc in omega arith)
lead_snoc (c ∷ s) b h = h

lead_digits_with : (f n : ℕ) → n < f → 1 ≤ n → lead (digits_with f n) ≡ true
unfolding lead
lead_digits_with zero n h p = absurd (omega arith)
lead_digits_with (suc f) n h p = elim (dec_lt n 10) [
  | yes lt ↦ ap lead (digits_with_small f n lt) ∙ ap not (ne_eqb (48 + n) 48 (λ e. omega arith))
  | no ge ↦ ap lead (digits_with_step f n (omega arith)) ∙ lead_snoc (digits_with f (n / 10)) (48 + n % 10) (lead_digits_with f (n / 10) (omega arith) (omega arith))
]

lead_canonical : (s : List ℕ) → lead s ≡ true → canonical s ≡ true
unfolding lead canonical
lead_canonical [] h = h
lead_canonical (b ∷ []) h = refl
lead_canonical (b ∷ c ∷ s) h = h

canonical_digits : (n : ℕ) → canonical (digits n) ≡ true
unfolding canonical digits digits_with
canonical_digits zero = refl
canonical_digits (suc n) = lead_canonical (digits (suc n)) (lead_digits_with (suc (suc n)) (suc n) (omega arith) (omega arith))

-- A number's text reads as the number, whatever follows that is no digit.
pub parse_digits : (greatest n : ℕ) (rest : List ℕ) → starts rest ≡ false → parse greatest (digits n ++ rest) ≡ judge greatest n rest
unfolding parse digits
parse_digits greatest n rest h =
    let a = all_digits_with (suc n) n (omega arith) in
    rw (run_append (digits n) rest a h, after_append (digits n) rest a h, canonical_digits n, value_digits n)

-- Whatever reads as a number is the number's text, and what follows it.
run_after : (s : List ℕ) → s ≡ digit_run s ++ after s
unfolding digit_run after
run_after [] = refl
run_after (b ∷ s) = go (is_digit b) (run_after s)
  where
    go : (x : Bool) → s ≡ digit_run s ++ after s → b ∷ s ≡ cond x (b ∷ digit_run s) [] ++ cond x (after s) (b ∷ s)
    go true ih = ap (λ (l : List ℕ). b ∷ l) ih
    go false ih = refl

all_run : (s : List ℕ) → AllDigits (digit_run s)
unfolding AllDigits digit_run
all_run [] = tt
all_run (b ∷ s) = go (is_digit b) refl (all_run s)
  where
    go : (x : Bool) → is_digit b ≡ x → AllDigits (digit_run s) → AllDigits (cond x (b ∷ digit_run s) [])
    go true e ih = (e, ih)
    go false e ih = tt

pub starts_after : (s : List ℕ) → starts (after s) ≡ false
unfolding starts after
starts_after [] = refl
starts_after (b ∷ s) = go (is_digit b) refl (starts_after s)
  where
    go : (x : Bool) → is_digit b ≡ x → starts (after s) ≡ false → starts (cond x (after s) (b ∷ s)) ≡ false
    go true e ih = ih
    go false e ih = e

digits_value : (a : ℕ) (s : List ℕ) → 1 ≤ a → AllDigits s → digits (value a s) ≡ digits a ++ s
unfolding AllDigits value
digits_value a [] h al = sym (append-nil (digits a))
digits_value a (b ∷ s) h al =
    let lo = digit_low b al.0 in
    let hi = digit_high b al.0 in
    let q : (a * 10 + (b - 48)) / 10 ≡ a = omega arith in
    let r : 48 + (a * 10 + (b - 48)) % 10 ≡ b = omega arith in
    digits_value (a * 10 + (b - 48)) s (omega arith) al.1
    ∙ rw (digits_step (a * 10 + (b - 48)) (omega arith), q, r, append_assoc)

digits_canonical : (s : List ℕ) → AllDigits s → canonical s ≡ true → digits (value 0 s) ≡ s
unfolding AllDigits canonical value
digits_canonical [] al h = absurd (let z : ◌≡◌ {A = ℕ} 0 1 = cc in omega arith)
digits_canonical (b ∷ []) al h =
    let lo = digit_low b al.0 in
    let hi = digit_high b al.0 in
    let r : 48 + (0 * 10 + (b - 48)) ≡ b = omega arith in
    rw (digits_small (0 * 10 + (b - 48)) (omega arith), r)
digits_canonical (b ∷ c ∷ s) al h =
    let lo = digit_low b al.0 in
    let hi = digit_high b al.0 in
    let ne = eqb-false b 48 (not-true (eqb b 48) h) in
    let r : 48 + (0 * 10 + (b - 48)) ≡ b = omega arith in
    digits_value (0 * 10 + (b - 48)) (c ∷ s) (omega arith) al.1
    ∙ rw (digits_small (0 * 10 + (b - 48)) (omega arith), r)

pub record IsText (greatest n : ℕ) (rest s : List ℕ) : Type 0 where
  pub text : s ≡ digits n ++ rest
  pub within : n ≤ greatest
  pub ends : starts rest ≡ false

pub digits_parse : (greatest n : ℕ) (rest s : List ℕ) → parse greatest s ≡ got n rest → IsText greatest n rest s
unfolding parse
digits_parse greatest n rest s h = go (canonical (digit_run s)) (leb (value 0 (digit_run s)) greatest) refl refl h
  where
    go : (x y : Bool) → canonical (digit_run s) ≡ x → leb (value 0 (digit_run s)) greatest ≡ y →
        cond x (cond y (got (value 0 (digit_run s)) (after s)) (large (after s))) bad ≡ got n rest → IsText greatest n rest s
    go true true e f k =
        let v : value 0 (digit_run s) ≡ n = cc in
        let r : after s ≡ rest = cc in
        let d = digits_canonical (digit_run s) (all_run s) e in
        record {
          text = run_after s ∙ ap (λ (l : List ℕ). l ++ after s) (sym d) ∙ rw (v, r);
          within = rw v at (leb-true (value 0 (digit_run s)) greatest f);
          ends = rw r at (starts_after s);
        }
    go true false e f k = absurd (let z : ◌≡◌ {A = ℕ} 0 1 = cc in omega arith)
    go false y e f k = absurd (let z : ◌≡◌ {A = ℕ} 0 1 = cc in omega arith)
