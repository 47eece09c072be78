-- What the binary digits of two numbers say of the number of their common digits: one right read through its worth, and every
-- right of a number through a mask. Assumes nothing.
use Rattle.std.proofs.Common.{◌≡◌, refl, sym, ap, ap₂, ◌∙◌, Bool, true, ℕ, zero, suc, ◌+◌, ◌-◌, ◌*◌, ◌/◌, ◌%◌, ◌^◌, ◌≤◌, ◌<◌, zero-le, min, pow-suc, div-one, div-add-mod', mod-lt, zero-lt-suc, mod-eq_of_lt, arith, eqb, ltb, bit_and, pow_pos, eq-eqb, eqb-true, ltb-true, lt-ltb}
use mathlib.Core.Bool.{beq}
use native.Mathlib.Nat.{pow-succ', div-div-eq-div-mul, min-eq_left}
use lib.Bits.{and_step, and_shr, and_mod, and_le_r, and_zero_r}
use lib.Pow.{field, mod-mod-pow}
use borrow.Author.Tests.{eqb-false}
use Rattle.lists.specs.Tests.{cases, and_right, and_both, iff_same, beq_same}
use Rattle.lists.specs.Lists.{every}
use Rattle.lists.specs.Counts.{every_counted_sound}
use Rattle.rights.specs.Rights.{right_count, the_rights, is_right, worth_of, is_rights, has_right, has_rights}
use Rattle.rights.specs.Laws.{had_right, has_rights_sound, has_rights_complete}

-- digit b of n
abbrev pub digit : ℕ → ℕ → ℕ
digit n b = n / 2 ^ b % 2

digit_small : (n b : ℕ) → digit n b < 2
digit_small n b = mod-lt (n / 2 ^ b) (zero-lt-suc 1)

-- digit b + 1 of a number is digit b of its half
digit_half : (n b : ℕ) → digit n (suc b) ≡ digit (n / 2) b
digit_half n b = ap (λ (x : ℕ). x % 2) (ap (λ (x : ℕ). n / x) (pow-succ' 2 b) ∙ sym (div-div-eq-div-mul n 2 (2 ^ b)))

digit_last : (n : ℕ) → digit n 0 ≡ n % 2
digit_last n = ap (λ (x : ℕ). x % 2) (div-one n)

-- a right that is had is a digit that is 1
pub right_digit : (n b : ℕ) → has_right n b ≡ true → digit n b ≡ 1
unfolding has_right
right_digit n b h = eqb-true (digit n b) 1 (and_right (is_right b) (eqb (digit n b) 1) h)

pub right_had : (n b : ℕ) → is_right b ≡ true → digit n b ≡ 1 → has_right n b ≡ true
unfolding has_right
right_had n b is one = and_both (is_right b) (eqb (digit n b) 1) is (eq-eqb (digit n b) 1 one)

-- a digit that is 1 only where another is
last_within : (d e : ℕ) → d < 2 → (d ≡ 1 → e ≡ 1) → d ≤ e
last_within zero e small f = omega arith
last_within (suc d) e small f = let one : e ≡ 1 = f (omega arith) in omega arith

-- each digit of a below k standing in n, what a has in common with n is a itself
within_complete : (k a n : ℕ) → a < 2 ^ k → ((b : ℕ) → b < k → digit a b ≡ 1 → digit n b ≡ 1) → bit_and a n ≡ a
within_complete zero a n small f = let none : a ≡ 0 = omega arith in rw none
within_complete (suc k) a n small f =
    let twice : 2 ^ suc k ≡ 2 ^ k * 2 = pow-suc 2 k in
    let whole : a / 2 * 2 + a % 2 ≡ a = div-add-mod' a 2 in
    let halved : bit_and (a / 2) (n / 2) ≡ a / 2 =
    within_complete k (a / 2) (n / 2) (omega arith)
    (λ b h one. sym (digit_half n b) ∙ f (suc b) (omega arith) (digit_half a b ∙ one)) in
    let last : a % 2 ≤ n % 2 = last_within (a % 2) (n % 2) (mod-lt a (zero-lt-suc 1))
    (λ one. sym (digit_last n) ∙ f 0 (omega arith) (digit_last a ∙ one)) in
    and_step a n ∙ ap₂ (λ (x y : ℕ). x * 2 + y) halved (min-eq_left last) ∙ whole

-- what a has in common with n being a itself, each digit of a stands in n
within_sound : (a n b : ℕ) → bit_and a n ≡ a → digit a b ≡ 1 → digit n b ≡ 1
within_sound a n b same one =
    let common : bit_and (digit a b) (digit n b) ≡ digit a b =
    sym (and_mod (a / 2 ^ b) (n / 2 ^ b) 1) ∙ ap (λ (x : ℕ). x % 2) (sym (and_shr a n b)) ∙ ap (λ (x : ℕ). digit x b) same in
    omega (arith, and_le_r (digit a b) (digit n b), digit_small n b)

common_higher : (k n m b : ℕ) → b < k → digit (n / 2) b ≡ 1 → digit (m / 2) b ≡ 1 → (c : ℕ) × (c < suc k) × (digit n c ≡ 1) × (digit m c ≡ 1)
common_higher k n m b h one other = (suc b, omega arith, digit_half n b ∙ one, digit_half m b ∙ other)

-- two numbers with a digit in common both have a 1 there, and there is such a place where what they have in common is not 0
pub common_sound : (k n m : ℕ) → m < 2 ^ k → (bit_and n m ≡ 0 → ⊥) → (b : ℕ) × (b < k) × (digit n b ≡ 1) × (digit m b ≡ 1)
common_sound zero n m small some = let none : m ≡ 0 = omega arith in absurd (some (rw none (and_zero_r n)))
common_sound (suc k) n m small some =
    let twice : 2 ^ suc k ≡ 2 ^ k * 2 = pow-suc 2 k in
    let halved : m / 2 < 2 ^ k = omega arith in
    cases (eqb (min (n % 2) (m % 2)) 1)
    (λ e. let both : min (n % 2) (m % 2) ≡ 1 = eqb-true (min (n % 2) (m % 2)) 1 e in
    let one : n % 2 ≡ 1 = omega (arith, both, mod-lt n (zero-lt-suc 1)) in
    let other : m % 2 ≡ 1 = omega (arith, both, mod-lt m (zero-lt-suc 1)) in
    (0, omega arith, digit_last n ∙ one, digit_last m ∙ other))
    (λ e. let none : min (n % 2) (m % 2) ≡ 0 = omega (arith, eqb-false (min (n % 2) (m % 2)) 1 e, mod-lt n (zero-lt-suc 1)) in
    let found = common_sound k (n / 2) (m / 2) halved (λ zeros. some (and_step n m ∙ rw (zeros, none))) in
    common_higher k n m found.0 found.1 found.2 found.3)

digit_zero : (b : ℕ) → digit 0 b ≡ 0
digit_zero zero = digit_last 0
digit_zero (suc b) = digit_half 0 b ∙ digit_zero b

pub common_complete : (n m b : ℕ) → digit n b ≡ 1 → digit m b ≡ 1 → bit_and n m ≡ 0 → ⊥
common_complete n m b one other none =
    let common : bit_and (digit n b) (digit m b) ≡ digit (bit_and n m) b =
    sym (and_mod (n / 2 ^ b) (m / 2 ^ b) 1) ∙ ap (λ (x : ℕ). x % 2) (sym (and_shr n m b)) in
    let ones : bit_and (digit n b) (digit m b) ≡ 1 = rw (one, other) in
    omega (arith, common, ones, ap (λ (x : ℕ). digit x b) none, digit_zero b)

-- the digits below k of what is left of m by 2^k are those of m
digit_low : (m k b : ℕ) → b < k → digit (m % 2 ^ k) b ≡ digit m b
digit_low m k b h =
    let parts : k ≡ (k - 1 - b + 1) + b = omega arith in
    ap (λ (x : ℕ). digit (m % 2 ^ x) b) parts
    ∙ ap (λ (x : ℕ). x % 2) (field m (k - 1 - b + 1) b)
    ∙ mod-mod-pow (m / 2 ^ b) (k - 1 - b) 1

-- every right of m is had where what m, below 2^17, has in common with n is all of that
pub has_rights_mask : (n m : ℕ) → eqb (bit_and (m % 2 ^ right_count) n) (m % 2 ^ right_count) ≡ has_rights n m
has_rights_mask n m =
    iff_same (eqb (bit_and (m % 2 ^ right_count) n) (m % 2 ^ right_count)) (has_rights n m)
    (λ t. has_rights_complete n m
    (λ b h. right_had n b (had_right m b h)
    (within_sound (m % 2 ^ right_count) n b (eqb-true _ _ t)
    (digit_low m right_count b (ltb-true b right_count (had_right m b h)) ∙ right_digit m b h))))
    (λ t. eq-eqb _ _
    (within_complete right_count (m % 2 ^ right_count) n (mod-lt m (pow_pos right_count))
    (λ b h one. right_digit n b
    (has_rights_sound n m t b (right_had m b (lt-ltb b right_count h) (sym (digit_low m right_count b h) ∙ one))))))

-- of a rights number m every right is had where what m has in common with n is m itself
pub rights_mask : (n m : ℕ) → is_rights m ≡ true → has_rights n m ≡ eqb (bit_and m n) m
rights_mask n m is =
    let all : m % 2 ^ right_count ≡ m = mod-eq_of_lt (ltb-true m (2 ^ right_count) (and_right (ltb 0 m) (ltb m (2 ^ right_count)) is)) in
    sym (has_rights_mask n m) ∙ ap (λ (a : ℕ). eqb (bit_and a n) a) all

-- whether the worth of right b is read as right c where b is c, and only there
apart : ℕ → ℕ → Bool
apart b c = beq (has_right (worth_of b) c) (eqb b c)

-- a right's worth has that right alone, by a test over every pair of rights
pub worth_alone : (b c : ℕ) → is_right b ≡ true → is_right c ≡ true → has_right (worth_of b) c ≡ eqb b c
unfolding has_right apart
worth_alone b c one other =
    beq_same (has_right (worth_of b) c) (eqb b c)
    (every_counted_sound (apart b) right_count 0
    (every_counted_sound (λ (b : ℕ). every (apart b) the_rights) right_count 0 refl b zero-le (ltb-true b right_count one))
    c zero-le (ltb-true c right_count other))
