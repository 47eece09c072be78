-- The flags of a number, added up again, are the number. Assumes nothing.
use Rattle.std.proofs.Common.{ℕ, zero, suc, ◌+◌, ◌*◌, ◌/◌, ◌%◌, ◌^◌, ◌<◌, ◌≡◌, refl, sym, ap, ◌∙◌, Bool, ◌&&◌, List, arith, pow-suc, div-one, eq-eqb, eqb-true, eqb}
use native.Mathlib.Nat.{div-div-eq-div-mul}
use borrow.Author.Tests.{eqb-false}
use Rattle.lists.specs.Tests.{cases, and_left, and_right, iff_same}
use Rattle.lists.specs.Lists.{any, counted}
use Rattle.lists.specs.Each.{any_map}
use Rattle.lists.specs.Counts.{any_counted_sound, any_counted_complete}
use Rattle.actions.specs.Actions.{flag_count}
use Rattle.json_rules.specs.Members.{Setting}
use Rattle.json_rules.specs.Actions.{set_among, flags_below, flags_of, is_set, settings_from}

-- a number is its last bit and twice its half, whatever a bit is worth
doubled : (p n : ℕ) → p * 2 * n ≡ p * (2 * n)
doubled p n = omega arith

doubled_more : (p n : ℕ) → p + p * 2 * n ≡ p * (1 + 2 * n)
doubled_more p n = omega arith

set_bit : (p q : ℕ) → q % 2 ≡ 1 → p + p * 2 * (q / 2) ≡ p * q
set_bit p q h = let whole : 1 + 2 * (q / 2) ≡ q = omega arith in doubled_more p (q / 2) ∙ ap (λ n. p * n) whole

clear_bit : (p q : ℕ) → (q % 2 ≡ 1 → ⊥) → p * 2 * (q / 2) ≡ p * q
clear_bit p q h = let whole : 2 * (q / 2) ≡ q = omega arith in doubled p (q / 2) ∙ ap (λ n. p * n) whole

-- a flag is set among the settings of a number where its bit is
set_written : (flags i : ℕ) → i < flag_count → set_among (settings_from flags) i ≡ is_set flags i
set_written flags i h =
    let p : ℕ → Bool = λ j. eqb i j && is_set flags j in
    any_map {C = Setting} (λ j. record { flag = j; set = is_set flags j }) (λ s. eqb i s.flag && s.set) (counted 0 flag_count)
    ∙ iff_same (any p (counted 0 flag_count)) (is_set flags i)
    (λ t. let found = any_counted_sound p flag_count 0 t in
    let same : i ≡ found.0 = eqb-true i found.0 (and_left (eqb i found.0) (is_set flags found.0) found.3) in
    rw same (and_right (eqb i found.0) (is_set flags found.0) found.3))
    (λ t. any_counted_complete p flag_count 0 i (omega arith) (omega arith) (rw (eq-eqb i i refl, t)))

-- the flags below the n-th, and what the number has from there on
flags_below_lem : (flags n : ℕ) (ss : List Setting) → ((i : ℕ) → i < n → set_among ss i ≡ is_set flags i) → flags_below n ss + 2 ^ n * (flags / 2 ^ n) ≡ flags
unfolding flags_below
flags_below_lem flags zero ss h = omega (arith, div-one flags)
flags_below_lem flags (suc n) ss h =
    let half : flags / 2 ^ suc n ≡ flags / 2 ^ n / 2 = ap (λ p. flags / p) (pow-suc 2 n) ∙ sym (div-div-eq-div-mul flags (2 ^ n) 2) in
    let rest : 2 ^ suc n * (flags / 2 ^ suc n) ≡ 2 ^ n * 2 * (flags / 2 ^ n / 2) = rw (half, pow-suc 2 n) in
    let before = flags_below_lem flags n ss (λ i below. h i (omega arith)) in
    cases (is_set flags n)
    (λ t. rw (h n (omega arith), t, rest) (omega (arith, before, set_bit (2 ^ n) (flags / 2 ^ n) (eqb-true (flags / 2 ^ n % 2) 1 t))))
    (λ f. rw (h n (omega arith), f, rest) (omega (arith, before, clear_bit (2 ^ n) (flags / 2 ^ n) (eqb-false (flags / 2 ^ n % 2) 1 f))))

pub flags_written : (flags : ℕ) → flags < 2 ^ flag_count → flags_of (settings_from flags) ≡ flags
flags_written flags h = omega (arith, flags_below_lem flags flag_count (settings_from flags) (set_written flags))
