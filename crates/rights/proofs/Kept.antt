-- What a machine may not grant, summed over the table: the number that the sum comes to, and that it bars a machine from just what
-- has one of its digits. Assumes nothing.
use Rattle.std.proofs.Common.{◌≡◌, refl, sym, ap, ◌∙◌, Bool, true, false, not, cond, ℕ, zero, suc, ◌+◌, ◌-◌, ◌^◌, ◌≤◌, ◌<◌, zero-le, add-one, arith, eq-eqb, ne_eqb, eqb-true, ltb-true, lt-ltb, eqb, bit_and}
use mathlib.Core.Bool.{beq}
use borrow.Author.Tests.{eqb-false, not-true}
use Rattle.lists.specs.Tests.{iff_same, beq_same}
use Rattle.lists.specs.Counts.{every_counted_sound}
use Rattle.rights.specs.Rights.{right_count, machine_grants, bars_machine}
use Rattle.rights.specs.Laws.{bars_machine_sound, bars_machine_complete}
use Rattle.rights.proofs.Masks.{digit, right_digit, right_had, common_sound, common_complete}

-- the worths of those of the n rights from b on that a machine may not grant, together
unfoldable pub kept_from : ℕ → ℕ → ℕ
kept_from b zero = 0
kept_from b (suc n) = cond (machine_grants b) 0 (2 ^ b) + kept_from (suc b) n

-- all of them
abbrev pub kept_all : ℕ
kept_all = kept_from 0 right_count

all_sum : kept_all ≡ 106496
unfolding kept_from
all_sum = refl

module _ (b n : ℕ) where
  free_next : machine_grants b ≡ true → kept_from b (suc n) ≡ kept_from (b + 1) n
  unfolding kept_from
  free_next e = rw (e, add-one) (omega arith)

  kept_next : machine_grants b ≡ false → kept_from b (suc n) ≡ 2 ^ b + kept_from (b + 1) n
  unfolding kept_from
  kept_next e = rw (e, add-one)

-- the rights below b were looked at, and `kept` is the sum of those kept from machines
pub record Summing (kept b : ℕ) : Type 0 where
  pub within : b ≤ right_count
  pub sum : kept + kept_from b (right_count - b) ≡ kept_all

module _ {kept b : ℕ} (s : Summing kept b) (h : b < right_count) where
  more : right_count - b ≡ suc (right_count - (b + 1))
  more = omega arith

  pub summing_free : machine_grants b ≡ true → Summing kept (b + 1)
  summing_free e = record {
    within = omega arith;
    sum = ap (λ m. kept + m) (sym (free_next b (right_count - (b + 1)) e) ∙ ap (kept_from b) (sym more)) ∙ s.sum;
  }

  kept_more : machine_grants b ≡ false → kept + 2 ^ b + kept_from (b + 1) (right_count - (b + 1)) ≡ kept_all
  kept_more e =
      let next : kept_from b (right_count - b) ≡ 2 ^ b + kept_from (b + 1) (right_count - (b + 1)) =
      ap (kept_from b) more ∙ kept_next b (right_count - (b + 1)) e in
      omega (arith, next, s.sum)

  pub summing_kept : machine_grants b ≡ false → {worth : ℕ} → worth ≡ 2 ^ b → Summing (kept + worth) (b + 1)
  summing_kept e w = record { within = omega arith; sum = rw w (kept_more e) }

  -- the sum stays a number of 32 bits
  pub summing_fits : machine_grants b ≡ false → {worth : ℕ} → worth ≡ 2 ^ b → kept + worth ≤ 106496
  summing_fits e w = omega (arith, w, kept_more e, all_sum)

pub summing_done : {kept b : ℕ} → Summing kept b → right_count ≤ b → kept ≡ kept_all
unfolding kept_from
summing_done {kept} {b} s h =
    let none : right_count - b ≡ 0 = omega arith in
    let rest : kept_from b (right_count - b) ≡ 0 = rw none in
    omega (arith, rest, s.sum)

-- the sum has the digit of a right where no machine may grant it, by a test over all rights
kept_test : ℕ → Bool
kept_test b = beq (eqb (digit kept_all b) 1) (not (machine_grants b))

kept_digit : (b : ℕ) → b < right_count → eqb (digit kept_all b) 1 ≡ not (machine_grants b)
unfolding kept_test kept_from
kept_digit b h =
    beq_same (eqb (digit kept_all b) 1) (not (machine_grants b)) (every_counted_sound kept_test right_count 0 refl b zero-le h)

-- what has a digit in common with the sum bars a machine, and only that
pub bars_mask : (n : ℕ) → not (eqb (bit_and n kept_all) 0) ≡ bars_machine n
bars_mask n =
    iff_same (not (eqb (bit_and n kept_all) 0)) (bars_machine n)
    (λ t. let found = common_sound right_count n kept_all (omega (arith, all_sum)) (eqb-false (bit_and n kept_all) 0 (not-true _ t)) in
    let b : ℕ = found.0 in
    bars_machine_complete n b (right_had n b (lt-ltb b right_count found.1) found.2)
    (not-true (machine_grants b) (sym (kept_digit b found.1) ∙ eq-eqb (digit kept_all b) 1 found.3)))
    (λ t. let found = bars_machine_sound n t in
    let b : ℕ = found.0 in
    let one : digit kept_all b ≡ 1 = eqb-true (digit kept_all b) 1 (kept_digit b (ltb-true b right_count found.1) ∙ rw found.3) in
    rw (ne_eqb (bit_and n kept_all) 0 (common_complete n kept_all b (right_digit n b found.2) one)))
