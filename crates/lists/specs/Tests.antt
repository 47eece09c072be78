-- Laws: Tests, as `&&` and `||` join them. Assumes nothing.
use Rattle.std.specs.Prelude.{◌≡◌, refl, Bool, true, false, ◌&&◌, ◌||◌, ℕ, eqb}
use Rattle.std.proofs.Common.{sym, arith, eq-eqb, eqb-true}
use Rattle.std.specs.Bool.{beq}

-- a test taken apart, with its equation
pub cases : {A : Type 0} (b : Bool) → (b ≡ true → A) → (b ≡ false → A) → A
cases true f g = f refl
cases false f g = g refl

pub and_left : (a b : Bool) → a && b ≡ true → a ≡ true
and_left true b h = refl
and_left false b h = h

pub and_right : (a b : Bool) → a && b ≡ true → b ≡ true
and_right true b h = h
and_right false b h = cc

pub and_both : (a b : Bool) → a ≡ true → b ≡ true → a && b ≡ true
and_both a b h k = rw (h, k)

pub and_middle : (a b c d : Bool) → (a && b) && (c && d) ≡ (a && c) && (b && d)
and_middle false b c d = refl
and_middle true false false d = refl
and_middle true false true d = refl
and_middle true true c d = refl

pub or_left : (a b : Bool) → a || b ≡ false → a ≡ false
or_left true b h = h
or_left false b h = refl

pub or_right : (a b : Bool) → a || b ≡ false → b ≡ false
or_right true b h = cc
or_right false b h = h

-- either of two tests, the first told not to hold
pub or_other : (a b : Bool) → a || b ≡ true → a ≡ false → b ≡ true
or_other true b h e = cc
or_other false b h e = h

pub or_second : (a b : Bool) → b ≡ true → a || b ≡ true
or_second true b e = refl
or_second false b e = e

pub or_middle : (a b c d : Bool) → (a || b) || (c || d) ≡ (a || c) || (b || d)
or_middle true b c d = refl
or_middle false true true d = refl
or_middle false true false d = refl
or_middle false false c d = refl

-- a test does not both hold and fail
pub clash : {A : Type 0} (b : Bool) → b ≡ true → b ≡ false → A
clash b h k = let never : ◌≡◌ {A = ℕ} 0 1 = cc in absurd (omega arith)

-- two tests that follow from each other are one
pub iff_same : (a b : Bool) → (a ≡ true → b ≡ true) → (b ≡ true → a ≡ true) → a ≡ b
iff_same true b f g = cc (f refl)
iff_same false true f g = g refl
iff_same false false f g = refl

-- numbers are equal either way round
pub eqb_turned : (a b : ℕ) → eqb a b ≡ eqb b a
eqb_turned a b = iff_same (eqb a b) (eqb b a) (λ e. eq-eqb b a (sym (eqb-true a b e))) (λ e. eq-eqb a b (sym (eqb-true b a e)))

-- two tests that are found to be one are one
pub beq_same : (a b : Bool) → beq a b ≡ true → a ≡ b
beq_same true true h = refl
beq_same true false h = sym h
beq_same false true h = h
beq_same false false h = refl
