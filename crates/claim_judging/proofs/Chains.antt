-- What the definitions answer where a test fails and those before it pass, and where the last one decides. Assumes nothing.
use Rattle.std.proofs.Common.{◌≡◌, refl, sym, ap, ◌∙◌, Bool, true, false, not, ◌&&◌, ◌||◌, List, ℕ, zero, suc, ◌-◌, ◌≤◌, ◌<◌, arith, eq-eqb, ne_eqb, eqb, ltb, get_or}
use mathlib.Core.Bool.{and-true}
use Rattle.register.specs.declared.Claim.{Claim}
use Rattle.soundness_rules.specs.Sound.{drawn_from}
use Rattle.claim_judging.specs.Over.{hands_at, circles_up, over_at}

-- a test that passes leaves the answer to those behind it, and one that fails decides
pub passes : {a b : Bool} → a ≡ true → a && b ≡ b
passes e = rw e

pub fails : {a : Bool} (b : Bool) → a ≡ false → a && b ≡ false
fails b e = rw e

-- the walk: each answer at the place that it has come to
module _ (ups grantors holders : List ℕ) (j h : ℕ) where
  pub circle_here : (steps : ℕ) → 0 < steps → get_or holders j 0 ≡ h → circles_up ups grantors holders j steps h ≡ true
  unfolding circles_up
  circle_here zero more q = absurd (omega arith)
  circle_here (suc steps) more q = rw (eq-eqb (get_or holders j 0) h q)

  pub circle_higher : (steps : ℕ) → 0 < steps → (get_or holders j 0 ≡ h → ⊥)
      → circles_up ups grantors holders j steps h ≡ circles_up ups grantors holders (get_or ups j 0) (steps - 1) h
  unfolding circles_up
  circle_higher zero more q = absurd (omega arith)
  circle_higher (suc steps) more q = let left : suc steps - 1 ≡ steps = omega arith in rw (ne_eqb (get_or holders j 0) h q, left)

  pub circle_last : (steps : ℕ) → steps ≤ 0 → circles_up ups grantors holders j steps h ≡ eqb (get_or holders j 0) h || eqb (get_or grantors j 0) h
  unfolding circles_up
  circle_last zero none = refl
  circle_last (suc steps) none = absurd (omega arith)

-- what a claim is asked over its parent, test by test
module _ (version : ℕ) (ups grantors holders : List ℕ) (j steps : ℕ) (p c : Claim) where
  pub not_drawn : drawn_from p c ≡ false → over_at version ups grantors holders j steps p c ≡ false
  unfolding over_at
  not_drawn d = fails _ d

  module _ (d : drawn_from p c ≡ true) where
    pub not_fewer : ltb (hands_at version (suc steps) c) (hands_at version steps p) ≡ false → over_at version ups grantors holders j steps p c ≡ false
    unfolding over_at
    not_fewer h = passes d ∙ fails _ h

    pub circle_decides : ltb (hands_at version (suc steps) c) (hands_at version steps p) ≡ true → {b : Bool} → b ≡ circles_up ups grantors holders j steps c.holder
        → not b ≡ over_at version ups grantors holders j steps p c
    unfolding over_at
    circle_decides h e = sym (passes d ∙ passes h ∙ and-true _ ∙ ap not (sym e))
