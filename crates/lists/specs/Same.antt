-- Laws: Two lists of numbers are the same exactly when they are equal. Assumes nothing.
use Rattle.std.specs.Prelude.{◌≡◌, refl, true, List, [], ◌∷◌, ℕ, eqb}
use Rattle.std.proofs.Common.{eq-eqb, eqb-true}
use Rattle.lists.specs.Tests.{and_left, and_right}
use Rattle.lists.specs.Lists.{same}

-- two lists are the same exactly when they are equal
pub same_sound : (p q : List ℕ) → same p q ≡ true → p ≡ q
unfolding same
same_sound [] [] h = refl
same_sound [] (c ∷ q) h = cc
same_sound (b ∷ p) [] h = cc
same_sound (b ∷ p) (c ∷ q) h =
    let first = eqb-true b c (and_left (eqb b c) (same p q) h) in
    let rest = same_sound p q (and_right (eqb b c) (same p q) h) in
    cc

pub same_complete : (p : List ℕ) → same p p ≡ true
unfolding same
same_complete [] = refl
same_complete (b ∷ p) = rw (eq-eqb b b refl) (same_complete p)
