-- Believed: What the theorems say of paths besides: components written with slashes between, and what stands under a path.
use Rattle.std.specs.Prelude.{◌≡◌, Bool, not, true, ◌||◌, List, [], ◌∷◌, ◌++◌, ℕ, eqb}
use Rattle.lists.specs.Lists.{every}
use Rattle.paths.specs.Containment.{slash, is_empty, slashed}

-- components written one behind the other, with a slash between each two
abbrev pub written : List (List ℕ) → List ℕ
written [] = []
written (c ∷ []) = c
written (c ∷ d ∷ cs) = c ++ (slash ∷ written (d ∷ cs))

-- whether a component holds no slash
abbrev pub unslashed : List ℕ → Bool
unslashed c = every (λ (b : ℕ). not (eqb b slash)) c

-- path q is t, or t and a slash and more
pub record Under (t q : List ℕ) : Type 0 where
  pub rest : List ℕ
  pub whole : q ≡ t ++ rest
  pub parted : is_empty rest || slashed rest ≡ true
