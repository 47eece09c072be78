-- Believed: Striking what a test names with all that is drawn from it, over anything that has a number and a parent's number.
use Rattle.std.specs.Prelude.{Bool, ◌||◌, List, ℕ}
use Rattle.lists.specs.Lists.{any, dropping}
use Rattle.register.specs.Chain.{chain}

module _ {C : Type 0} (id up : C → ℕ) where
  -- whether P names c, or one on the chain above it among the earlier ones
  abbrev pub struck : (C → Bool) → List C → C → Bool
  struck P earlier c = P c || any P (chain id up earlier (up c))

  -- what is left, in its order, when all that P names goes with all that is drawn from it
  abbrev pub strike : (C → Bool) → List C → List C
  strike P L = dropping (struck P) L
