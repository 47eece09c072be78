-- Believed: The fixed examples of 01, in its order and words, and what it is that one of them holds.
use Rattle.std.specs.Prelude.{Bool, true, false, List, [], ◌∷◌, ℕ}
use Rattle.std.specs.Bool.{beq}
use Prim.Native.String.{String}
use Rattle.paths.specs.Containment.{contained}
use Rattle.register.specs.Chain.{live, weighing}
use Rattle.lists.specs.Bytes.{bytes}

-- one of 01's examples, with the answer that 01 gives
pub data Example : Type 0 where
  -- the inner path in the outer one: yes or no
  inside : (inner outer : String) → (answer : Bool) → Example
  -- a root of this weight and expiry live at a moment: yes or no
  lives : (weight expiry moment : ℕ) → (answer : Bool) → Example

-- whether the definition answers as the example says
abbrev pub holds : Example → Bool
holds (inside inner outer answer) = beq (contained (bytes outer) (bytes inner)) answer
holds (lives weight expiry moment answer) = beq (live moment [] (weighing weight expiry)) answer

-- 01, "Fixed examples": each with 01's words above it
abbrev pub table : List Example
table =
    -- `site/a` in itself yes
    inside "site/a" "site/a" true
    -- `site/a/b` in `site/a` yes
    ∷ inside "site/a/b" "site/a" true
    -- `site/ab` in `site/a` no
    ∷ inside "site/ab" "site/a" false
    -- `site/a` in `site/a/` yes
    ∷ inside "site/a" "site/a/" true
    -- `x` in empty yes
    ∷ inside "x" "" true
    -- empty in `/` yes
    ∷ inside "" "/" true
    -- `x` in `/` no
    ∷ inside "x" "/" false
    -- `a/../b` in itself no
    ∷ inside "a/../b" "a/../b" false
    -- `a..b` in itself yes
    ∷ inside "a..b" "a..b" true
    -- Weight 600, expiry 2000: live at 1999, not at 2000
    ∷ lives 600 2000 1999 true
    ∷ lives 600 2000 2000 false
    ∷ []
