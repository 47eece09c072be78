-- Working: What a claim is asked over the claims before it, by columns and by the places of the parents. They are shaped for the code; what they are
-- in 01's words is proved in OverLaws (`over_natural`).
use Rattle.std.specs.Prelude.{Bool, true, not, ◌&&◌, ◌||◌, cond, List, [], ◌∷◌, ℕ, zero, suc, ◌-◌, eqb, ltb, get_or}
use Rattle.lists.specs.Lists.{ands}
use Rattle.register.specs.Limits.{left_limit, tells_left}
use Rattle.register.specs.declared.Claim.{Claim}
use Rattle.soundness_rules.specs.Sound.{drawn_from, over}

-- whether h holds the claim at place j or one of those up to so many steps higher, or granted the last of them
unfoldable pub circles_up : List ℕ → List ℕ → List ℕ → ℕ → ℕ → ℕ → Bool
circles_up ups grantors holders j zero h = eqb (get_or holders j 0) h || eqb (get_or grantors j 0) h
circles_up ups grantors holders j (suc steps) h =
    let higher = circles_up ups grantors holders (get_or ups j 0) steps h in eqb (get_or holders j 0) h || higher

-- how many more hands a claim of so many hops may pass through
abbrev pub hands_at : ℕ → ℕ → Claim → ℕ
hands_at version hops c = cond (tells_left version) c.left (left_limit - hops)

-- what a claim is asked over its parent p, which stands at place j and has so many hops
unfoldable pub over_at : ℕ → List ℕ → List ℕ → List ℕ → ℕ → ℕ → Claim → Claim → Bool
over_at version ups grantors holders j steps p c = ands (
    drawn_from p c
    ∷ ltb (hands_at version (suc steps) c) (hands_at version steps p)
    ∷ not (circles_up ups grantors holders j steps c.holder)
    ∷ [])

-- each claim is as it should be over the earlier ones; latest first
unfoldable pub stand_over : ℕ → List Claim → Bool
stand_over version [] = true
stand_over version (c ∷ earlier) = over version earlier c && stand_over version earlier
