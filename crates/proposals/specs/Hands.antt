-- Laws: A claim that may not be passed on has fewer hands left than its parent exactly where the parent has some. Assumes nothing.
use Rattle.std.specs.Prelude.{◌≡◌, true, List, ◌∷◌, ℕ, ◌-◌, ◌<◌, ltb, length}
use Rattle.std.proofs.Common.{arith, ltb-true, lt-ltb}
use Rattle.lists.specs.Tests.{cases}
use Rattle.register.specs.Limits.{left_limit, tells_left}
use Rattle.register.specs.declared.Claim.{Claim}
use Rattle.soundness_rules.specs.Sound.{hands_left, fewer_left}

-- a parent that another has fewer hands than has some
pub fewer_hands : (version : ℕ) (p : Claim) (higher : List Claim) (c : Claim) → fewer_left version p higher c ≡ true
    → ltb 0 (hands_left version higher p) ≡ true
fewer_hands version p higher c h =
    let fewer : hands_left version (p ∷ higher) c < hands_left version higher p =
    ltb-true (hands_left version (p ∷ higher) c) (hands_left version higher p) h in
    lt-ltb 0 (hands_left version higher p) (omega (arith, fewer))

-- where it has some, a claim that tells none has fewer
pub fewer_in : (version : ℕ) (p : Claim) (higher : List Claim) (c : Claim) → c.left ≡ 0 → ltb 0 (hands_left version higher p) ≡ true
    → fewer_left version p higher c ≡ true
fewer_in version p higher c none some =
    cases (tells_left version)
    (λ e. rw (e, none) (rw e at some))
    (λ e. let more : 0 < left_limit - length higher = ltb-true 0 (left_limit - length higher) (rw e at some) in
    rw e (lt-ltb (left_limit - length (p ∷ higher)) (left_limit - length higher) (omega (arith, more))))
