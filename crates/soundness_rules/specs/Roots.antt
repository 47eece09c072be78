-- Believed: A chain of claims in plain words: each drawn from the next, from parent to parent, up to its root.
use Rattle.std.specs.Prelude.{◌≡◌, true, Bool, ◌&&◌, List, [], ◌∷◌, ◌≤◌, ℕ}
use Rattle.rights.specs.Rights.{delegating, has_right, has_rights}
use Rattle.register.specs.declared.Claim.{Claim}
use Rattle.soundness_rules.specs.Sound.{drawn}

-- (b), of a claim and its parent
pub record DrawnFrom (p c : Claim) : Type 0 where
  pub held : p.holder ≡ c.grantor
  pub on_same : p.resource ≡ c.resource
  pub delegates : has_right p.rights delegating ≡ true
  pub contains : has_rights p.rights c.rights ≡ true
  pub weighs : c.weight ≤ p.weight

-- the chain of number p as a list: its first has that number, each next one has its parent's number, and the last one's parent's number is 0
abbrev pub Climbs : ℕ → List Claim → Type 0
Climbs p [] = p ≡ 0
Climbs p (d ∷ higher) = (d.id ≡ p) × Climbs d.parent higher

-- the root of a chain: the last of a claim and of those above it
abbrev pub root_of : Claim → List Claim → Claim
root_of c [] = c
root_of c (p ∷ higher) = root_of p higher

-- (b), (d) and (e) hold of each claim over the earlier ones
abbrev pub each_drawn : ℕ → List Claim → Bool
each_drawn version [] = true
each_drawn version (c ∷ earlier) = drawn version earlier c && each_drawn version earlier
