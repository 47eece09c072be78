-- Chains, hop counts, circles and liveness on a small list of claims, once yes and once no. All by
-- computing. Assumes nothing.
use Rattle.std.proofs.Common.{◌≡◌, refl, true, false, List, [], ◌∷◌, map, ℕ}
use Rattle.register.specs.Limits.{is_id}
use Rattle.register.specs.Register.{with_left, claim_as}
use Rattle.register.specs.Chain.{latest, chain, hops_of, chain_of, root_granted, circling, expired, live, weighing}
use Rattle.register.specs.declared.Claim.{Claim}

abbrev claim : ℕ → ℕ → ℕ → ℕ → ℕ → ℕ → Claim
claim id parent grantor holder weight expiry =
    record { id = id; parent = parent; grantor = grantor; holder = holder; resource = 10; rights = 1; weight = weight; left = 0; expiry = expiry }

-- 8 is drawn from 7, which lasts until 2,000, and 9 from 8; 6 is another root, of weight 0
abbrev last : Claim
last = claim 9 8 5 3 500 0

claims : List Claim
claims = claim 7 0 1 4 600 2000 ∷ claim 6 0 1 6 0 0 ∷ claim 8 7 4 2 500 0 ∷ last ∷ []

abbrev ids : List Claim → List ℕ
ids l = map (λ c. c.id) l

-- the chain of 9, of a number that does not stand and of 0; its hop count
chains_told : map (λ p. ids (chain (λ c. c.id) (λ c. c.parent) (latest claims) p)) (9 ∷ 5 ∷ 0 ∷ [])
    ≡ (9 ∷ 8 ∷ 7 ∷ []) ∷ [] ∷ [] ∷ []
unfolding claims chain
chains_told = refl

hops_told_lem : map (hops_of (latest claims)) claims ≡ 0 ∷ 0 ∷ 1 ∷ 2 ∷ []
unfolding claims chain
hops_told_lem = refl

-- on the chain of 9 circle the holders of 9, 8 and 7 and the grantor of 7; not who granted 9 alone,
-- and not one of another chain
circles_told : map (circling (λ c. c.grantor) (λ c. c.holder) (chain_of (latest claims) last)) (3 ∷ 2 ∷ 4 ∷ 1 ∷ 5 ∷ 6 ∷ [])
    ≡ true ∷ true ∷ true ∷ true ∷ false ∷ false ∷ []
unfolding claims chain circling root_granted
circles_told = refl

granted_told : map (λ h. root_granted (λ c. c.grantor) (chain_of (latest claims) last) h) (1 ∷ 5 ∷ 4 ∷ []) ≡ true ∷ false ∷ false ∷ []
unfolding claims chain root_granted
granted_told = refl

-- 8 and 9 have no end of their own, and live as long as 7: until 2,000, not at it; 6 has no weight
lives_told_lem : map (λ moment. map (live moment (latest claims)) claims) (1999 ∷ 2000 ∷ [])
    ≡ (true ∷ false ∷ true ∷ true ∷ []) ∷ (false ∷ false ∷ false ∷ false ∷ []) ∷ []
unfolding claims chain
lives_told_lem = refl

-- an expiry of 0 is none; one of 1 is past at 1 and not at 0
expired_told : map (λ expiry. map (λ moment. expired moment (weighing 1 expiry)) (0 ∷ 1 ∷ 4294967295 ∷ [])) (0 ∷ 1 ∷ [])
    ≡ (false ∷ false ∷ false ∷ []) ∷ (false ∷ true ∷ true ∷ []) ∷ []
expired_told = refl

-- what a claim holds as left counts in version 2 alone
left_told : map (λ version. (claim_as version (with_left 5 last)).left) (0 ∷ 1 ∷ 2 ∷ 3 ∷ []) ≡ 0 ∷ 0 ∷ 5 ∷ 0 ∷ []
left_told = refl

-- the least and the greatest id, and their neighbours
ids_told : map is_id (0 ∷ 1 ∷ 65535 ∷ 65536 ∷ []) ≡ false ∷ true ∷ true ∷ false ∷ []
ids_told = refl
