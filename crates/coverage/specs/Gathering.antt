-- Working: The ends of claims, and the claims that can cover, gathered by their places. What they are in 01's words is proved in GatheringLaws and, of the
-- ends, in Ends. What they are in 01's words is `gathered-natural` and `spot_natural`.
use Rattle.std.specs.Prelude.{Bool, ◌&&◌, cond, not, List, ◌++◌, [], ◌∷◌, ℕ, ◌-◌, min, zero, suc, eqb, ltb, length, get_or, replicate, Option}
use Rattle.lists.specs.Lists.{counted, filter}
use Rattle.register.specs.Limits.{resource_limit, claim_limit, moment_end}
use Rattle.register.specs.Register.{claims_of, no_claim}
use Rattle.register.specs.Chain.{live, latest}
use Rattle.register.specs.declared.Claim.{Claim}
use Rattle.register.specs.declared.Claims.{Claims}
use Rattle.columns.specs.Columns.{latest_place}
use Rattle.lookup.specs.Finding.{place_number}
use Rattle.coverage.specs.declared.Gathered.{Gathered}

-- a place as a number: 64 for none
abbrev pub spot_of : Option ℕ → ℕ
spot_of p = place_number resource_limit p

-- the place of the resource numbered x among the first m
abbrev pub spot_in : List ℕ → ℕ → ℕ → ℕ
spot_in reports m x = spot_of (latest_place reports m x)

-- The end of a claim, the first moment at which it is not live, by its weight, its expiry and the end of what it is drawn from: 0 without
-- weight, else its expiry where it has one before that end, else that end.
abbrev pub end_under : ℕ → ℕ → ℕ → ℕ
end_under weight expiry most = cond (eqb weight 0) 0 (cond (not (eqb expiry 0) && ltb expiry most) expiry most)

-- the claims by their columns of weights, expiries and parents' places
module _ (weights expiries ups : List ℕ) where
  -- the end of the claim at place i, by the ends of those before it: what has no parent before it is bounded by the end of all moments
  abbrev pub end_behind : List ℕ → ℕ → ℕ
  end_behind ends i =
      end_under (get_or weights i 0) (get_or expiries i 0) (cond (ltb (get_or ups i 0) i) (get_or ends (get_or ups i 0) 0) moment_end)

  -- the ends of the first n
  unfoldable pub ends_to : ℕ → List ℕ
  ends_to zero = []
  ends_to (suc n) = ends_to n ++ (end_behind (ends_to n) n ∷ [])

  -- as many of the first n as there are in each column
  abbrev pub ending_of : ℕ → ℕ
  ending_of n = min n (min claim_limit (min (length weights) (min (length expiries) (length ups))))

  -- the ends of the first n, and 0 past them
  unfoldable pub ends_of : ℕ → List ℕ
  ends_of n = ends_to (ending_of n) ++ replicate (claim_limit - ending_of n) 0

-- a claim that can cover, among claims latest first: held by x and live
abbrev pub can_cover : ℕ → ℕ → List Claim → Claim → Bool
can_cover x moment earlier c = eqb c.holder x && live moment earlier c

-- the places of those that can cover, in register order
abbrev pub cover_places : Claims → ℕ → ℕ → List ℕ
cover_places k x moment = filter (λ j. can_cover x moment (latest (claims_of k)) (get_or k.list j no_claim)) (counted 0 (length (claims_of k)))

-- the claims by their columns of holders and ends
module _ (holders ends : List ℕ) where
  -- as many of the first n as there are in each column
  unfoldable pub looked_at : ℕ → ℕ
  looked_at n = min n (min claim_limit (min (length holders) (length ends)))

  -- whether x holds the claim at a place, and the moment is before its end
  abbrev pub held_at : ℕ → ℕ → ℕ → Bool
  held_at x moment j = eqb (get_or holders j 0) x && ltb moment (get_or ends j 0)

  -- the places of those of the first n that x holds and that have not ended
  abbrev pub held_places : ℕ → ℕ → ℕ → List ℕ
  held_places n x moment = filter (λ j. held_at x moment j) (counted 0 (looked_at n))

  unfoldable pub gathered_by : ℕ → ℕ → ℕ → Gathered
  gathered_by n x moment = record {
    places = held_places n x moment ++ replicate (claim_limit - length (held_places n x moment)) 0;
    count = length (held_places n x moment);
  }
