-- Working: What is left of a register's claims when some go, as one pass over them finds it: each is looked at with the claims above it by the places of
-- the parents. Shaped for the code; in a sound register it is what `strike` leaves (Laws).
use Rattle.std.specs.Prelude.{Bool, false, cond, List, ◌∷◌, [], ◌++◌, map, ℕ, ◌-◌, min, length, get_or, replicate, Result}
use Rattle.lists.specs.Lists.{any, counted, dropping}
use Rattle.register.specs.Limits.{claim_limit}
use Rattle.register.specs.Register.{no_claim}
use Rattle.register.specs.Chain.{latest}
use Rattle.register.specs.declared.Claim.{Claim}
use Rattle.register.specs.declared.Claims.{Claims}
use Rattle.columns.specs.Sheet.{claim_at}
use Rattle.columns.specs.Columns.{places, places_up}
use Rattle.refusals.specs.Refusals.{Test, is_accepted}
use Rattle.refusals.specs.declared.Refusal.{Refusal}
use Rattle.refusals.specs.declared.Refusal.TheVariants.{Unsound, NoGrantor}
use Rattle.change_rules.specs.declared.Revoked.{Revoked}
use Rattle.withdrawing.specs.declared.Struck.{Struck}

-- the tests of a withdrawal, where it is told whether each is passed: the first asks for a sound register, the last for one who may withdraw
abbrev pub asked_tests : Bool → Bool → Refusal → Bool → Refusal → Bool → List Test
asked_tests whole known unknown stands absent may =
    record { passed = whole; refusal = Unsound }
    ∷ record { passed = known; refusal = unknown }
    ∷ record { passed = stands; refusal = absent }
    ∷ record { passed = may; refusal = NoGrantor }
    ∷ []

-- whether a claim goes, by its place: P names it, or one above it
abbrev pub goes_at : (ℕ → Bool) → List ℕ → ℕ → Bool
goes_at P ups j = any P (j ∷ places_up ups j)

-- for each of the first n claims, whether it goes
unfoldable pub gone_by : (ℕ → Bool) → List ℕ → ℕ → List Bool
gone_by P ups n = map (goes_at P ups) (counted 0 (min n claim_limit)) ++ replicate (claim_limit - min n claim_limit) false

-- the places of those that stay, among the first n claims, latest first
abbrev pub staying : List Bool → ℕ → List ℕ
staying gone n = dropping (λ L j. get_or gone j false) (places n)

-- of the first n claims of a sheet those that are left, in their order
abbrev pub spared : List ℕ → ℕ → List Bool → List Claim
spared s n gone = latest (map (claim_at s) (staying gone (min n claim_limit)))

-- they stand at the front of the list, with the zero claim in every place behind them
unfoldable pub packed_claims : List ℕ → ℕ → List Bool → Claims
packed_claims s n gone = record {
  list = spared s n gone ++ replicate (claim_limit - length (spared s n gone)) no_claim;
  count = length (spared s n gone);
}

-- with an outcome: accepted, those that go are gone; refused, the claims are as they came
unfoldable pub struck_claims : Claims → List ℕ → List Bool → Result Unit Refusal → Struck
struck_claims k s gone o = record {
  claims = cond (is_accepted o) (record {
    list = spared s k.count gone ++ replicate (claim_limit - length (spared s k.count gone)) no_claim;
    count = length (spared s k.count gone);
  }) k;
  removed = cond (is_accepted o) (min k.count claim_limit - length (spared s k.count gone)) 0;
  outcome = o;
}

-- what a withdrawal leaves of the claims, beside its outcome
abbrev pub struck_of : Revoked → Struck
struck_of g = record { claims = g.register.claims; removed = g.removed; outcome = g.outcome }
