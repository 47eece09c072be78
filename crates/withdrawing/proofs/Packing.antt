-- The claims that stay put one behind the other into a list of zero claims. Assumes nothing.
use Rattle.std.proofs.Common.{Result, Err, Ok, ◌≡◌, refl, sym, ap, ◌∙◌, Bool, true, false, List, [], ◌∷◌, ◌++◌, map, min, ℕ, ◌+◌, ◌-◌, ◌≤◌, ◌<◌, add-one, arith, length, get_or, set, replicate}
use mathlib.Core.List.{reverse-cons}
use lib.ListN.{length-reverse}
use Rattle.lists.specs.Fills.{put_first}
use Rattle.lists.specs.Filters.{dropping_nil, dropping_hit, dropping_miss}
use Rattle.register.specs.Limits.{claim_limit}
use Rattle.register.specs.Register.{no_claim}
use Rattle.register.specs.Chain.{latest}
use Rattle.register.specs.declared.Claim.{Claim}
use Rattle.register.specs.declared.Claims.{Claims}
use Rattle.columns.specs.Columns.{places}
use Rattle.columns.specs.Sheet.{claim_at}
use Rattle.refusals.specs.declared.Refusal.{Refusal}
use Rattle.withdrawing.specs.Struck.{staying, spared, packed_claims, struck_claims}
use Rattle.withdrawing.specs.declared.Struck.{Struck}

-- the claims of those that stay among the first i of a sheet, latest first
abbrev stayed : List ℕ → List Bool → ℕ → List Claim
stayed s gone i = map (claim_at s) (staying gone i)

-- i claims of a sheet are passed: those that stay are at the front, and behind them there is the zero claim
pub record Packing (s : List ℕ) (gone : List Bool) (list : List Claim) (kept i : ℕ) : Type 0 where
  pub stay : list ≡ latest (stayed s gone i) ++ replicate (claim_limit - kept) no_claim
  pub count : kept ≡ length (stayed s gone i)
  pub less : kept ≤ i

module _ (s : List ℕ) (gone : List Bool) where
  pub packing_start : {none : Claim} → none ≡ no_claim → Packing s gone (replicate claim_limit none) 0 0
  unfolding places
  packing_start e = record {
    stay = rw (e, dropping_nil (λ M j. get_or gone j false));
    count = rw (dropping_nil (λ M j. get_or gone j false));
    less = omega arith;
  }

  stayed_goes : (i : ℕ) → get_or gone i false ≡ true → stayed s gone (i + 1) ≡ stayed s gone i
  unfolding places
  stayed_goes i e = rw add-one (ap (map (claim_at s)) (dropping_hit (λ M j. get_or gone j false) i (places i) e))

  stayed_stays : (i : ℕ) → get_or gone i false ≡ false → stayed s gone (i + 1) ≡ claim_at s i ∷ stayed s gone i
  unfolding places
  stayed_stays i e = rw add-one (ap (map (claim_at s)) (dropping_miss (λ M j. get_or gone j false) i (places i) e))

module _ {s : List ℕ} {gone : List Bool} {list : List Claim} {kept i : ℕ} (p : Packing s gone list kept i) where
  latest_long : length (latest (stayed s gone i)) ≡ kept
  latest_long = length-reverse (stayed s gone i) ∙ sym p.count

  pub packing_goes : get_or gone i false ≡ true → Packing s gone list kept (i + 1)
  packing_goes e = record {
    stay = p.stay ∙ ap (λ K. latest K ++ replicate (claim_limit - kept) no_claim) (sym (stayed_goes s gone i e));
    count = p.count ∙ ap length (sym (stayed_goes s gone i e));
    less = omega (arith, p.less);
  }

  pub packing_stays : get_or gone i false ≡ false → i < claim_limit → {c : Claim} → c ≡ claim_at s i → Packing s gone (set list kept c) (kept + 1) (i + 1)
  packing_stays e inside {c} read =
      let K : List Claim = stayed s gone i in
      record {
        stay =
            ap (λ m. set m kept c) p.stay
            ∙ put_first (latest K) claim_limit kept no_claim c latest_long (omega (arith, p.less, inside))
            ∙ ap (λ d. (latest K ++ (d ∷ [])) ++ replicate (claim_limit - (kept + 1)) no_claim) read
            ∙ ap (λ M. M ++ replicate (claim_limit - (kept + 1)) no_claim) (sym (ap latest (stayed_stays s gone i e) ∙ reverse-cons (claim_at s i) K));
        count = rw (stayed_stays s gone i e) (omega (arith, p.count));
        less = omega (arith, p.less);
      }

  -- all are passed
  pub packing_done : (n : ℕ) → i ≡ min n claim_limit → ◌≡◌ {A = Claims} (record { list = list; count = kept }) (packed_claims s n gone)
  unfolding packed_claims
  packing_done n h =
      let count : kept ≡ length (spared s n gone) = sym (rw h at latest_long) in
      let filled : list ≡ spared s n gone ++ replicate (claim_limit - length (spared s n gone)) no_claim = rw (← count) (rw h at p.stay) in
      rw (filled, count)

pub packed_count : (s : List ℕ) (n : ℕ) (gone : List Bool) → (packed_claims s n gone).count ≡ length (spared s n gone)
unfolding packed_claims
packed_count s n gone = refl

-- what is struck: those that stay with the zero claim behind them, or all as it came
module _ (k : Claims) (s : List ℕ) (gone : List Bool) {o : Result Unit Refusal} where
  pub struck_accepted : o ≡ Ok tt → {claims : Claims} {n : ℕ} → claims ≡ packed_claims s k.count gone
      → n ≡ min k.count claim_limit - length (spared s k.count gone)
      → ◌≡◌ {A = Struck} (record { claims = claims; removed = n; outcome = o }) (struck_claims k s gone o)
  unfolding struck_claims packed_claims
  struck_accepted h packed went = rw (packed, went, h)

  pub struck_refused : {why : Refusal} → o ≡ Err why → ◌≡◌ {A = Struck} (record { claims = k; removed = 0; outcome = o }) (struck_claims k s gone o)
  unfolding struck_claims
  struck_refused h = rw h
