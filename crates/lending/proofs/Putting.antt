-- Claims taken apart into a sheet one after the other: what the loop knows, and what the sheet is after it. Assumes nothing.
use Rattle.std.proofs.Common.{◌≡◌, sym, ap, ◌∙◌, List, ℕ, ◌+◌, ◌≤◌, ◌<◌, min, arith, length, take, get_or}
use Rattle.register.specs.Limits.{claim_limit}
use Rattle.register.specs.Register.{no_claim}
use Rattle.register.specs.declared.Claim.{Claim}
use Rattle.columns.specs.Sheet.{sheet_limit, claim_put, claims_put, taken_apart, sheet_with}
use Rattle.columns.specs.SheetLaws.{claims_put_nil, claims_put_first, claim_put_length, taken_apart_put, sheet_with_put}
use Rattle.lending.proofs.Filling.{standing_first}

-- the first i of the claims cs are in the sheet s, which was s₀
pub record Put (s₀ : List ℕ) (cs : List Claim) (top i : ℕ) (s : List ℕ) : Type 0 where
  pub put : s ≡ claims_put s₀ 0 (take i cs)
  pub within : i ≤ top
  pub long : length s ≡ sheet_limit

module _ (s₀ : List ℕ) (cs : List Claim) (full : length cs ≡ claim_limit) where
  pub put_none : (top : ℕ) → length s₀ ≡ sheet_limit → Put s₀ cs top 0 s₀
  put_none top long = record { put = sym (claims_put_nil s₀ 0); within = omega arith; long = long }

  module _ (count : ℕ) {top i : ℕ} {s : List ℕ} (bound : top ≡ min count claim_limit) (p : Put s₀ cs top i s) where
    pub put_next : {z : List ℕ} {c : Claim} → i < top → c ≡ get_or cs i no_claim → z ≡ taken_apart s i c → Put s₀ cs top (i + 1) z
    put_next {z} {c} less same e =
        let placed : z ≡ claim_put s i c = e ∙ taken_apart_put s i c p.long (omega (arith, less, bound)) in
        record {
          put =
              placed
              ∙ ap (claim_put s i) same
              ∙ ap (λ l. claim_put l i (get_or cs i no_claim)) p.put
              ∙ sym (claims_put_first s₀ cs i (omega (arith, less, bound, full)));
          within = omega (arith, less);
          long = ap length placed ∙ claim_put_length s i c ∙ p.long;
        }

    pub put_all : length s₀ ≡ sheet_limit → top ≤ i → s ≡ sheet_with s₀ (take count cs)
    put_all long past =
        let all : i ≡ top = omega (arith, past, p.within) in
        p.put
        ∙ ap (λ k. claims_put s₀ 0 (take k cs)) all
        ∙ ap (claims_put s₀ 0) (standing_first cs claim_limit count full bound)
        ∙ sym (sheet_with_put s₀ (take count cs) long)
