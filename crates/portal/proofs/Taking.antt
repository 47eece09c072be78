-- A table taken apart record by record into a sheet of zeros: what the walk over it knows, and what the judgement of the sheet says of it. Assumes
-- nothing.
use Rattle.std.proofs.Common.{◌≡◌, sym, ap, ◌∙◌, false, List, ℕ, ◌+◌, ◌≤◌, ◌<◌, arith, length, take, get_or, replicate, take_all}
use lib.ListN.{length-replicate}
use Rattle.register.specs.Limits.{claim_limit}
use Rattle.register.specs.Register.{no_claim}
use Rattle.register.specs.declared.Actors.{Actors}
use Rattle.register.specs.declared.Resources.{Resources}
use Rattle.register.specs.declared.Claim.{Claim}
use Rattle.columns.specs.Sheet.{sheet_limit, claim_put, claims_put, taken_apart, sheet_with}
use Rattle.columns.specs.SheetLaws.{claims_put_nil, claims_put_first, taken_apart_put, sheet_with_put}
use Rattle.soundness_rules.specs.Sound.{table_sound}
use Rattle.soundness_rules.proofs.Tables.{table_many}
use Rattle.soundness.specs.Judged.{findings_by}
use Rattle.soundness.specs.Laws.{table_judged}
use Rattle.answers.specs.declared.Soundness.{Soundness}
use Rattle.answers.specs.Answers.{soundness}

abbrev empty : List ℕ
empty = replicate sheet_limit 0

-- the first i records of the table ys are in the sheet xs
pub record Taken (ys : List Claim) (xs : List ℕ) (i : ℕ) : Type 0 where
  pub put : xs ≡ claims_put empty 0 (take i ys)
  pub within : i ≤ length ys

pub taken_none : (ys : List Claim) → Taken ys empty 0
taken_none ys = record { put = sym (claims_put_nil empty 0); within = omega arith }

module _ {ys : List Claim} {xs : List ℕ} {i : ℕ} (t : Taken ys xs i) (few : length ys ≤ claim_limit) where
  pub taken_next : {zs : List ℕ} → i < length ys → length xs ≡ sheet_limit → zs ≡ taken_apart xs i (get_or ys i no_claim) → Taken ys zs (i + 1)
  taken_next inside long e =
      let c = get_or ys i no_claim in
      record {
        put =
            e
            ∙ taken_apart_put xs i c long (omega (arith, inside, few))
            ∙ ap (λ l. claim_put l i c) t.put
            ∙ sym (claims_put_first empty ys i inside);
        within = omega (arith, inside);
      }

  pub taken_all : (version : ℕ) (a : Actors) (o : Resources) {y : Soundness} → length ys ≤ i → y ≡ soundness (findings_by version a o xs i).sound
      → y ≡ soundness (table_sound version a o ys)
  taken_all version a o past e =
      let all : i ≡ length ys = omega (arith, past, t.within) in
      let sheet : xs ≡ sheet_with empty ys =
      t.put
      ∙ ap (λ k. claims_put empty 0 (take k ys)) all
      ∙ ap (claims_put empty 0) (take_all (length ys) ys (omega arith))
      ∙ sym (sheet_with_put empty ys (length-replicate {A = ℕ} sheet_limit 0)) in
      e
      ∙ ap (λ k. soundness (findings_by version a o xs k).sound) all
      ∙ ap (λ l. soundness (findings_by version a o l (length ys)).sound) sheet
      ∙ ap soundness (table_judged version a o ys few)

-- of too many none is taken
pub too_many : (version : ℕ) (a : Actors) (o : Resources) (ys : List Claim) → claim_limit < length ys → soundness false ≡ soundness (table_sound version a o ys)
too_many version a o ys many = ap soundness (sym (table_many version a o ys many))
