-- The tests of a revocation asked of the sheet of a register. Assumes nothing.
use Rattle.std.proofs.Common.{◌≡◌, sym, ap, ◌∙◌, refl, Bool, true, List, ℕ, arith, eqb, length, take, get_or}
use Rattle.lists.specs.Tests.{cases, eqb_turned}
use Rattle.lists.specs.Lists.{any}
use Rattle.lists.specs.Each.{each_all, any_same, any_map, any_reverse}
use Rattle.register.specs.Limits.{claim_limit}
use Rattle.register.specs.Register.{claims_of}
use Rattle.register.specs.Chain.{chain}
use Rattle.register.specs.declared.Register.{Register}
use Rattle.columns.specs.Columns.{claim_id, latest_place}
use Rattle.columns.specs.Laws.{among_natural}
use Rattle.columns.specs.Sheet.{sheet_of, column_of, claim_at, claims_in, id_column, parent_column, grantor_column}
use Rattle.columns.specs.SheetLaws.{sheet_long, sheet_claims, column_natural}
use Rattle.lookup.specs.Finding.{earlier_places}
use Rattle.lookup.specs.Walks.{up_from, sheet_chain}
use Rattle.soundness_rules.specs.Sound.{sound}
use Rattle.soundness.specs.Laws.{judged_sound, judged_ups}
use Rattle.soundness.specs.Opened.{Opened}
use Rattle.soundness.specs.declared.Findings.{Findings}
use Rattle.refusals.specs.Refusals.{outcome_of}
use Rattle.refusals.proofs.Laws.{outcome_fail}
use Rattle.refusals.specs.declared.Refusal.TheVariants.{Absent, NoClaim}
use Rattle.change_rules.specs.Changes.{world_in, standing, revoke_tests}
use Rattle.withdrawing.specs.Struck.{asked_tests}
use Rattle.withdrawing.proofs.Clearing.{known_told}

module _ (r : Register) (long : length r.claims.list ≡ claim_limit) where
  abbrev s : List ℕ
  s = sheet_of r.claims

  -- a number among the ids is that of a claim that stands
  pub stands_asked : (x : ℕ) → any (eqb x) (take r.claims.count (column_of id_column s)) ≡ any (λ c. eqb c.id x) (standing r)
  stands_asked x =
      ap (λ l. any (eqb x) (take r.claims.count l)) (column_natural s (sheet_long r.claims) claim_id id_column (omega arith) (λ g. refl))
      ∙ among_natural claim_id x r.claims.count (claims_in s)
      ∙ ap (any (λ c. eqb x c.id)) (sheet_claims r.claims long)
      ∙ any_same (λ c. eqb x c.id) (λ c. eqb c.id x) (claims_of r.claims) (each_all _ (λ M c. eqb_turned x c.id) (claims_of r.claims))
      ∙ sym (any_reverse (λ c. eqb c.id x) (claims_of r.claims))

  -- a grantor at one of the places from that of a number up is one on the number's chain
  pub grants_asked : sound r ≡ true → (who x : ℕ)
      → any (λ j. eqb (get_or (column_of grantor_column s) j 0) who)
      (up_from (earlier_places (column_of id_column s) (column_of parent_column s) r.claims.count) (latest_place (column_of id_column s) r.claims.count x))
      ≡ any (λ c. eqb c.grantor who) (chain (λ c. c.id) (λ c. c.parent) (standing r) x)
  grants_asked whole who x =
      sym (any_map (claim_at s) (λ c. eqb c.grantor who) (up_from (earlier_places (column_of id_column s) (column_of parent_column s) r.claims.count) (latest_place (column_of id_column s) r.claims.count x)))
      ∙ ap (any (λ c. eqb c.grantor who)) (sheet_chain r long whole x)

-- the tests of a revocation, told one by one: what comes behind the first counts only in a sound register
pub revoke_asked : (r : Register) (who x : ℕ) {whole known stands grants : Bool} → whole ≡ sound r → known ≡ (world_in r).known who
    → stands ≡ any (λ c. eqb c.id x) (standing r)
    → (sound r ≡ true → grants ≡ any (λ c. eqb c.grantor who) (chain (λ c. c.id) (λ c. c.parent) (standing r) x))
    → outcome_of (asked_tests whole known Absent stands NoClaim grants) ≡ outcome_of (revoke_tests r who x)
unfolding revoke_tests
revoke_asked r who x wholly knows stood granted =
    cases (sound r)
    (λ t. rw (wholly, knows, stood, granted t))
    (λ f. outcome_fail _ _ (wholly ∙ f) ∙ sym (outcome_fail _ _ f))

-- the answers of the columns of a register that was examined, put together
pub revoke_told : (r : Register) (long : length r.claims.list ≡ claim_limit) (who x : ℕ) {s ids grantors : List ℕ} {found : Findings} {known stands grants : Bool}
    → Opened r s found → known ≡ any (eqb who) (take r.actors.count found.actors.names)
    → ids ≡ column_of id_column s → stands ≡ any (eqb x) (take r.claims.count ids) → grantors ≡ column_of grantor_column s
    → grants ≡ any (λ j. eqb (get_or grantors j 0) who) (up_from found.ups (latest_place ids r.claims.count x))
    → outcome_of (asked_tests found.sound known Absent stands NoClaim grants) ≡ outcome_of (revoke_tests r who x)
revoke_told r long who x {s} {ids} {grantors} {found} opened knows numbers stood granters granted =
    let n : ℕ = r.claims.count in
    let ids_of : ids ≡ column_of id_column (sheet_of r.claims) = numbers ∙ ap (column_of id_column) opened.put in
    revoke_asked r who x (judged_sound r opened long) (known_told r opened who knows)
    (stood ∙ ap (λ l. any (eqb x) (take n l)) ids_of ∙ stands_asked r long x)
    (λ t. granted ∙ rw (granters, opened.put, judged_ups r opened, ids_of) (grants_asked r long t who x))
