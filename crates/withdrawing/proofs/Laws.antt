-- In a sound register what goes by the places of the parents is what a withdrawal names with all that is drawn from it, so what is struck is what the
-- withdrawal leaves. Assumes nothing.
use Rattle.std.proofs.Common.{Result, Ok, ◌≡◌, refl, ap, sym, ◌∙◌, Bool, true, false, ◌||◌, List, map, ℕ, zero, suc, ◌-◌, ◌≤◌, ◌<◌, min, zero-add, arith, length, take, get_or, replicate, length-take}
use Rattle.refusals.specs.declared.Refusal.{Refusal}
use mathlib.Core.Path.{fun_ext}
use lib.ListN.{length-map, length-reverse, get_or-map, get_or-append}
use Rattle.lists.specs.Lists.{any, Each, counted}
use Rattle.lists.specs.Counts.{counted_length}
use Rattle.lists.specs.Each.{any_map}
use Rattle.lists.specs.Filters.{dropping_same, dropping_map, dropping_length}
use Rattle.register.specs.Limits.{claim_limit}
use Rattle.register.specs.Register.{claims_of, no_claim}
use Rattle.register.specs.Chain.{latest, above}
use Rattle.register.specs.declared.Claim.{Claim}
use Rattle.register.specs.declared.Register.{Register}
use Rattle.soundness_rules.specs.Sound.{sound}
use Rattle.soundness.specs.Laws.{judged_ups}
use Rattle.soundness.specs.Opened.{Opened}
use Rattle.soundness.specs.declared.Findings.{Findings}
use Rattle.soundness_rules.specs.Struck.{struck, strike}
use Rattle.columns.specs.Columns.{claim_id, parent_of, places, places_up}
use Rattle.columns.specs.Laws.{get_d_inside, places_latest}
use Rattle.columns.specs.Sheet.{sheet_of, sheet_limit, column_of, claim_at, claims_in, id_column, parent_column}
use Rattle.columns.specs.SheetLaws.{sheet_long, sheet_claims, claims_in_length, claims_in_at}
use Rattle.lookup.specs.Finding.{earlier_places}
use Rattle.lookup.specs.Laws.{counted_number}
use Rattle.lookup.specs.Walks.{above_natural, sheet_few, sheet_numbered}
use Rattle.refusals.specs.Refusals.{outcome_of}
use Rattle.change_rules.specs.Changes.{Withdrawal, revoke, clear_resource, clear_expired, names, unstruck, revoke_tests, clear_resource_tests, clear_expired_tests, withdraw_tests, withdrawn}
use Rattle.refusals.proofs.Laws.{outcome_cases, outcome_accepted}
use Rattle.withdrawing.specs.Struck.{goes_at, gone_by, staying, spared, struck_claims, struck_of}
use Rattle.withdrawing.specs.declared.Struck.{Struck}

-- whether one of the first n claims goes is kept at its place
pub gone_at : (P : ℕ → Bool) (ups : List ℕ) (n j : ℕ) → j < min n claim_limit → get_or (gone_by P ups n) j false ≡ goes_at P ups j
unfolding gone_by
gone_at P ups n j h =
    let top = min n claim_limit in
    let there : j < length (map (goes_at P ups) (counted 0 top)) = omega (arith, length-map (counted 0 top) (goes_at P ups), counted_length 0 top) in
    get_or-append (map (goes_at P ups) (counted 0 top)) (replicate (claim_limit - top) false) false j there
    ∙ get_d_inside (map (goes_at P ups) (counted 0 top)) j false (goes_at P ups 0) there
    ∙ get_or-map (goes_at P ups) (counted 0 top) j 0
    ∙ ap (goes_at P ups) (counted_number top 0 j 0 h ∙ zero-add j)

-- the claims that stay, where the first n of a sheet are looked at and each that goes is told at its place
module _ (P : Claim → Bool) (s : List ℕ) (long : length s ≡ sheet_limit) (n : ℕ) (few : n ≤ claim_limit)
    (numbered : (j : ℕ) → j < n → (claim_at s j).id ≡ 0 → ⊥) where
  abbrev ups : List ℕ
  ups = earlier_places (column_of id_column s) (column_of parent_column s) n

  abbrev gone : List Bool
  gone = gone_by (λ j. P (claim_at s j)) ups n

  places_claims : (m : ℕ) → m ≤ claim_limit → map (claim_at s) (places m) ≡ latest (take m (claims_in s))
  places_claims m h =
      ap (λ f. map f (places m)) (fun_ext (λ i. sym (claims_in_at s i)))
      ∙ places_latest no_claim (claims_in s) m (omega (arith, claims_in_length s))

  goes_natural : (j : ℕ) → j < n → get_or gone j false ≡ struck claim_id parent_of P (map (claim_at s) (places j)) (claim_at s j)
  goes_natural j inside =
      gone_at (λ j. P (claim_at s j)) ups n j (omega arith)
      ∙ ap (λ b. P (claim_at s j) || b)
      (sym (any_map (claim_at s) P (places_up ups j))
      ∙ ap (any P) (above_natural s long n few numbered j inside ∙ ap (λ l. above l (claim_at s j)) (sym (places_claims j (omega arith)))))

  each_goes : (m : ℕ) → m ≤ n → Each (λ M j. get_or gone j false ≡ struck claim_id parent_of P (map (claim_at s) M) (claim_at s j)) (places m)
  unfolding places
  each_goes zero h = tt
  each_goes (suc m) h = (goes_natural m (omega arith), each_goes m (omega arith))

  pub staying_natural : map (claim_at s) (staying gone n) ≡ strike claim_id parent_of P (latest (take n (claims_in s)))
  staying_natural =
      ap (map (claim_at s)) (dropping_same (λ M j. get_or gone j false) (λ M j. struck claim_id parent_of P (map (claim_at s) M) (claim_at s j)) (places n) (each_goes n (omega arith)))
      ∙ sym (dropping_map (claim_at s) (struck claim_id parent_of P) (λ M j. struck claim_id parent_of P (map (claim_at s) M) (claim_at s j)) (λ M e. refl) (places n))
      ∙ ap (strike claim_id parent_of P) (places_claims n few)

places_length : (n : ℕ) → length (places n) ≡ n
unfolding places
places_length zero = refl
places_length (suc n) = ap suc (places_length n)

-- not more are left than were looked at
pub spared_length : (s : List ℕ) (n : ℕ) (gone : List Bool) → length (spared s n gone) ≤ min n claim_limit
spared_length s n gone =
    let top = min n claim_limit in
    omega (
      arith,
      length-reverse (map (claim_at s) (staying gone top)),
      length-map (staying gone top) (claim_at s),
      dropping_length (λ M j. get_or gone j false) (places top),
      places_length top,
    )

-- a register that is sound: what goes by its sheet, and by the places of the parents in it, is what a test names with all that is drawn from it
module _ (r : Register) (long : length r.claims.list ≡ claim_limit) (whole : sound r ≡ true) (P : Claim → Bool) where
  abbrev s : List ℕ
  s = sheet_of r.claims

  abbrev n : ℕ
  n = r.claims.count

  pub spared_natural : spared s n (gone_by (λ j. P (claim_at s j)) (earlier_places (column_of id_column s) (column_of parent_column s) n) n) ≡ unstruck P r
  spared_natural =
      let gone : List Bool = gone_by (λ j. P (claim_at s j)) (earlier_places (column_of id_column s) (column_of parent_column s) n) n in
      let all : min n claim_limit ≡ n = omega (arith, sheet_few r long whole) in
      ap (λ m. latest (map (claim_at s) (staying gone m))) all
      ∙ ap latest (staying_natural P s (sheet_long r.claims) n (sheet_few r long whole) (sheet_numbered r long whole)
      ∙ ap (λ l. strike claim_id parent_of P (latest l)) (sheet_claims r.claims long))

-- only in a sound register is a withdrawal accepted
withdraw_judged : (r : Register) (w : Withdrawal) → outcome_of (withdraw_tests r w) ≡ Ok tt → sound r ≡ true
unfolding revoke_tests clear_resource_tests clear_expired_tests
withdraw_judged r (revoke who x) h = outcome_accepted _ _ h
withdraw_judged r (clear_resource who o) h = outcome_accepted _ _ h
withdraw_judged r (clear_expired who moment) h = outcome_accepted _ _ h

-- what is struck of what a withdrawal names, with its outcome, is what the withdrawal leaves
pub struck_natural : (r : Register) → length r.claims.list ≡ claim_limit → (w : Withdrawal)
    → struck_claims r.claims (sheet_of r.claims) (gone_by (λ j. names w (claim_at (sheet_of r.claims) j))
    (earlier_places (column_of id_column (sheet_of r.claims)) (column_of parent_column (sheet_of r.claims)) r.claims.count) r.claims.count)
    (outcome_of (withdraw_tests r w))
    ≡ struck_of (withdrawn r w)
unfolding struck_claims withdrawn
struck_natural r long w = outcome_cases (outcome_of (withdraw_tests r w))
    (λ accepted. let stood : min r.claims.count claim_limit ≡ length (claims_of r.claims) = omega (arith, long, length-take r.claims.count r.claims.list) in
    rw (accepted, spared_natural r long (withdraw_judged r w accepted) (names w), stood, length-reverse (claims_of r.claims)))
    (λ why refused. rw refused)

-- so it is where each part is told of a register that was examined
pub struck_told : (r : Register) → length r.claims.list ≡ claim_limit → (w : Withdrawal) {s : List ℕ} {found : Findings} {gone : List Bool} {told : Result Unit Refusal} {y : Struck}
    → Opened r s found → gone ≡ gone_by (λ j. names w (claim_at s j)) found.ups r.claims.count → told ≡ outcome_of (withdraw_tests r w)
    → y ≡ struck_claims r.claims s gone told → y ≡ struck_of (withdrawn r w)
struck_told r long w {s} {found} {gone} {told} opened named decided e =
    e
    ∙ ap (λ g. struck_claims r.claims s g told) (named ∙ ap (λ l. gone_by (λ j. names w (claim_at s j)) l r.claims.count) (judged_ups r opened))
    ∙ rw (opened.put, decided) (struck_natural r long w)
