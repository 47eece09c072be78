-- The tests of the claim behind the first n of a sheet, by what the sheet and the found columns are asked. Assumes nothing.
use Rattle.std.proofs.Common.{Option, ℕ, None, Some, Result, Err, Ok, ◌≡◌, refl, sym, ap, ◌∙◌, Bool, true, false, cond, [], ◌∷◌, List, ◌++◌, map, suc, ◌<◌, ◌≤◌, arith, eq-eqb, ne_eqb, eqb, ltb, length, take, get_or}
use Rattle.refusals.specs.declared.Refusal.{Refusal}
use lib.ListN.{length-map}
use Rattle.lists.specs.Lists.{any}
use Rattle.lists.specs.Each.{any_reverse}
use Rattle.register.specs.Limits.{claim_limit}
use Rattle.register.specs.Register.{actors_of, resources_of}
use Rattle.register.specs.Chain.{latest, above}
use Rattle.register.specs.Laws.{circling_map}
use Rattle.register.specs.declared.Actors.{Actors}
use Rattle.register.specs.declared.Resources.{Resources}
use Rattle.register.specs.declared.Claim.{Claim}
use Rattle.columns.specs.Columns.{claim_id, latest_place, places_up}
use Rattle.columns.specs.Laws.{among_natural}
use Rattle.columns.specs.Sheet.{sheet_limit, column_of, claim_at, claims_in, id_column, parent_column, grantor_column, holder_column}
use Rattle.columns.specs.SheetLaws.{claims_in_length, claims_in_at, column_natural}
use Rattle.lookup.specs.Finding.{earlier_places}
use Rattle.lookup.specs.Walks.{up_from_natural}
use Rattle.soundness_rules.specs.Sound.{World, world_of, sound, claim_fits, fewer_left}
use Rattle.soundness_rules.proofs.Registers.{sound_out}
use Rattle.soundness_rules.proofs.Places.{claim_numbered}
use Rattle.soundness.specs.Judged.{register_by}
use Rattle.claim_judging.specs.Over.{hands_at}
use Rattle.refusals.specs.Refusals.{Test, outcome_of}
use Rattle.refusals.proofs.Laws.{outcome_nil, outcome_pass, outcome_fail}
use Rattle.refusals.specs.declared.Refusal.TheVariants.{Range, NoParent}
use Rattle.granting.specs.Drawn.{told_tests, drawn_tests, chain_tests, world_tests_lem}
use Rattle.faults.specs.Faults.{higher_tests, claim_tests}
use Rattle.faults.proofs.Claiming.{higher_nil, higher_tests_lem}
use Rattle.fault_finding.specs.Asked.{higher_asked}

-- without 11 the tests over a chain are those of the parent and the chain, the parent taken as live
higher_parts : (version : ℕ) (p : Claim) (higher : List Claim) (c : Claim)
    → outcome_of (higher_tests version (p ∷ higher) c)
    ≡ outcome_of (drawn_tests true p c ++ chain_tests (λ d. d.grantor) (λ d. d.holder) (fewer_left version p higher c) (p ∷ higher) c.holder)
unfolding drawn_tests chain_tests outcome_of
higher_parts version p higher c = rw (higher_tests_lem version p higher c)

-- what is asked of the places of a chain is asked of the claims there
chain_asked : (fewer : Bool) (f : ℕ → Claim) (l : List ℕ) (h : ℕ)
    → chain_tests (λ i. (f i).grantor) (λ i. (f i).holder) fewer l h ≡ chain_tests (λ d. d.grantor) (λ d. d.holder) fewer (map f l) h
unfolding chain_tests
chain_asked fewer f l h = rw (circling_map f (λ d. d.grantor) (λ d. d.holder) l h)

-- and of columns that are the same
pub chain_columns : (fewer : Bool) (l : List ℕ) (x : ℕ) {g h grantors holders : List ℕ} {y : Result Unit Refusal} → g ≡ grantors → h ≡ holders
    → y ≡ outcome_of (chain_tests (λ j. get_or g j 0) (λ j. get_or h j 0) fewer l x)
    → y ≡ outcome_of (chain_tests (λ j. get_or grantors j 0) (λ j. get_or holders j 0) fewer l x)
chain_columns fewer l x {g} {h} {grantors} {holders} granted held e =
    e
    ∙ ap (λ c. outcome_of (chain_tests (λ j. get_or c j 0) (λ j. get_or h j 0) fewer l x)) granted
    ∙ ap (λ c. outcome_of (chain_tests (λ j. get_or grantors j 0) (λ j. get_or c j 0) fewer l x)) held

-- over the chain above a claim c by the places
module _ (version : ℕ) (s ups : List ℕ) (place : Option ℕ) (c : Claim) where
  pub root_passes : c.parent ≡ 0 → outcome_of (higher_asked version s ups place c) ≡ Ok tt
  root_passes z = rw (eq-eqb c.parent 0 z) outcome_nil

  module _ (o : c.parent ≡ 0 → ⊥) where
    pub parent_nowhere : place ≡ None → outcome_of (higher_asked version s ups place c) ≡ Err NoParent
    parent_nowhere q = rw (ne_eqb c.parent 0 o, q, higher_nil version c) (outcome_fail _ _ refl)

    pub parent_at : {at : ℕ} → place ≡ Some at → {p : Claim} → p ≡ claim_at s at
        → outcome_of (higher_asked version s ups place c) ≡ outcome_of (drawn_tests true p c ++ chain_tests (λ j. get_or (column_of grantor_column s) j 0) (λ j. get_or (column_of holder_column s) j 0)
        (ltb (hands_at version (suc (length (places_up ups at))) c) (hands_at version (length (places_up ups at)) p)) (at ∷ places_up ups at) c.holder)
    parent_at {at} q {p} read =
        let higher : List Claim = map (claim_at s) (places_up ups at) in
        let fewer : Bool = fewer_left version (claim_at s at) higher c in
        rw (ne_eqb c.parent 0 o, q)
        (higher_parts version (claim_at s at) higher c
        ∙ ap (λ tests. outcome_of (drawn_tests true (claim_at s at) c ++ tests)) (sym (chain_asked fewer (claim_at s) (at ∷ places_up ups at) c.holder))
        ∙ ap (λ n. outcome_of (drawn_tests true (claim_at s at) c ++ chain_tests (λ j. (claim_at s j).grantor) (λ j. (claim_at s j).holder)
        (ltb (hands_at version (suc n) c) (hands_at version n (claim_at s at))) (at ∷ places_up ups at) c.holder))
        (length-map (places_up ups at) (claim_at s))
        ∙ ap (λ d. outcome_of (drawn_tests true d c ++ chain_tests (λ j. (claim_at s j).grantor) (λ j. (claim_at s j).holder)
        (ltb (hands_at version (suc (length (places_up ups at))) c) (hands_at version (length (places_up ups at)) d)) (at ∷ places_up ups at) c.holder))
        (sym read))

-- in a world, behind the earlier claims
module _ (w : World) (earlier : List Claim) (c : Claim) where
  pub claim_unfit : claim_fits w.version c ≡ false → outcome_of (claim_tests w earlier c) ≡ Err Range
  unfolding claim_tests
  claim_unfit e = outcome_fail _ _ e

  pub claim_fit : {stands : Bool} {higher : List Test} → claim_fits w.version c ≡ true → stands ≡ any (λ d. eqb c.id d.id) earlier
      → higher ≡ cond (eqb c.parent 0) [] (higher_tests w.version (above earlier c) c)
      → outcome_of (told_tests w stands 0 c ++ higher) ≡ outcome_of (claim_tests w earlier c)
  unfolding claim_tests
  claim_fit {stands} {higher} fit e chained =
      ap (λ b. outcome_of (told_tests w b 0 c ++ higher)) e
      ∙ ap (λ l. outcome_of (told_tests w (any (λ d. eqb c.id d.id) earlier) 0 c ++ l)) chained
      ∙ ap (λ l. outcome_of (l ++ cond (eqb c.parent 0) [] (higher_tests w.version (above earlier c) c))) (sym (world_tests_lem w earlier 0 c))
      ∙ sym (outcome_pass _ _ fit)

-- behind the first n claims of a sheet, with which the register is sound
module _ (version : ℕ) (a : Actors) (o : Resources) (s : List ℕ) (n : ℕ) (long : length s ≡ sheet_limit) (whole : sound (register_by version a o s n) ≡ true) (c : Claim) where
  few : n ≤ claim_limit
  few = (sound_out (register_by version a o s n) whole).limits.claim_count

  numbered : (j : ℕ) → j < n → (claim_at s j).id ≡ 0 → ⊥
  numbered j inside none =
      claim_numbered (world_of version (actors_of a) (resources_of o)) n (claims_in s) (sound_out (register_by version a o s n) whole).claims j inside
      (omega (arith, inside, few, claims_in_length s)) (ap (λ d. d.id) (claims_in_at s j) ∙ none)

  pub higher_told : higher_asked version s (earlier_places (column_of id_column s) (column_of parent_column s) n) (latest_place (column_of id_column s) n c.parent) c
      ≡ cond (eqb c.parent 0) [] (higher_tests version (above (latest (take n (claims_in s))) c) c)
  higher_told = ap (λ l. cond (eqb c.parent 0) [] (higher_tests version l c)) (up_from_natural s long n few numbered c.parent)

  pub stands_told : any (eqb c.id) (take n (column_of id_column s)) ≡ any (λ d. eqb c.id d.id) (latest (take n (claims_in s)))
  stands_told =
      ap (λ l. any (eqb c.id) (take n l)) (column_natural s long claim_id id_column (omega arith) (λ g. refl))
      ∙ among_natural claim_id c.id n (claims_in s)
      ∙ sym (any_reverse (λ d. eqb c.id d.id) (take n (claims_in s)))
