-- The numbers of claims in range, column by column. Assumes nothing.
use Rattle.std.proofs.Common.{◌≡◌, refl, sym, ap, ◌∙◌, Bool, true, false, not, ◌&&◌, ◌||◌, List, [], ◌∷◌, map, ℕ, ◌≤◌, min, arith, le-leb, leb, ltb, length, take, get_or}
use Rattle.lists.specs.Lists.{every, counted, ands}
use Rattle.lists.specs.Each.{every_both, joined_ands}
use Rattle.rights.specs.Rights.{is_rights}
use Rattle.register.specs.Limits.{resource_limit, claim_limit, id_limit, weight_limit, left_limit, tells_left, ranged, is_id}
use Rattle.columns.specs.Sheet.{sheet_limit, last_column, column_of, id_column, parent_column, grantor_column, holder_column, resource_column, rights_column, weight_column, expiry_column, late_column, left_column}
use Rattle.columns.specs.SheetLaws.{column_length}
use Rattle.soundness_rules.specs.Sound.{claim_fits}
use Rattle.soundness.specs.Judged.{expiry_fits, fits_at}
use Rattle.lookup.specs.Finding.{places_found}
use Rattle.lookup.specs.declared.Found.{Found}
use Rattle.soundness.specs.World.{keepers_fit}
use Rattle.soundness.specs.WorldLaws.{every_places}

module _ {A : Type 0} where
  -- nothing asked is passed
  every_unasked : (l : List A) → every (λ x. true) l ≡ true
  every_unasked [] = refl
  every_unasked (x ∷ l) = every_unasked l

  -- tests that every element passes are one
  every_of : (tests : List (A → Bool)) (l : List A) → ands (map (λ test. every test l) tests) ≡ every (λ x. ands (map (λ test. test x) tests)) l
  every_of [] l = sym (every_unasked l)
  every_of (test ∷ tests) l =
      ap (λ b. every test l && b) (every_of tests l) ∙ every_both test (λ x. ands (map (λ test. test x) tests)) l

  -- a test that is asked only where it is told to be
  every_told : (told : Bool) (test : A → Bool) (l : List A) → not told || every test l ≡ every (λ x. not told || test x) l
  every_told true test l = refl
  every_told false test l = sym (every_unasked l)

-- a number from 0 on is asked for the greatest alone
from_none : (greatest x : ℕ) → ranged 0 greatest x ≡ leb x greatest
from_none greatest x = ap (λ b. b && leb x greatest) (le-leb 0 x (omega arith))

module _ (version : ℕ) (s : List ℕ) (n : ℕ) (short : n ≤ claim_limit) (long : length s ≡ sheet_limit) where
  -- a test of the first n numbers of a column is one of the numbers at the places
  by_place : (test asked : ℕ → Bool) (j : ℕ) → j ≤ last_column → ((x : ℕ) → test x ≡ asked x)
      → every test (take n (column_of j s)) ≡ every (λ i. asked (get_or (column_of j s) i 0)) (counted 0 n)
  by_place test asked j there same =
      sym (every_places (λ i. asked (get_or (column_of j s) i 0)) test 0 (column_of j s) n (omega (arith, short, column_length s j long there))
      (λ i inside. sym (same (get_or (column_of j s) i 0))))

  pub columns_fit : {own parent grantor holder resource rights weight left expiry : Bool}
      → own ≡ every is_id (take n (column_of id_column s))
      → parent ≡ every (ranged 0 id_limit) (take n (column_of parent_column s))
      → grantor ≡ every is_id (take n (column_of grantor_column s))
      → holder ≡ every is_id (take n (column_of holder_column s))
      → resource ≡ every is_id (take n (column_of resource_column s))
      → rights ≡ every is_rights (take n (column_of rights_column s))
      → weight ≡ every (ranged 0 weight_limit) (take n (column_of weight_column s))
      → left ≡ every (ranged 0 left_limit) (take n (column_of left_column s))
      → expiry ≡ every (expiry_fits (column_of expiry_column s) (column_of late_column s)) (counted 0 n)
      → own && parent && grantor && holder && resource && rights && weight && (not (tells_left version) || left) && expiry
      ≡ every (fits_at version s) (counted 0 n)
  unfolding claim_fits
  columns_fit o p g h c r w l e =
      let places = counted 0 n in
      let first : ℕ → Bool = λ i. is_id (get_or (column_of id_column s) i 0) in
      let others : List (ℕ → Bool) =
      (λ i. leb (get_or (column_of parent_column s) i 0) id_limit)
      ∷ (λ i. is_id (get_or (column_of grantor_column s) i 0))
      ∷ (λ i. is_id (get_or (column_of holder_column s) i 0))
      ∷ (λ i. is_id (get_or (column_of resource_column s) i 0))
      ∷ (λ i. is_rights (get_or (column_of rights_column s) i 0))
      ∷ (λ i. leb (get_or (column_of weight_column s) i 0) weight_limit)
      ∷ (λ i. not (tells_left version) || leb (get_or (column_of left_column s) i 0) left_limit)
      ∷ expiry_fits (column_of expiry_column s) (column_of late_column s)
      ∷ [] in
      rw (
        o ∙ by_place is_id is_id id_column (omega arith) (λ x. refl),
        p ∙ by_place (ranged 0 id_limit) (λ x. leb x id_limit) parent_column (omega arith) (from_none id_limit),
        g ∙ by_place is_id is_id grantor_column (omega arith) (λ x. refl),
        h ∙ by_place is_id is_id holder_column (omega arith) (λ x. refl),
        c ∙ by_place is_id is_id resource_column (omega arith) (λ x. refl),
        r ∙ by_place is_rights is_rights rights_column (omega arith) (λ x. refl),
        w ∙ by_place (ranged 0 weight_limit) (λ x. leb x weight_limit) weight_column (omega arith) (from_none weight_limit),
        l ∙ by_place (ranged 0 left_limit) (λ x. leb x left_limit) left_column (omega arith) (from_none left_limit),
        e,
        every_told (tells_left version) (λ i. leb (get_or (column_of left_column s) i 0) left_limit) places,
      )
      (joined_ands (every first places) (map (λ test. every test places) others) ∙ every_of (first ∷ others) places)

-- the keepers were looked up at once
pub keepers_told : (humans : List ℕ) (h : ℕ) (keepers : List ℕ) (m : ℕ) {top : ℕ} {found : Found} → top ≡ min m resource_limit → found ≡ places_found humans h keepers top
    → every (λ i. ltb (get_or found.places i 0) claim_limit) (counted 0 top) ≡ keepers_fit humans h keepers m
unfolding keepers_fit places_found
keepers_told humans h keepers m reach told = rw (told, reach)
