-- Claims judged over those before them, from the front: the first i of them are as they should be, and the hops of each are kept.
-- Assumes nothing.
use Rattle.std.proofs.Common.{Option, ℕ, None, Some, ◌≡◌, refl, sym, ap, ◌∙◌, Bool, true, false, List, ◌∷◌, ◌++◌, map, suc, ◌+◌, ◌≤◌, ◌<◌, min, add-one, arith, eqb-true, eqb, length, take, drop, get_or, set, take-append-drop, length-take, length-set, take-take, get_or-set_same, get_or-set_other}
use borrow.Author.Tests.{eqb-false}
use lib.ListN.{length-map, get_or-map}
use Rattle.lists.specs.Tests.{cases, clash}
use Rattle.lists.specs.Lists.{any, distinct}
use Rattle.lists.specs.Loops.{drop_at}
use Rattle.lists.specs.Distinct.{distinct_again}
use Rattle.register.specs.Limits.{claim_limit}
use Rattle.register.specs.Register.{no_claim}
use Rattle.register.specs.Chain.{latest, hops_of}
use Rattle.register.specs.declared.Claim.{Claim}
use Rattle.columns.specs.Columns.{claim_id, parent_of, grantor_of, holder_of, latest_place, chain_places}
use Rattle.columns.specs.Laws.{place_cases, place_found_lem, nowhere_none, none_nowhere, chain_places_zero}
use Rattle.columns.specs.Laws as column-laws
use Rattle.columns.specs.Sheet.{sheet_limit, column_of, claim_at, claims_in, id_column, parent_column, grantor_column, holder_column}
use Rattle.columns.specs.SheetLaws.{claims_in_length, claims_in_at, column_natural}
use Rattle.lookup.specs.Finding.{place_number, asked, earlier_places}
use Rattle.lookup.specs.Laws.{tabled_length, earlier_at}
use Rattle.soundness_rules.specs.Sound.{over}
use Rattle.claim_judging.specs.Over.{over_at, stand_over}
use Rattle.claim_judging.specs.OverLaws.{KeptPlaces, higher, root_stands, parent_nowhere, one_hop_more, over_natural, stand_nil}
use Rattle.soundness.specs.Standing.{stand_next, stand_failed}

-- a place told by its number: below the limit it is that, and the limit is none
number_at : (p : Option ℕ) (x : ℕ) → x ≡ place_number claim_limit p → x < claim_limit → p ≡ Some x
number_at (Some j) x e h = ap Some (sym e)
number_at None x e h = absurd (omega arith)

number_none : (p : Option ℕ) (x : ℕ) → x ≡ place_number claim_limit p → ((j : ℕ) → p ≡ Some j → j < claim_limit) → claim_limit ≤ x → p ≡ None
number_none (Some j) x e below h = absurd (omega (arith, below j refl))
number_none None x e below h = refl

-- of distinct numbers none stands before its place
unseen : (l : List ℕ) (n i : ℕ) → distinct (take n l) ≡ true → i < n → i < length l → any (eqb (get_or l i 0)) (take i l) ≡ false
unseen l n i apart below inside =
    let x = get_or l i 0 in
    let there : i < length (take n l) = omega (arith, below, inside, length-take n l) in
    let parts : take n l ≡ take i l ++ (x ∷ drop (i + 1) (take n l)) =
    sym (take-append-drop i (take n l)) ∙ rw (take-take i n l (omega arith), drop_at n l i 0 there) in
    cases (any (eqb x) (take i l))
    (λ t. clash (distinct (take n l)) apart (ap distinct parts ∙ distinct_again (take i l) x (drop (i + 1) (take n l)) t))
    (λ t. t)

-- the tables of a list of claims with distinct ids, to be judged in a version: its columns of grantors and holders, and where each one's parent stands before it
pub record Tables (version : ℕ) (cs : List Claim) (n : ℕ) (grantors holders ups : List ℕ) : Type 0 where
  pub long : length cs ≡ claim_limit
  pub short : n ≤ claim_limit
  pub granted : grantors ≡ map grantor_of cs
  pub held : holders ≡ map holder_of cs
  pub parents : ups ≡ earlier_places (map claim_id cs) (map parent_of cs) n
  pub wide : length ups ≡ claim_limit
  pub distant : distinct (take n (map claim_id cs)) ≡ true

earlier_long : (column wanted : List ℕ) (m : ℕ) → length (earlier_places column wanted m) ≡ claim_limit
unfolding earlier_places
earlier_long column wanted m =
    tabled_length (λ i. place_number claim_limit (latest_place column i (get_or wanted i 0))) (asked m wanted) (omega arith)

-- those of the claims in a sheet
pub sheet_tables : (version : ℕ) (s : List ℕ) (n : ℕ) {grantors holders ups : List ℕ} → n ≤ claim_limit → length s ≡ sheet_limit
    → distinct (take n (column_of id_column s)) ≡ true → ups ≡ earlier_places (column_of id_column s) (column_of parent_column s) n
    → grantors ≡ column_of grantor_column s → holders ≡ column_of holder_column s → Tables version (claims_in s) n grantors holders ups
sheet_tables version s n short long distant parents granted held = record {
  long = claims_in_length s;
  short = short;
  granted = granted ∙ column_natural s long grantor_of grantor_column (omega arith) (λ g. refl);
  held = held ∙ column_natural s long holder_of holder_column (omega arith) (λ g. refl);
  parents = parents ∙ rw (column_natural s long claim_id id_column (omega arith) (λ g. refl), column_natural s long parent_of parent_column (omega arith) (λ g. refl));
  wide = ap length parents ∙ earlier_long (column_of id_column s) (column_of parent_column s) n;
  distant = rw (column_natural s long claim_id id_column (omega arith) (λ g. refl)) at distant;
}

-- a claim as it was read off the sheet is the one in it, and what is asked of it and its parent is asked of those in it
pub parent_read : (s : List ℕ) (i : ℕ) {c : Claim} → c ≡ claim_at s i → (get_or (claims_in s) i no_claim).parent ≡ c.parent
parent_read s i read = ap (λ c. c.parent) (claims_in_at s i ∙ sym read)

pub over_read : (version : ℕ) (s ups grantors holders : List ℕ) (up steps i : ℕ) {p c : Claim} {answer : Bool} → p ≡ claim_at s up → c ≡ claim_at s i
    → answer ≡ over_at version ups grantors holders up steps p c
    → answer ≡ over_at version ups grantors holders up steps (get_or (claims_in s) up no_claim) (get_or (claims_in s) i no_claim)
over_read version s ups grantors holders up steps i parent claim told = told ∙ rw (parent, claim, claims_in_at s up, claims_in_at s i)

-- the claims before place i are as they should be, and their hops are kept: by `hops_natural` the running count is 01's
pub record Climbed (version : ℕ) (cs : List Claim) (n : ℕ) (hops : List ℕ) (i : ℕ) : Type 0 where
  pub within : i ≤ n
  pub room : length hops ≡ claim_limit
  pub stands : stand_over version (latest (take i cs)) ≡ true
  pub kept : (j : ℕ) → j < i → get_or hops j 0 ≡ hops_of (latest (take j cs)) (get_or cs j no_claim)
  pub low : (j : ℕ) → j < i → get_or hops j 0 ≤ j

pub climbed_none : (version : ℕ) (cs : List Claim) (n : ℕ) (hops : List ℕ) → length hops ≡ claim_limit → Climbed version cs n hops 0
climbed_none version cs n hops room = record {
  within = omega arith;
  room = room;
  stands = stand_nil version;
  kept = λ j h. absurd (omega arith);
  low = λ j h. absurd (omega arith);
}

module _ {version : ℕ} {cs : List Claim} {n : ℕ} {hops : List ℕ} {i : ℕ} (s : Climbed version cs n hops i) (long : length cs ≡ claim_limit) (short : n ≤ claim_limit) (inside : i < n) where
  -- one claim more
  climbed_next : (steps : ℕ) → over version (latest (take i cs)) (get_or cs i no_claim) ≡ true → steps ≡ hops_of (latest (take i cs)) (get_or cs i no_claim)
      → steps ≤ i → Climbed version cs n (set hops i steps) (i + 1)
  climbed_next steps behind e few = record {
    within = omega arith;
    room = length-set hops i steps ∙ s.room;
    stands = stand_next version cs i (omega arith) ∙ rw (behind, s.stands);
    kept = λ j h. cases (eqb j i)
        (λ t. let same : j ≡ i = eqb-true j i t in rw same (get_or-set_same hops i steps 0 (omega (arith, s.room)) ∙ e))
        (λ t. let other : (j ≡ i → ⊥) = eqb-false j i t in get_or-set_other hops i j steps 0 other ∙ s.kept j (omega arith));
    low = λ j h. cases (eqb j i)
        (λ t. let same : j ≡ i = eqb-true j i t in rw (same, get_or-set_same hops i steps 0 (omega (arith, s.room))) few)
        (λ t. let other : (j ≡ i → ⊥) = eqb-false j i t in rw (get_or-set_other hops i j steps 0 other) (s.low j (omega arith)));
  }

module _ {version : ℕ} {cs : List Claim} {n : ℕ} {grantors holders ups : List ℕ} (t : Tables version cs n grantors holders ups) {i : ℕ} (inside : i < n) where
  asked_inside : (f : Claim → ℕ) → i < min n (min claim_limit (length (map f cs)))
  asked_inside f = omega (arith, inside, t.short, t.long, length-map cs f)

  pub ups_at : get_or ups i 0 ≡ place_number claim_limit (latest_place (map claim_id cs) i (get_or cs i no_claim).parent)
  ups_at =
      rw t.parents (earlier_at (map claim_id cs) (map parent_of cs) n i 0 (asked_inside parent_of))
      ∙ ap (λ x. place_number claim_limit (latest_place (map claim_id cs) i x)) (get_or-map parent_of cs i no_claim)

  -- the places of the parents are kept of the claims before it
  kept_ups : KeptPlaces (map claim_id cs) (map parent_of cs) ups i
  kept_ups j k before e =
      rw t.parents (earlier_at (map claim_id cs) (map parent_of cs) n j 0 (omega (arith, before, inside, t.short, t.long, length-map cs parent_of)))
      ∙ ap (place_number claim_limit) e

  below : (x j : ℕ) → latest_place (map claim_id cs) i x ≡ Some j → j < claim_limit
  below x j q = let found = place_found_lem (map claim_id cs) x i j q in omega (arith, found.0, inside, t.short)

  fails : over version (latest (take i cs)) (get_or cs i no_claim) ≡ false → stand_over version (latest (take n cs)) ≡ false
  fails = stand_failed version cs i n (omega (arith, t.long, t.short, inside)) inside

  -- its id does not stand before it
  apart : latest_place (map claim_id cs) i (get_or cs i no_claim).id ≡ None
  apart =
      let there : i < length (map claim_id cs) = omega (arith, inside, t.short, t.long, length-map cs claim_id) in
      none_nowhere (map claim_id cs) (get_or cs i no_claim).id i
      (ap (λ x. any (eqb x) (take i (map claim_id cs))) (sym (get_or-map claim_id cs i no_claim))
      ∙ unseen (map claim_id cs) n i t.distant inside there)

  -- it is a root
  pub root_passed : {hops : List ℕ} → Climbed version cs n hops i → (get_or cs i no_claim).parent ≡ 0 → Climbed version cs n (set hops i 0) (i + 1)
  root_passed s e =
      climbed_next s t.long t.short inside 0 (root_stands version cs i (get_or cs i no_claim) apart e)
      (sym (ap (λ x. length (chain_places (map claim_id cs) (map parent_of cs) i x)) (get_or-map parent_of cs i no_claim ∙ e)
      ∙ ap length (chain_places_zero (map claim_id cs) (map parent_of cs) i))
      ∙ column-laws.hops_natural cs i)
      (omega arith)

  module _ (o : (get_or cs i no_claim).parent ≡ 0 → ⊥) where
    -- its parent stands nowhere before it
    pub parent_failed : claim_limit ≤ get_or ups i 0 → stand_over version (latest (take n cs)) ≡ false
    parent_failed h =
        fails (parent_nowhere version cs i (get_or cs i no_claim) apart o
        (number_none (latest_place (map claim_id cs) i (get_or cs i no_claim).parent) (get_or ups i 0) ups_at (below (get_or cs i no_claim).parent) h))

    module _ (found : get_or ups i 0 < claim_limit) where
      stood : latest_place (map claim_id cs) i (get_or cs i no_claim).parent ≡ Some (get_or ups i 0)
      stood = number_at (latest_place (map claim_id cs) i (get_or cs i no_claim).parent) (get_or ups i 0) ups_at found

      parent_before : get_or ups i 0 < i
      parent_before = (place_found_lem (map claim_id cs) (get_or cs i no_claim).parent i (get_or ups i 0) stood).0

      -- it has one hop more than its parent, and no more hops than its place
      parent_steps : {hops : List ℕ} → Climbed version cs n hops i → get_or hops (get_or ups i 0) 0 + 1 ≤ i
      parent_steps s = omega (arith, s.low (get_or ups i 0) parent_before, parent_before)

      pub parent_low : {hops : List ℕ} → Climbed version cs n hops i → get_or hops (get_or ups i 0) 0 + 1 < claim_limit
      parent_low s = omega (arith, parent_steps s, inside, t.short)

      module _ {hops : List ℕ} (s : Climbed version cs n hops i) {answer : Bool}
          (told : answer ≡ over_at version ups grantors holders (get_or ups i 0) (get_or hops (get_or ups i 0) 0) (get_or cs (get_or ups i 0) no_claim) (get_or cs i no_claim)) where
        steps_kept : get_or hops (get_or ups i 0) 0 ≡ length (higher (map claim_id cs) (map parent_of cs) (get_or ups i 0))
        steps_kept = s.kept (get_or ups i 0) parent_before ∙ sym (column-laws.hops_natural cs (get_or ups i 0))

        judged : answer ≡ over version (latest (take i cs)) (get_or cs i no_claim)
        judged =
            told
            ∙ rw (t.granted, t.held)
            (over_natural version cs i (get_or cs i no_claim) apart o (get_or ups i 0) stood ups (get_or hops (get_or ups i 0) 0) kept_ups steps_kept)

        pub over_failed : answer ≡ false → stand_over version (latest (take n cs)) ≡ false
        over_failed h = fails (sym judged ∙ h)

        pub over_passed : answer ≡ true → Climbed version cs n (set hops i (get_or hops (get_or ups i 0) 0 + 1)) (i + 1)
        over_passed h =
            climbed_next s t.long t.short inside (get_or hops (get_or ups i 0) 0 + 1) (sym judged ∙ h)
            (add-one (get_or hops (get_or ups i 0) 0)
            ∙ ap suc steps_kept
            ∙ sym (one_hop_more version cs i (get_or cs i no_claim) apart o (get_or ups i 0) stood)
            ∙ ap (λ x. length (chain_places (map claim_id cs) (map parent_of cs) i x)) (sym (get_or-map parent_of cs i no_claim))
            ∙ column-laws.hops_natural cs i)
            (parent_steps s)

-- the same of claims as they are read off a sheet
module _ (s : List ℕ) {version n : ℕ} {grantors holders ups : List ℕ} (t : Tables version (claims_in s) n grantors holders ups) {i : ℕ} (inside : i < n)
    {c : Claim} (claim : c ≡ claim_at s i) where
  pub root_read : {hops : List ℕ} → Climbed version (claims_in s) n hops i → c.parent ≡ 0 → Climbed version (claims_in s) n (set hops i 0) (i + 1)
  root_read climbed e = root_passed t inside climbed (parent_read s i claim ∙ e)

  module _ (o : c.parent ≡ 0 → ⊥) where
    child : (get_or (claims_in s) i no_claim).parent ≡ 0 → ⊥
    child root = o (sym (parent_read s i claim) ∙ root)

    pub lost_read : claim_limit ≤ get_or ups i 0 → stand_over version (latest (take n (claims_in s))) ≡ false
    lost_read = parent_failed t inside child

    module _ (found : get_or ups i 0 < claim_limit) {hops : List ℕ} (climbed : Climbed version (claims_in s) n hops i) where
      pub low_read : get_or hops (get_or ups i 0) 0 + 1 < claim_limit
      low_read = parent_low t inside child found climbed

      module _ {p : Claim} (parent : p ≡ claim_at s (get_or ups i 0)) {answer : Bool}
          (told : answer ≡ over_at version ups grantors holders (get_or ups i 0) (get_or hops (get_or ups i 0) 0) p c) where
        asked_read : answer ≡ over_at version ups grantors holders (get_or ups i 0) (get_or hops (get_or ups i 0) 0)
            (get_or (claims_in s) (get_or ups i 0) no_claim) (get_or (claims_in s) i no_claim)
        asked_read = over_read version s ups grantors holders (get_or ups i 0) (get_or hops (get_or ups i 0) 0) i parent claim told

        pub failed_read : answer ≡ false → stand_over version (latest (take n (claims_in s))) ≡ false
        failed_read = over_failed t inside child found climbed asked_read

        pub passed_read : answer ≡ true → Climbed version (claims_in s) n (set hops i (get_or hops (get_or ups i 0) 0 + 1)) (i + 1)
        passed_read = over_passed t inside child found climbed asked_read
