-- Laws: What the columns of a sheet are of the claims in it, and what claims stand in the sheet of a list of them. Assumes nothing.
use Rattle.std.specs.Prelude.{◌≡◌, Bool, ◌&&◌, ℕ, zero, suc, ◌+◌, ◌*◌, ◌-◌, ◌≤◌, ◌<◌, eqb, ltb, drop, replicate, List, [], ◌∷◌, ◌++◌, map}
use Rattle.std.proofs.Common.{◌∙◌, add-one, length-drop, length-set, take_all, take-suc, get_or-take, ext_get_or, arith, le-leb, leb-true, eq-eqb, lt-ltb, ltb-true, ltb-false}
use Rattle.std.proofs.Math.Path.{refl, sym, ap, fun_ext}
use Rattle.std.proofs.Math.Bool.{true, false, cond}
use mathlib.Core.List.{map-map}
use Rattle.std.proofs.Math.Nat.{mod-add-div}
use Rattle.std.proofs.Math.Dec.{leb}
use Rattle.std.proofs.Math.ListN.{length, take, get_or, set, length-take, get_or-map, get_or-append, get_or-eq_default}
use Rattle.std.proofs.lemmas.List.{length-map, length-replicate}
use Rattle.std.proofs.Math.Seq.{set_out, take-set-le, take-set-lt, drop-set-lt, drop-set-add}
use Rattle.std.proofs.lemmas.List.Edits.{sets, sets-eq}
use Rattle.lists.specs.Tests.{cases}
use Rattle.lists.specs.Lists.{counted}
use Rattle.lists.specs.Counts.{counted_length, counted_at}
use Rattle.register.specs.Limits.{claim_limit, moment_end}
use Rattle.register.specs.Register.{claims_of, no_claim}
use Rattle.register.specs.declared.Claim.{Claim}
use Rattle.register.specs.declared.Claims.{Claims}
use Rattle.columns.specs.Laws.{get_d_inside}
use Rattle.columns.specs.Sheet.{sheet_limit, last_column, column_of, claim_of, claim_at, claims_in, numbers_of, numbers_put, claim_put, claims_put, taken_apart, sheet_with, sheet_of}

-- a column is the part of the sheet that begins at its first place
module _ (s : List ℕ) (j : ℕ) where
  pub column_within : sheet_limit ≤ length s → j ≤ last_column → column_of j s ≡ take claim_limit (drop (j * claim_limit) s)
  unfolding column_of
  column_within long there = rw (le-leb sheet_limit (length s) long, le-leb j last_column there)

  pub column_length : length s ≡ sheet_limit → j ≤ last_column → length (column_of j s) ≡ claim_limit
  column_length long there =
      rw (column_within (omega arith) there)
      (omega (arith, length-take claim_limit (drop (j * claim_limit) s), length-drop (j * claim_limit) s))

  -- no column has more places than claims may stand at
  column_most : length (column_of j s) ≤ claim_limit
  unfolding column_of
  column_most = most (leb sheet_limit (length s) && leb j last_column)
    where
      most : (b : Bool) → length (cond b (take claim_limit (drop (j * claim_limit) s)) []) ≤ claim_limit
      most true = omega (arith, length-take claim_limit (drop (j * claim_limit) s))
      most false = omega arith

-- a claim is told by its columns' numbers, those behind the last column aside
pub claim_same : (f g : ℕ → ℕ) → ((j : ℕ) → j ≤ last_column → f j ≡ g j) → claim_of f ≡ claim_of g
claim_same f g same = ap claim_of (fun_ext {f = within f} {g = within g} alike)
  where
    within : (ℕ → ℕ) → ℕ → ℕ
    within h j = cond (leb j last_column) (h j) 0

    alike : (j : ℕ) → within f j ≡ within g j
    alike j = cases (leb j last_column) (λ t. ap (λ n. cond (leb j last_column) n 0) (same j (leb-true j last_column t))) (λ t. rw t)

-- a claim is the one that has its numbers
pub claim_numbers_lem : (c : Claim) → claim_of (λ j. get_or (numbers_of c) j 0) ≡ c
claim_numbers_lem c = rw (mod-add-div c.expiry moment_end)

-- past the places of a sheet there is no claim
pub claim_past : (s : List ℕ) (i : ℕ) → claim_limit ≤ i → claim_at s i ≡ no_claim
claim_past s i past =
    claim_same (λ j. get_or (column_of j s) i 0) (λ j. 0) (λ j there. get_or-eq_default (column_of j s) 0 (omega (arith, column_most s j)))

-- the claims in a sheet are as many as its places, and each is the claim at its place
pub claims_in_length : (s : List ℕ) → length (claims_in s) ≡ claim_limit
unfolding claims_in
claims_in_length s = length-map (counted 0 claim_limit) (claim_at s) ∙ counted_length 0 claim_limit

pub claims_in_at : (s : List ℕ) (i : ℕ) → get_or (claims_in s) i no_claim ≡ claim_at s i
unfolding claims_in
claims_in_at s i =
    cases (ltb i claim_limit)
    (λ e. let own : 0 + i ≡ i = omega arith in rw own at (read 0 claim_limit i (ltb-true i claim_limit e)))
    (λ e. let past : claim_limit ≤ i = ltb-false i claim_limit e in
    let ended : length (claims_in s) ≤ i = omega (arith, claims_in_length s) in
    get_or-eq_default (claims_in s) no_claim ended ∙ sym (claim_past s i past))
  where
    read : (first n i : ℕ) → i < n → get_or (map (claim_at s) (counted first n)) i no_claim ≡ claim_at s (first + i)
    read first zero i h = absurd (omega arith)
    read first (suc n) zero h = let same : first + 0 ≡ first = omega arith in rw same
    read first (suc n) (suc i) h = let next : first + suc i ≡ suc first + i = omega arith in rw next (read (suc first) n i (omega arith))

-- a column of a sheet has the field of each claim in it. Of the two columns that keep the expiries, `claims_in_at` says what they are together.
module _ (s : List ℕ) where
  field_read : (f : Claim → ℕ) (l : List ℕ) (n : ℕ) → ((i : ℕ) → f (claim_at s i) ≡ get_or l i 0) → length l ≡ n
      → map f (map (claim_at s) (counted 0 n)) ≡ l
  field_read f l n same long =
      map-map f (claim_at s) (counted 0 n)
      ∙ ap (λ g. map g (counted 0 n)) (fun_ext same)
      ∙ counted_at 0 l n 0 (omega arith)
      ∙ take_all n l (omega arith)

  module _ (long : length s ≡ sheet_limit) where
    pub column_natural : (f : Claim → ℕ) (j : ℕ) → j ≤ last_column → ((g : ℕ → ℕ) → f (claim_of g) ≡ g j) → column_of j s ≡ map f (claims_in s)
    unfolding claims_in
    column_natural f j there field =
        sym (field_read f (column_of j s) claim_limit (λ i. field (λ k. get_or (column_of k s) i 0)) (column_length s j long there))

-- a number put at a place of a column: that column has it there, every other is as it was
module _ (s : List ℕ) (j i x : ℕ) (inside : i < claim_limit) where
  column_set_same : column_of j (set s (j * claim_limit + i) x) ≡ set (column_of j s) i x
  unfolding column_of
  column_set_same =
      rw (length-set s (j * claim_limit + i) x, drop-set-add (j * claim_limit) s i x, take-set-lt claim_limit (drop (j * claim_limit) s) i x inside)
      (put (leb sheet_limit (length s) && leb j last_column) (take claim_limit (drop (j * claim_limit) s)))
    where
      put : (b : Bool) (l : List ℕ) → cond b (set l i x) [] ≡ set (cond b l []) i x
      put true l = refl
      put false l = sym (set_out [] i x (omega arith))

  column_set_before : (m : ℕ) → m < j → column_of m (set s (j * claim_limit + i) x) ≡ column_of m s
  unfolding column_of
  column_set_before m before =
      let behind : j * claim_limit + i ≡ m * claim_limit + (j * claim_limit + i - m * claim_limit) = omega arith in
      let far : claim_limit ≤ j * claim_limit + i - m * claim_limit = omega arith in
      let same : take claim_limit (drop (m * claim_limit) (set s (j * claim_limit + i) x)) ≡ take claim_limit (drop (m * claim_limit) s) =
      ap (λ k. take claim_limit (drop (m * claim_limit) (set s k x))) behind
      ∙ ap (take claim_limit) (drop-set-add (m * claim_limit) s (j * claim_limit + i - m * claim_limit) x)
      ∙ take-set-le claim_limit (drop (m * claim_limit) s) (j * claim_limit + i - m * claim_limit) x far in
      rw (length-set s (j * claim_limit + i) x, same)

  column_set_behind : (m : ℕ) → j < m → column_of m (set s (j * claim_limit + i) x) ≡ column_of m s
  unfolding column_of
  column_set_behind m behind =
      let before : j * claim_limit + i < m * claim_limit = omega arith in
      rw (length-set s (j * claim_limit + i) x, drop-set-lt (m * claim_limit) s (j * claim_limit + i) x before)

-- numbers put at a place, one into each column from j on: what each column has then
module _ (i : ℕ) (inside : i < claim_limit) where
  numbers_put_before : (xs s : List ℕ) (j m : ℕ) → m < j → column_of m (numbers_put s i j xs) ≡ column_of m s
  numbers_put_before [] s j m before = refl
  numbers_put_before (x ∷ xs) s j m before =
      numbers_put_before xs (set s (j * claim_limit + i) x) (suc j) m (omega arith) ∙ column_set_before s j i x inside m before

  numbers_put_at : (xs s : List ℕ) (j m : ℕ) → m < length xs → column_of (j + m) (numbers_put s i j xs) ≡ set (column_of (j + m) s) i (get_or xs m 0)
  numbers_put_at [] s j m there = absurd (omega arith)
  numbers_put_at (x ∷ xs) s j zero there =
      let first : j + 0 ≡ j = omega arith in
      rw first (numbers_put_before xs (set s (j * claim_limit + i) x) (suc j) j (omega arith) ∙ column_set_same s j i x inside)
  numbers_put_at (x ∷ xs) s j (suc m) there =
      let next : j + suc m ≡ suc j + m = omega arith in
      let behind : j < suc j + m = omega arith in
      rw next (numbers_put_at xs (set s (j * claim_limit + i) x) (suc j) m (omega arith)
      ∙ ap (λ l. set l i (get_or xs m 0)) (column_set_behind s j i x inside (suc j + m) behind))

numbers_put_length : (xs s : List ℕ) (i j : ℕ) → length (numbers_put s i j xs) ≡ length s
numbers_put_length [] s i j = refl
numbers_put_length (x ∷ xs) s i j = numbers_put_length xs (set s (j * claim_limit + i) x) i (suc j) ∙ length-set s (j * claim_limit + i) x

pub claim_put_length : (s : List ℕ) (i : ℕ) (c : Claim) → length (claim_put s i c) ≡ length s
unfolding claim_put
claim_put_length s i c = numbers_put_length (numbers_of c) s i 0

-- a claim put at a place: each column has its number of it there
claim_put_at : (s : List ℕ) (i : ℕ) (c : Claim) (j : ℕ) → i < claim_limit → j ≤ last_column
    → column_of j (claim_put s i c) ≡ set (column_of j s) i (get_or (numbers_of c) j 0)
unfolding claim_put
claim_put_at s i c j inside there = let own : 0 + j ≡ j = omega arith in rw own at (numbers_put_at i inside (numbers_of c) s 0 j (omega arith))

-- claims put one after the other
pub claims_put_nil : (s : List ℕ) (i : ℕ) → claims_put s i [] ≡ s
unfolding claims_put
claims_put_nil s i = refl

pub claims_put_next : (s : List ℕ) (i : ℕ) (c : Claim) (cs : List Claim) → claims_put s i (c ∷ cs) ≡ claims_put (claim_put s i c) (i + 1) cs
unfolding claims_put
claims_put_next s i c cs = refl

-- one claim more, behind those that are put
claims_put_last : (cs : List Claim) (s : List ℕ) (i : ℕ) (c : Claim) → claims_put s i (cs ++ (c ∷ [])) ≡ claim_put (claims_put s i cs) (i + length cs) c
claims_put_last [] s i c =
    let same : i + 0 ≡ i = omega arith in
    claims_put_next s i c [] ∙ claims_put_nil (claim_put s i c) (i + 1) ∙ rw (claims_put_nil s i, same)
claims_put_last (d ∷ cs) s i c =
    let next : i + 1 + length cs ≡ i + suc (length cs) = omega arith in
    claims_put_next s i d (cs ++ (c ∷ []))
    ∙ claims_put_last cs (claim_put s i d) (i + 1) c
    ∙ rw next (sym (ap (λ l. claim_put l (i + suc (length cs)) c) (claims_put_next s i d cs)))

-- the first i + 1 claims put: the first i, and then the next
pub claims_put_first : (s : List ℕ) (cs : List Claim) (i : ℕ) → i < length cs → claims_put s 0 (take (i + 1) cs) ≡ claim_put (claims_put s 0 (take i cs)) i (get_or cs i no_claim)
claims_put_first s cs i h =
    let many : 0 + length (take i cs) ≡ i = omega (arith, length-take i cs) in
    ap (λ l. claims_put s 0 l) (ap (λ k. take k cs) (add-one i) ∙ take-suc cs i no_claim h)
    ∙ claims_put_last (take i cs) s 0 (get_or cs i no_claim)
    ∙ ap (λ k. claim_put (claims_put s 0 (take i cs)) k (get_or cs i no_claim)) many

-- a claim is taken apart where there is such a place
pub taken_apart_put : (s : List ℕ) (i : ℕ) (c : Claim) → length s ≡ sheet_limit → i < claim_limit → taken_apart s i c ≡ claim_put s i c
unfolding taken_apart
taken_apart_put s i c long inside = rw (eq-eqb (length s) sheet_limit long, lt-ltb i claim_limit inside)

claims_put_length : (cs : List Claim) (s : List ℕ) (i : ℕ) → length (claims_put s i cs) ≡ length s
claims_put_length [] s i = ap length (claims_put_nil s i)
claims_put_length (c ∷ cs) s i =
    ap length (claims_put_next s i c cs) ∙ claims_put_length cs (claim_put s i c) (i + 1) ∙ claim_put_length s i c

claims_put_at : (cs : List Claim) (s : List ℕ) (i j : ℕ) → i + length cs ≤ claim_limit → j ≤ last_column
    → column_of j (claims_put s i cs) ≡ sets (column_of j s) i (map (λ c. get_or (numbers_of c) j 0) cs)
claims_put_at [] s i j room there = ap (column_of j) (claims_put_nil s i)
claims_put_at (c ∷ cs) s i j room there =
    ap (column_of j) (claims_put_next s i c cs)
    ∙ claims_put_at cs (claim_put s i c) (i + 1) j (omega arith) there
    ∙ rw (add-one, claim_put_at s i c j (omega arith) there)

-- claims are put into what is as long as a sheet, and nothing becomes longer or shorter
pub sheet_with_put : (s : List ℕ) (cs : List Claim) → length s ≡ sheet_limit → sheet_with s cs ≡ claims_put s 0 cs
unfolding sheet_with
sheet_with_put s cs long = rw (eq-eqb (length s) sheet_limit long)

pub sheet_with_length : (s : List ℕ) (cs : List Claim) → length (sheet_with s cs) ≡ length s
unfolding sheet_with
sheet_with_length s cs =
    cases (eqb (length s) sheet_limit) (λ e. rw e (claims_put_length cs s 0)) (λ e. rw e)

-- the columns of a sheet with claims: theirs, and behind them what was there
pub column_with : (s : List ℕ) (cs : List Claim) (j : ℕ) → length s ≡ sheet_limit → length cs ≤ claim_limit → j ≤ last_column
    → column_of j (sheet_with s cs) ≡ map (λ c. get_or (numbers_of c) j 0) cs ++ drop (length cs) (column_of j s)
column_with s cs j long few there =
    let numbers : List ℕ = map (λ (c : Claim). get_or (numbers_of c) j 0) cs in
    let many : 0 + length numbers ≡ length cs = omega (arith, length-map cs (λ (c : Claim). get_or (numbers_of c) j 0)) in
    let room : 0 + length numbers ≤ length (column_of j s) = omega (arith, column_length s j long there) in
    ap (column_of j) (sheet_with_put s cs long)
    ∙ claims_put_at cs s 0 j (omega arith) there
    ∙ sets-eq numbers (column_of j s) 0 room
    ∙ ap (λ n. numbers ++ drop n (column_of j s)) many

-- the claims of a sheet with claims begin with these
module _ (s : List ℕ) (cs : List Claim) (long : length s ≡ sheet_limit) (few : length cs ≤ claim_limit) (i : ℕ) (inside : i < length cs) where
  number_with : (j : ℕ) → j ≤ last_column → get_or (column_of j (sheet_with s cs)) i 0 ≡ get_or (numbers_of (get_or cs i no_claim)) j 0
  number_with j there =
      let f : Claim → ℕ = λ c. get_or (numbers_of c) j 0 in
      let early : i < length (map f cs) = omega (arith, length-map cs f) in
      ap (λ l. get_or l i 0) (column_with s cs j long few there)
      ∙ get_or-append (map f cs) (drop (length cs) (column_of j s)) 0 i early
      ∙ get_d_inside (map f cs) i 0 (f no_claim) early
      ∙ get_or-map f cs i no_claim

  pub claim_with : claim_at (sheet_with s cs) i ≡ get_or cs i no_claim
  claim_with =
      claim_same (λ j. get_or (column_of j (sheet_with s cs)) i 0) (λ j. get_or (numbers_of (get_or cs i no_claim)) j 0) number_with
      ∙ claim_numbers_lem (get_or cs i no_claim)

pub claims_with : (s : List ℕ) (cs : List Claim) → length s ≡ sheet_limit → length cs ≤ claim_limit → take (length cs) (claims_in (sheet_with s cs)) ≡ cs
claims_with s cs long few =
    let whole = sheet_with s cs in
    let many : length (take (length cs) (claims_in whole)) ≡ length cs =
    omega (arith, length-take (length cs) (claims_in whole), claims_in_length whole) in
    ext_get_or no_claim (take (length cs) (claims_in whole)) cs many
    (λ i early. let inside : i < length cs = omega arith in
    get_or-take (length cs) (claims_in whole) i no_claim inside ∙ claims_in_at whole i ∙ claim_with s cs long few i inside)

-- the sheet of a list of claims
pub sheet_long : (k : Claims) → length (sheet_of k) ≡ sheet_limit
sheet_long k = sheet_with_length (replicate sheet_limit 0) (claims_of k) ∙ length-replicate {A = ℕ} sheet_limit 0

module _ (k : Claims) (places : length k.list ≡ claim_limit) where
  pub sheet_claims : take k.count (claims_in (sheet_of k)) ≡ claims_of k
  sheet_claims =
      let few : length (claims_of k) ≤ claim_limit = omega (arith, length-take k.count k.list) in
      take_counted k.count k.list (claims_in (sheet_of k)) (places ∙ sym (claims_in_length (sheet_of k)))
      ∙ claims_with (replicate sheet_limit 0) (claims_of k) (length-replicate {A = ℕ} sheet_limit 0) few
    where
      -- as many of the one list as the first n of the other are, where both are equally long
      take_counted : (n : ℕ) (l m : List Claim) → length l ≡ length m → take n m ≡ take (length (take n l)) m
      take_counted zero l m same = refl
      take_counted (suc n) [] [] same = refl
      take_counted (suc n) [] (c ∷ m) same = absurd (omega arith)
      take_counted (suc n) (c ∷ l) [] same = refl
      take_counted (suc n) (c ∷ l) (d ∷ m) same = ap (λ l. d ∷ l) (take_counted n l m (omega arith))
