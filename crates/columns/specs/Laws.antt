-- Laws: What columns say of the lists that they are the columns of, and what the definitions over columns say place by place. Assumes nothing.
use Rattle.std.specs.Prelude.{◌≡◌, Bool, true, false, ◌&&◌, ◌||◌, eqb, ltb, leb, Option, ℕ, None, Some, List, [], ◌∷◌, ◌++◌, map, zero, suc, ◌-◌, ◌≤◌, ◌<◌, min}
use Rattle.std.proofs.Common.{sym, ◌∙◌, take-suc, get_or-take, append-nil, arith, lt-ltb, le-ltb, eq-eqb, ne_eqb, le-leb, ltb-true, ltb-false, eqb-true, leb-true, leb-false}
use Rattle.std.proofs.Math.Path.{refl, ap, fun_ext}
use Rattle.std.proofs.Math.Bool.{or-false}
use mathlib.Core.List.{reverse-append}
use borrow.Author.Tests.{eqb-false}
use Rattle.std.proofs.Math.ListN.{length, take, get_or, replicate, length-append, length-take, length-replicate, get_or-map, get_or-eq_default}
use Rattle.std.proofs.lemmas.List.{length-map}
use Rattle.std.proofs.Math.Seq.{take_all, take-append_seam}
use Rattle.lists.specs.Tests.{cases, and_left, and_right, and_both, or_left, or_right}
use Rattle.lists.specs.Lists.{any, every}
use Rattle.lists.specs.Each.{every_map, any_append}
use Rattle.register.specs.Limits.{hop_limit}
use Rattle.register.specs.Register.{no_claim}
use Rattle.register.specs.Chain.{latest, chain, numbered, circling, current, hops_of}
use Rattle.register.specs.Laws.{chain_nil, chain_hit, chain_miss, chain_zero, chain_map, circling_map, numbered_own, numbered_other}
use Rattle.register.specs.declared.Claim.{Claim}
use Rattle.columns.specs.Columns.{claim_id, parent_of, grantor_of, holder_of, weight_of, expiry_of, up_to, places, latest_place, beside, chain_places, steps_up, current_at, places_up}

and_none : (a b : Bool) → b ≡ false → a && b ≡ false
and_none true b e = e
and_none false b e = refl

-- inside a list the default is not looked at
pub get_d_inside : {A : Type 0} (l : List A) (i : ℕ) (d e : A) → i < length l → get_or l i d ≡ get_or l i e
get_d_inside [] i d e h = absurd (omega arith)
get_d_inside (x ∷ l) zero d e h = refl
get_d_inside (x ∷ l) (suc i) d e h = get_d_inside l i d e (omega arith)

-- a list up to a count
module _ {A : Type 0} (none : A) (n : ℕ) (l : List A) where
  pub up_to_length : length (up_to none n l) ≡ length l
  unfolding up_to
  up_to_length = omega (arith, length-append (take n l) (replicate (length l - n) none), length-take n l, length-replicate (length l - n) none)

  -- past its end there is nothing to put behind it
  pub up_to_all : length l ≤ n → up_to none n l ≡ l
  unfolding up_to
  up_to_all h = let over : length l - n ≡ 0 = omega arith in rw (over, take_all n l h) (append-nil l)

  -- the first are those of the list
  pub up_to_first : take n (up_to none n l) ≡ take n l
  unfolding up_to
  up_to_first =
      cases (leb n (length l))
      (λ e. let long : length (take n l) ≡ n = omega (arith, leb-true n (length l) e, length-take n l) in
      ap (λ k. take k (take n l ++ replicate (length l - n) none)) (sym long) ∙ take-append_seam (take n l) (replicate (length l - n) none))
      (λ e. ap (take n) (up_to_all (omega (arith, leb-false n (length l) e))))

  pub up_to_at : (i : ℕ) (d : A) → i < n → get_or (up_to none n l) i d ≡ get_or l i d
  up_to_at i d h = sym (get_or-take n (up_to none n l) i d h) ∙ ap (λ m. get_or m i d) up_to_first ∙ get_or-take n l i d h

-- whether place n of a column is there and holds x
abbrev holds_at : List ℕ → ℕ → ℕ → Bool
holds_at column n x = ltb n (length column) && eqb (get_or column n 0) x

module _ (column : List ℕ) (x : ℕ) where
  -- below place 0 there is none
  pub place_none : latest_place column 0 x ≡ None
  unfolding latest_place
  place_none = refl

  place_holds : (n : ℕ) → holds_at column n x ≡ true → latest_place column (suc n) x ≡ Some n
  unfolding latest_place
  place_holds n e = rw e

  place_before : (n : ℕ) → holds_at column n x ≡ false → latest_place column (suc n) x ≡ latest_place column n x
  unfolding latest_place
  place_before n e = rw e

  pub place_hit : (n : ℕ) → n < length column → get_or column n 0 ≡ x → latest_place column (suc n) x ≡ Some n
  place_hit n h e = place_holds n (rw (lt-ltb n (length column) h, eq-eqb (get_or column n 0) x e))

  pub place_miss : (n : ℕ) → n < length column → (get_or column n 0 ≡ x → ⊥) → latest_place column (suc n) x ≡ latest_place column n x
  place_miss n h e = place_before n (rw (lt-ltb n (length column) h, ne_eqb (get_or column n 0) x e))

  -- past the end of the column there is nothing, whatever is looked for
  pub place_past : (n : ℕ) → length column ≤ n → latest_place column (suc n) x ≡ latest_place column n x
  place_past n h = place_before n (rw (le-ltb n (length column) h))

  pub place_within : (n : ℕ) → latest_place column n x ≡ latest_place column (min n (length column)) x
  place_within zero = let none : min 0 (length column) ≡ 0 = omega arith in rw none
  place_within (suc n) =
      cases (ltb n (length column))
      (λ e. let inside : min (suc n) (length column) ≡ suc n = omega (arith, ltb-true n (length column) e) in rw inside)
      (λ e. let past : length column ≤ n = ltb-false n (length column) e in
      let same : min (suc n) (length column) ≡ min n (length column) = omega arith in
      rw same (place_past n past ∙ place_within n))

  -- what is found stands below n, in the column, and is x
  pub place_found_lem : (n k : ℕ) → latest_place column n x ≡ Some k → (k < n) × (k < length column) × (get_or column k 0 ≡ x)
  place_found_lem zero k q = let never : ◌≡◌ {A = ℕ} 0 1 = cc place_none in absurd (omega arith)
  place_found_lem (suc n) k q =
      cases (holds_at column n x)
      (λ e. let same : n ≡ k = cc (place_holds n e) in
      rw (← same) (
        omega arith,
        ltb-true n (length column) (and_left (ltb n (length column)) (eqb (get_or column n 0) x) e),
        eqb-true (get_or column n 0) x (and_right (ltb n (length column)) (eqb (get_or column n 0) x) e),
      ))
      (λ e. let found = place_found_lem n k (sym (place_before n e) ∙ q) in (omega (arith, found.0), found.1, found.2))

-- a place taken apart, with its equation
pub place_cases : {A : Type 0} (p : Option ℕ) → ((j : ℕ) → p ≡ Some j → A) → (p ≡ None → A) → A
place_cases (Some j) f g = f j refl
place_cases None f g = g refl

-- a number stands nowhere exactly where it is not among the first n
module _ (column : List ℕ) (x : ℕ) where
  any_next : (n : ℕ) → n < length column → any (eqb x) (take (suc n) column) ≡ any (eqb x) (take n column) || eqb x (get_or column n 0)
  any_next n h =
      rw (take-suc column n 0, any_append (eqb x) (take n column) (get_or column n 0 ∷ [])) (ap (λ b. any (eqb x) (take n column) || b) (or-false _))

  any_past : (n : ℕ) → length column ≤ n → any (eqb x) (take (suc n) column) ≡ any (eqb x) (take n column)
  any_past n h = ap (any (eqb x)) (take_all (suc n) column (omega arith) ∙ sym (take_all n column h))

  pub nowhere_none : (n : ℕ) → latest_place column n x ≡ None → any (eqb x) (take n column) ≡ false
  nowhere_none zero q = refl
  nowhere_none (suc n) q =
      cases (ltb n (length column))
      (λ t. let inside : n < length column = ltb-true n (length column) t in
      cases (eqb (get_or column n 0) x)
      (λ e. let never : ◌≡◌ {A = ℕ} 0 1 = cc (place_hit column x n inside (eqb-true (get_or column n 0) x e)) in absurd (omega arith))
      (λ e. let other : (get_or column n 0 ≡ x → ⊥) = eqb-false (get_or column n 0) x e in
      any_next n inside
      ∙ rw (nowhere_none n (sym (place_miss column x n inside other) ∙ q)) (ne_eqb x (get_or column n 0) (λ same. other (sym same)))))
      (λ t. let past : length column ≤ n = ltb-false n (length column) t in
      any_past n past ∙ nowhere_none n (sym (place_past column x n past) ∙ q))

  pub none_nowhere : (n : ℕ) → any (eqb x) (take n column) ≡ false → latest_place column n x ≡ None
  none_nowhere zero q = place_none column x
  none_nowhere (suc n) q =
      cases (ltb n (length column))
      (λ t. let inside : n < length column = ltb-true n (length column) t in
      let told : any (eqb x) (take n column) || eqb x (get_or column n 0) ≡ false = sym (any_next n inside) ∙ q in
      let before : any (eqb x) (take n column) ≡ false = or_left (any (eqb x) (take n column)) (eqb x (get_or column n 0)) told in
      let other : (x ≡ get_or column n 0 → ⊥) =
      eqb-false x (get_or column n 0) (or_right (any (eqb x) (take n column)) (eqb x (get_or column n 0)) told) in
      place_miss column x n inside (λ same. other (sym same)) ∙ none_nowhere n before)
      (λ t. let past : length column ≤ n = ltb-false n (length column) t in
      place_past column x n past ∙ none_nowhere n (sym (any_past n past) ∙ q))

  pub place_among : (n k : ℕ) → latest_place column n x ≡ Some k → any (eqb x) (take n column) ≡ true
  place_among n k q =
      cases (any (eqb x) (take n column)) (λ t. t)
      (λ t. let never : ◌≡◌ {A = ℕ} 0 1 = cc (none_nowhere n t) in absurd (omega arith))

-- a chain of places, one place more: it is taken where it holds the number looked for
module _ (ids parents : List ℕ) where
  pub chain_places_nil : (x : ℕ) → chain_places ids parents 0 x ≡ []
  unfolding places
  chain_places_nil x = chain_nil (λ j. get_or ids j 0) (λ j. get_or parents j 0) x

  chain_places_hit : (n x : ℕ) → numbered (λ j. get_or ids j 0) (λ j. get_or parents j 0) x n ≡ true
      → chain_places ids parents (suc n) x ≡ n ∷ chain_places ids parents n (get_or parents n 0)
  unfolding places
  chain_places_hit n x e = chain_hit (λ j. get_or ids j 0) (λ j. get_or parents j 0) n (places n) x e

  chain_places_miss : (n x : ℕ) → numbered (λ j. get_or ids j 0) (λ j. get_or parents j 0) x n ≡ false
      → chain_places ids parents (suc n) x ≡ chain_places ids parents n x
  unfolding places
  chain_places_miss n x e = chain_miss (λ j. get_or ids j 0) (λ j. get_or parents j 0) n (places n) x e

  -- past the end of the ids the number is 0, which names none
  chain_places_past : (n x : ℕ) → length ids ≤ n → chain_places ids parents (suc n) x ≡ chain_places ids parents n x
  chain_places_past n x h = chain_places_miss n x (rw (get_or-eq_default ids 0 h) (zero_unnumbered x))
    where
      zero_unnumbered : (x : ℕ) → ltb 0 x && eqb 0 x ≡ false
      zero_unnumbered zero = refl
      zero_unnumbered (suc x) = rw (lt-ltb 0 (suc x) (omega arith)) (ne_eqb 0 (suc x) (λ q. omega arith))

  pub chain_places_zero : (n : ℕ) → chain_places ids parents n 0 ≡ []
  chain_places_zero n = chain_zero (λ j. get_or ids j 0) (λ j. get_or parents j 0) (places n)

  -- the chain from x up begins where x stands latest
  pub chain_places_at : (n x k : ℕ) → (x ≡ 0 → ⊥) → latest_place ids n x ≡ Some k
      → chain_places ids parents n x ≡ k ∷ chain_places ids parents k (get_or parents k 0)
  chain_places_at zero x k h q = let never : ◌≡◌ {A = ℕ} 0 1 = cc (place_none ids x) in absurd (omega arith)
  chain_places_at (suc n) x k h q =
      cases (ltb n (length ids))
      (λ t. let inside : n < length ids = ltb-true n (length ids) t in
      cases (eqb (get_or ids n 0) x)
      (λ e. let same : n ≡ k = cc (place_hit ids x n inside (eqb-true (get_or ids n 0) x e)) in
      rw (← same) (chain_places_hit n x (and_both (ltb 0 x) (eqb (get_or ids n 0) x) (lt-ltb 0 x (omega arith)) e)))
      (λ e. chain_places_miss n x (and_none (ltb 0 x) (eqb (get_or ids n 0) x) e)
      ∙ chain_places_at n x k h (sym (place_miss ids x n inside (eqb-false (get_or ids n 0) x e)) ∙ q)))
      (λ t. let past : length ids ≤ n = ltb-false n (length ids) t in
      chain_places_past n x past ∙ chain_places_at n x k h (sym (place_past ids x n past) ∙ q))

  -- no place holds x, so there is no chain
  pub chain_places_nowhere : (n x : ℕ) → latest_place ids n x ≡ None → chain_places ids parents n x ≡ []
  chain_places_nowhere zero x q = chain_places_nil x
  chain_places_nowhere (suc n) x q =
      cases (ltb n (length ids))
      (λ t. let inside : n < length ids = ltb-true n (length ids) t in
      cases (eqb (get_or ids n 0) x)
      (λ e. let never : ◌≡◌ {A = ℕ} 0 1 = cc (place_hit ids x n inside (eqb-true (get_or ids n 0) x e)) in absurd (omega arith))
      (λ e. chain_places_miss n x (and_none (ltb 0 x) (eqb (get_or ids n 0) x) e)
      ∙ chain_places_nowhere n x (sym (place_miss ids x n inside (eqb-false (get_or ids n 0) x e)) ∙ q)))
      (λ t. let past : length ids ≤ n = ltb-false n (length ids) t in
      chain_places_past n x past ∙ chain_places_nowhere n x (sym (place_past ids x n past) ∙ q))

-- the chain of place number k + 1 among the places below n: it begins at k, where that is one of them
module _ (up : ℕ → ℕ) where
  numbered_places : (n k : ℕ) → k < n → chain (λ j. suc j) up (places n) (suc k) ≡ k ∷ chain (λ j. suc j) up (places k) (up k)
  unfolding places
  numbered_places zero k h = absurd (omega arith)
  numbered_places (suc n) k h =
      cases (eqb n k)
      (λ e. let same : n ≡ k = eqb-true n k e in
      rw same (chain_hit (λ j. suc j) up k (places k) (suc k) (numbered_own (λ j. suc j) up k (omega arith))))
      (λ e. let other : (suc n ≡ suc k → ⊥) = λ same. eqb-false n k e (omega arith) in
      chain_miss (λ j. suc j) up n (places n) (suc k) (numbered_other (λ j. suc j) up (suc k) n other)
      ∙ numbered_places n k (omega (arith, eqb-false n k e)))

  unnumbered_places : (n k : ℕ) → n ≤ k → chain (λ j. suc j) up (places n) (suc k) ≡ []
  unfolding places
  unnumbered_places zero k h = chain_nil (λ j. suc j) up (suc k)
  unnumbered_places (suc n) k h =
      let other : (suc n ≡ suc k → ⊥) = λ same. omega arith in
      chain_miss (λ j. suc j) up n (places n) (suc k) (numbered_other (λ j. suc j) up (suc k) n other) ∙ unnumbered_places n k (omega arith)

-- a step up goes to the place that is kept, where it is an earlier one; else there is nothing above
module _ (ups : List ℕ) (at : ℕ) where
  pub places_up_at : get_or ups at at < at → places_up ups at ≡ get_or ups at at ∷ places_up ups (get_or ups at at)
  places_up_at h = numbered_places (λ j. suc (get_or ups j j)) at (get_or ups at at) h

  pub places_up_none : at ≤ get_or ups at at → places_up ups at ≡ []
  places_up_none h = unnumbered_places (λ j. suc (get_or ups j j)) at (get_or ups at at) h

-- the limit of the steps: a chain within it, and one beyond it
module _ {A : Type 0} (l : List A) where
  pub steps_within : (k : ℕ) → length l ≡ k → k ≤ hop_limit → steps_up l ≡ Some k
  steps_within k e h = rw (e, le-leb k hop_limit h)

-- the columns of any list
module _ {A : Type 0} where
  -- the elements at the places below n are the first n, the latest first
  pub places_latest : (d : A) (l : List A) (n : ℕ) → n ≤ length l → map (λ j. get_or l j d) (places n) ≡ latest (take n l)
  unfolding places
  places_latest d l zero h = refl
  places_latest d l (suc n) h =
      let inside : n < length l = omega arith in
      let before : n ≤ length l = omega arith in
      rw (take-suc l n d, reverse-append (take n l) (get_or l n d ∷ []), places_latest d l n before)

  -- a number among the first n of a column is that of one of the first n
  pub among_natural : (f : A → ℕ) (x n : ℕ) (l : List A) → any (eqb x) (take n (map f l)) ≡ any (λ a. eqb x (f a)) (take n l)
  among_natural f x zero l = refl
  among_natural f x (suc n) [] = refl
  among_natural f x (suc n) (a ∷ l) = rw (among_natural f x n l)

  pub beside_natural : (f g : A → ℕ) (x y n : ℕ) (l : List A)
      → beside (take n (map f l)) (take n (map g l)) x y ≡ any (λ a. eqb x (f a) && eqb y (g a)) (take n l)
  unfolding beside
  beside_natural f g x y zero l = refl
  beside_natural f g x y (suc n) [] = refl
  beside_natural f g x y (suc n) (a ∷ l) = rw (beside_natural f g x y n l)

-- a column read at a place is the field of what stands there
column_at : (f : Claim → ℕ) → f no_claim ≡ 0 → (cs : List Claim) → ◌≡◌ {A = ℕ → ℕ} (λ j. get_or (map f cs) j 0) (λ j. f (get_or cs j no_claim))
column_at f z cs = fun_ext (λ j. rw z at (get_or-map f cs j no_claim))

-- the chains of the first n of a list of claims
module _ (cs : List Claim) where
  -- the places of a chain are those of the chain's claims
  pub chain_natural : (n p : ℕ)
      → map (λ j. get_or cs j no_claim) (chain_places (map claim_id cs) (map parent_of cs) n p) ≡ chain claim_id parent_of (latest (take n cs)) p
  chain_natural zero p = rw (chain_places_nil (map claim_id cs) (map parent_of cs) p, chain_nil claim_id parent_of p)
  chain_natural (suc n) p =
      cases (ltb n (length cs))
      (λ t. let inside : suc n ≤ length cs = ltb-true n (length cs) t in
      rw (column_at claim_id refl cs, column_at parent_of refl cs, ← places_latest no_claim cs (suc n) inside)
      (sym (chain_map (λ j. get_or cs j no_claim) claim_id parent_of (places (suc n)) p)))
      (λ t. let past : length cs ≤ n = ltb-false n (length cs) t in
      let ended : length (map claim_id cs) ≤ n = omega (arith, length-map cs claim_id) in
      let whole : take (suc n) cs ≡ take n cs = take_all (suc n) cs (omega arith) ∙ sym (take_all n cs past) in
      rw (chain_places_past (map claim_id cs) (map parent_of cs) n p ended, whole) (chain_natural n p))

  -- the places above a place are as many as the hops of the claim there
  pub hops_natural : (j : ℕ)
      → length (chain_places (map claim_id cs) (map parent_of cs) j (get_or (map parent_of cs) j 0)) ≡ hops_of (latest (take j cs)) (get_or cs j no_claim)
  hops_natural j =
      rw (get_or-map parent_of cs j no_claim)
      (sym (length-map (chain_places (map claim_id cs) (map parent_of cs) j (get_or cs j no_claim).parent) (λ i. get_or cs i no_claim))
      ∙ ap length (chain_natural j (get_or cs j no_claim).parent))

  pub circling_natural : (n p h : ℕ)
      → circling (λ j. get_or (map grantor_of cs) j 0) (λ j. get_or (map holder_of cs) j 0) (chain_places (map claim_id cs) (map parent_of cs) n p) h
      ≡ circling grantor_of holder_of (chain claim_id parent_of (latest (take n cs)) p) h
  circling_natural n p h =
      ap (λ f. circling f (λ j. get_or (map holder_of cs) j 0) (chain_places (map claim_id cs) (map parent_of cs) n p) h) (column_at grantor_of refl cs)
      ∙ ap (λ f. circling (λ j. grantor_of (get_or cs j no_claim)) f (chain_places (map claim_id cs) (map parent_of cs) n p) h) (column_at holder_of refl cs)
      ∙ sym (circling_map (λ j. get_or cs j no_claim) grantor_of holder_of (chain_places (map claim_id cs) (map parent_of cs) n p) h)
      ∙ ap (λ l. circling grantor_of holder_of l h) (chain_natural n p)

  -- a claim is current by its columns where it is
  current_at_lem : (moment : ℕ) → ◌≡◌ {A = ℕ → Bool} (current_at (map weight_of cs) (map expiry_of cs) moment) (λ j. current moment (get_or cs j no_claim))
  current_at_lem moment = fun_ext (λ j. rw (get_or-map weight_of cs j no_claim, get_or-map expiry_of cs j no_claim))

  -- so every claim of a chain of places is where every claim of the chain is
  pub current_natural : (moment n p : ℕ)
      → every (current_at (map weight_of cs) (map expiry_of cs) moment) (chain_places (map claim_id cs) (map parent_of cs) n p)
      ≡ every (current moment) (chain claim_id parent_of (latest (take n cs)) p)
  current_natural moment n p =
      ap (λ f. every f (chain_places (map claim_id cs) (map parent_of cs) n p)) (current_at_lem moment)
      ∙ sym (every_map (λ j. get_or cs j no_claim) (current moment) (chain_places (map claim_id cs) (map parent_of cs) n p))
      ∙ ap (every (current moment)) (chain_natural n p)

  pub chain_found : (n x k : ℕ) → (x ≡ 0 → ⊥) → latest_place (map claim_id cs) n x ≡ Some k
      → chain claim_id parent_of (latest (take n cs)) x
      ≡ get_or cs k no_claim ∷ chain claim_id parent_of (latest (take k cs)) (parent_of (get_or cs k no_claim))
  chain_found n x k h q =
      sym (chain_natural n x)
      ∙ ap (map (λ j. get_or cs j no_claim)) (chain_places_at (map claim_id cs) (map parent_of cs) n x k h q)
      ∙ ap (λ l. get_or cs k no_claim ∷ l) (chain_natural k (get_or (map parent_of cs) k 0))
      ∙ ap (λ p. get_or cs k no_claim ∷ chain claim_id parent_of (latest (take k cs)) p) (get_or-map parent_of cs k no_claim)

  -- what is nowhere has no chain
  pub chain_nowhere : (n x : ℕ) → latest_place (map claim_id cs) n x ≡ None → chain claim_id parent_of (latest (take n cs)) x ≡ []
  chain_nowhere n x q =
      sym (chain_natural n x) ∙ ap (map (λ j. get_or cs j no_claim)) (chain_places_nowhere (map claim_id cs) (map parent_of cs) n x q)
