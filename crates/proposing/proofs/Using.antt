-- Which numbers are ids, told id by id, and the least that is none. Assumes nothing.
use Rattle.std.proofs.Common.{◌≡◌, refl, sym, ap, ◌∙◌, Bool, true, false, ◌||◌, List, [], ◌∷◌, ◌++◌, ℕ, suc, ◌+◌, ◌-◌, ◌≤◌, ◌<◌, zero-add, add-one, arith, ne_eqb, eqb-true, eqb, length, take, get_or, set, replicate, length-set, length-take, take-suc, get_or-set_same, get_or-set_other, ext_get_or}
use mathlib.Core.Bool.{or-true, or-false}
use borrow.Author.Tests.{eqb-false}
use lib.ListN.{length-map}
use Rattle.lists.specs.Tests.{cases}
use Rattle.lists.specs.Lists.{any, counted}
use Rattle.lists.specs.Each.{any_append}
use Rattle.lists.specs.Counts.{counted_length, counted_read}
use Rattle.register.specs.Limits.{claim_limit}
use Rattle.register.specs.declared.Claim.{Claim}
use Rattle.columns.specs.Columns.{claim_id}
use Rattle.columns.specs.Laws.{among_natural}
use Rattle.columns.specs.Sheet.{sheet_limit, column_of, claims_in, id_column}
use Rattle.columns.specs.SheetLaws.{column_natural, claims_in_length}
use Rattle.proposals.specs.Proposals.{free_from, least_free}
use Rattle.proposing.specs.Planned.{ids_tried, ids_used}

used_length : (l : List ℕ) → length (ids_used l) ≡ ids_tried
unfolding ids_used
used_length l = length-map (counted 0 ids_tried) (λ k. any (eqb k) l) ∙ counted_length 0 ids_tried

-- what is told of a number
pub used_read : (l : List ℕ) (k : ℕ) → k < ids_tried → get_or (ids_used l) k false ≡ any (eqb k) l
unfolding ids_used
used_read l k h = counted_read (λ k. any (eqb k) l) ids_tried 0 k false h ∙ ap (λ j. any (eqb j) l) (zero-add k)

-- one id more
any_more : (l : List ℕ) (v k : ℕ) → any (eqb k) (l ++ (v ∷ [])) ≡ any (eqb k) l || eqb k v
any_more l v k = any_append (eqb k) l (v ∷ []) ∙ ap (λ b. any (eqb k) l || b) (or-false (eqb k v))

used_more : (l : List ℕ) (v : ℕ) → v < ids_tried → set (ids_used l) v true ≡ ids_used (l ++ (v ∷ []))
used_more l v small =
    ext_get_or false (set (ids_used l) v true) (ids_used (l ++ (v ∷ [])))
    (length-set (ids_used l) v true ∙ used_length l ∙ sym (used_length (l ++ (v ∷ []))))
    (λ k inside. let below : k < ids_tried = omega (arith, inside, length-set (ids_used l) v true, used_length l) in
    cases (eqb k v)
    (λ e. let same : k ≡ v = eqb-true k v e in
    ap (λ j. get_or (set (ids_used l) v true) j false) same
    ∙ get_or-set_same (ids_used l) v true false (omega (arith, small, used_length l))
    ∙ sym (used_read (l ++ (v ∷ [])) k below ∙ any_more l v k ∙ ap (λ b. any (eqb k) l || b) e ∙ or-true (any (eqb k) l)))
    (λ e. get_or-set_other (ids_used l) v k true false (eqb-false k v e)
    ∙ used_read l k below
    ∙ sym (used_read (l ++ (v ∷ [])) k below ∙ any_more l v k ∙ ap (λ b. any (eqb k) l || b) e ∙ or-false (any (eqb k) l))))

used_other : (l : List ℕ) (v : ℕ) → ids_tried ≤ v → ids_used l ≡ ids_used (l ++ (v ∷ []))
used_other l v great =
    ext_get_or false (ids_used l) (ids_used (l ++ (v ∷ []))) (used_length l ∙ sym (used_length (l ++ (v ∷ []))))
    (λ k inside. let below : k < ids_tried = omega (arith, inside, used_length l) in
    let apart : eqb k v ≡ false = ne_eqb k v (λ same. omega (arith, below, great, same)) in
    used_read l k below
    ∙ sym (used_read (l ++ (v ∷ [])) k below ∙ any_more l v k ∙ ap (λ b. any (eqb k) l || b) apart ∙ or-false (any (eqb k) l)))

-- ---- the loop over the ids

pub record Using (ids : List ℕ) (n : ℕ) (used : List Bool) (i : ℕ) : Type 0 where
  pub within : i ≤ n
  pub long : n ≤ length ids
  pub told : used ≡ ids_used (take i ids)

module _ {ids : List ℕ} {n : ℕ} where
  pub using_start : n ≤ length ids → Using ids n (replicate ids_tried false) 0
  unfolding ids_used
  using_start h = record { within = omega arith; long = h; told = refl }

  module _ {used : List Bool} {i : ℕ} (s : Using ids n used i) where
    module _ (h : i < n) where
      one_more : take (i + 1) ids ≡ take i ids ++ (get_or ids i 0 ∷ [])
      one_more = ap (λ k. take k ids) (add-one i) ∙ take-suc ids i 0 (omega (arith, s.long))

      module _ {id : ℕ} (read : id ≡ get_or ids i 0) where
        pub using_hit : id < ids_tried → Using ids n (set used id true) (i + 1)
        using_hit small =
            record {
              within = omega arith;
              long = s.long;
              told = ap (λ l. set l id true) s.told ∙ used_more (take i ids) id small ∙ ap ids_used (rw read (sym one_more));
            }

        pub using_past : ids_tried ≤ id → Using ids n used (i + 1)
        using_past great =
            record { within = omega arith; long = s.long; told = s.told ∙ used_other (take i ids) id great ∙ ap ids_used (rw read (sym one_more)) }

-- ---- the loop over the numbers

module _ (cs : List Claim) where
  free_next : (tries m : ℕ) → any (λ c. eqb m c.id) cs ≡ true → free_from (suc tries) m cs ≡ free_from tries (suc m) cs
  unfolding free_from
  free_next tries m e = rw e

  free_found : (tries m : ℕ) → any (λ c. eqb m c.id) cs ≡ false → free_from (suc tries) m cs ≡ m
  unfolding free_from
  free_found tries m e = rw e

  free_last : (m : ℕ) → free_from 0 m cs ≡ m
  unfolding free_from
  free_last m = refl

-- the first n claims of a sheet: the numbers below `id` are all used
pub record Trying (s : List ℕ) (n : ℕ) (used : List Bool) (id : ℕ) : Type 0 where
  pub least : 1 ≤ id
  pub most : id ≤ n + 1
  pub few : n ≤ claim_limit
  pub told : used ≡ ids_used (take n (column_of id_column s))
  pub full : length s ≡ sheet_limit
  pub ahead : least_free (take n (claims_in s)) ≡ free_from (n + 1 - id) id (take n (claims_in s))

module _ {s : List ℕ} {n : ℕ} {used : List Bool} where
  pub trying_start : n ≤ claim_limit → length s ≡ sheet_limit → used ≡ ids_used (take n (column_of id_column s)) → Trying s n used 1
  trying_start h full e =
      let long : length (take n (claims_in s)) ≡ n + 1 - 1 = omega (arith, h, length-take n (claims_in s), claims_in_length s) in
      record {
        least = omega arith;
        most = omega arith;
        few = h;
        told = e;
        full = full;
        ahead = ap (λ k. free_from k 1 (take n (claims_in s))) long;
      }

  module _ {id : ℕ} (t : Trying s n used id) where
    -- what is told of the number that is tried
    told_read : id ≤ n → get_or used id false ≡ any (λ c. eqb id c.id) (take n (claims_in s))
    told_read h =
        ap (λ l. get_or l id false) t.told
        ∙ used_read (take n (column_of id_column s)) id (omega (arith, h, t.few))
        ∙ ap (λ l. any (eqb id) (take n l)) (column_natural s t.full claim_id id_column (omega arith) (λ g. refl))
        ∙ among_natural claim_id id n (claims_in s)

    one_less : id ≤ n → n + 1 - id ≡ suc (n + 1 - suc id)
    one_less h = omega (arith, h)

    pub trying_next : id ≤ n → get_or used id false ≡ true → Trying s n used (id + 1)
    trying_next h e =
        record {
          least = omega arith;
          most = omega arith;
          few = t.few;
          told = t.told;
          full = t.full;
          ahead = t.ahead
              ∙ ap (λ k. free_from k id (take n (claims_in s))) (one_less h)
              ∙ free_next (take n (claims_in s)) (n + 1 - suc id) id (sym (told_read h) ∙ e)
              ∙ ap (λ k. free_from (n + 1 - k) k (take n (claims_in s))) (sym (add-one id));
        }

    pub trying_found : id ≤ n → get_or used id false ≡ false → id ≡ least_free (take n (claims_in s))
    trying_found h e =
        sym (t.ahead
        ∙ ap (λ k. free_from k id (take n (claims_in s))) (one_less h)
        ∙ free_found (take n (claims_in s)) (n + 1 - suc id) id (sym (told_read h) ∙ e))

    -- after the last one the next is free
    pub trying_done : n < id → n + 1 ≡ least_free (take n (claims_in s))
    trying_done h =
        let none : n + 1 - id ≡ 0 = omega (arith, h, t.most) in
        let next : n + 1 ≡ id = omega (arith, h, t.most) in
        next ∙ sym (t.ahead ∙ ap (λ k. free_from k id (take n (claims_in s))) none ∙ free_last (take n (claims_in s)) id)
