-- A table of a column's places by buckets: how it grows by a place, and how a number is sought in it. Assumes nothing.
use Rattle.std.proofs.Common.{Option, ℕ, None, Some, ◌≡◌, refl, sym, ap, ◌∙◌, true, false, ◌&&◌, List, map, suc, ◌+◌, ◌-◌, ◌≤◌, ◌<◌, min, add-one, arith, eq-eqb, ltb-true, ltb-false, eqb-true, eqb, ltb, length, get_or, set, replicate, length-set, get_or-set_same, get_or-set_other}
use borrow.Author.Tests.{eqb-false}
use lib.ListN.{length-replicate, get_or-replicate}
use Rattle.lists.specs.Tests.{cases, and_left, and_right, and_both, clash}
use Rattle.register.specs.Limits.{claim_limit}
use Rattle.columns.specs.Columns.{latest_place}
use Rattle.columns.specs.Laws.{place_none, place_hit, place_miss, place_within, place_found_lem}
use Rattle.lookup.specs.Tables.{bucket_count, bucket_of, link_of, latest_in, Indexing, Sought}
use Rattle.lookup.proofs.Buckets.{bucket_at, bucket_hit, bucket_miss, bucket_skip, bucket_none}

bucket_below : (x : ℕ) → bucket_of x < bucket_count
bucket_below x = omega arith

-- the table of no place
pub indexing_none : (column : List ℕ) → Indexing column 0 (replicate bucket_count 0) (replicate claim_limit 0)
indexing_none column = record {
  inside = omega arith;
  within = omega arith;
  wide = length-replicate {A = ℕ} bucket_count 0;
  long = length-replicate {A = ℕ} claim_limit 0;
  headed = λ b h. get_or-replicate bucket_count b 0 0 h ∙ sym (ap link_of (place_none (map bucket_of column) b));
  chained = λ j h. absurd (omega arith);
}

module _ {column : List ℕ} {n : ℕ} {heads nexts : List ℕ} (s : Indexing column n heads nexts) (room : n < claim_limit) (inside : n < length column) where
  headed_next : (b : ℕ) → b < bucket_count → get_or (set heads (bucket_of (get_or column n 0)) (suc n)) b 0 ≡ link_of (latest_in column (suc n) b)
  headed_next b h =
      cases (eqb b (bucket_of (get_or column n 0)))
      (λ e. let same : b ≡ bucket_of (get_or column n 0) = eqb-true b (bucket_of (get_or column n 0)) e in
      let place : bucket_of (get_or column n 0) < length heads = omega (arith, s.wide) in
      rw same (get_or-set_same heads (bucket_of (get_or column n 0)) (suc n) 0 place ∙ sym (ap link_of (bucket_hit bucket_of column n inside))))
      (λ e. let other : (b ≡ bucket_of (get_or column n 0) → ⊥) = eqb-false b (bucket_of (get_or column n 0)) e in
      get_or-set_other heads (bucket_of (get_or column n 0)) b (suc n) 0 other
      ∙ s.headed b h
      ∙ sym (ap link_of (bucket_miss bucket_of column n b inside (λ q. other (sym q)))))

  chained_next : (j : ℕ) → j < suc n
      → get_or (set nexts n (get_or heads (bucket_of (get_or column n 0)) 0)) j 0 ≡ link_of (latest_in column j (bucket_of (get_or column j 0)))
  chained_next j h =
      cases (eqb j n)
      (λ e. let same : j ≡ n = eqb-true j n e in
      let place : n < length nexts = omega (arith, s.long) in
      rw same (get_or-set_same nexts n (get_or heads (bucket_of (get_or column n 0)) 0) 0 place
      ∙ s.headed (bucket_of (get_or column n 0)) (bucket_below (get_or column n 0))))
      (λ e. let other : (j ≡ n → ⊥) = eqb-false j n e in
      get_or-set_other nexts n j (get_or heads (bucket_of (get_or column n 0)) 0) 0 other ∙ s.chained j (omega arith))

  -- a place more heads its bucket, and the head that was comes behind it
  pub indexing_next : Indexing column (n + 1) (set heads (bucket_of (get_or column n 0)) (n + 1)) (set nexts n (get_or heads (bucket_of (get_or column n 0)) 0))
  indexing_next =
      rw add-one
      record {
        inside = inside;
        within = room;
        wide = length-set heads (bucket_of (get_or column n 0)) (suc n) ∙ s.wide;
        long = length-set nexts n (get_or heads (bucket_of (get_or column n 0)) 0) ∙ s.long;
        headed = headed_next;
        chained = chained_next;
      }

-- a number is sought from a link on: the link is the latest place of its bucket among the first places of the table, and what is
-- sought below a place stands among them
pub record Seeking (column heads nexts : List ℕ) (below x link : ℕ) : Type 0 where
  pub count : ℕ
  pub indexing : Indexing column count heads nexts
  pub bound : ℕ
  pub within : bound ≤ count
  pub small : link ≤ bound
  pub linked : link ≡ link_of (latest_in column bound (bucket_of x))
  pub same : latest_place column below x ≡ latest_place column (min below bound) x

-- which place a link is of
link_place : (p : Option ℕ) (j : ℕ) → suc j ≡ link_of p → p ≡ Some j
link_place (Some k) j e = let same : k ≡ j = omega arith in ap Some same
link_place None j e = absurd (omega arith)

link_none : (p : Option ℕ) → 0 ≡ link_of p → p ≡ None
link_none (Some k) e = absurd (omega arith)
link_none None e = refl

-- the link to a bucket's latest place below n is at most n
link_small : (column : List ℕ) (n b : ℕ) → link_of (latest_in column n b) ≤ n
link_small column n b = within (latest_in column n b) (place_found_lem (map bucket_of column) b n)
  where
    within : (p : Option ℕ) → ((k : ℕ) → p ≡ Some k → (k < n) × (k < length (map bucket_of column)) × (get_or (map bucket_of column) k 0 ≡ b)) → link_of p ≤ n
    within (Some k) h = omega (arith, (h k refl).0)
    within None h = omega arith

module _ {column heads nexts : List ℕ} {below x : ℕ} where
  pub seeking_start : (s : Sought column below heads nexts) → Seeking column heads nexts below x (get_or heads (bucket_of x) 0)
  seeking_start s =
      let all : min below (length column) ≡ min below s.count = omega (arith, s.reached, s.indexing.inside) in
      record {
        count = s.count;
        indexing = s.indexing;
        bound = s.count;
        within = omega arith;
        small = rw (s.indexing.headed (bucket_of x) (bucket_below x)) (link_small column s.count (bucket_of x));
        linked = s.indexing.headed (bucket_of x) (bucket_below x);
        same = rw all at (place_within column x below);
      }

  module _ {at : ℕ} (s : Seeking column heads nexts below x (suc at)) where
    found : latest_in column s.bound (bucket_of x) ≡ Some at
    found = link_place (latest_in column s.bound (bucket_of x)) at s.linked

    -- a link leads to a place of the table
    seeking_inside : at < s.count
    seeking_inside = omega (arith, s.small, s.within)

    -- behind the place that is linked to, what is sought does not stand
    seeking_skip : at < below → latest_place column below x ≡ latest_place column (suc at) x
    seeking_skip h =
        let inside : at < s.bound = omega (arith, s.small) in
        s.same ∙ bucket_skip bucket_of column x s.bound at found (min below s.bound) (omega arith) (omega arith)

    -- what is sought stands at a place that is below and holds it
    pub seeking_hit : ltb at below && eqb (get_or column at 0) x ≡ true → latest_place column below x ≡ Some at
    seeking_hit t =
        let under : at < below = ltb-true at below (and_left (ltb at below) (eqb (get_or column at 0) x) t) in
        let here : get_or column at 0 ≡ x = eqb-true (get_or column at 0) x (and_right (ltb at below) (eqb (get_or column at 0) x) t) in
        seeking_skip under ∙ place_hit column x at (omega (arith, seeking_inside, s.indexing.inside)) here

    -- at another place it is sought from the link behind it on
    pub seeking_next : ltb at below && eqb (get_or column at 0) x ≡ false → Seeking column heads nexts below x (get_or nexts at 0)
    seeking_next t =
        let inside : at < s.bound = omega (arith, s.small) in
        let own : bucket_of (get_or column at 0) ≡ bucket_of x =
        sym (bucket_at bucket_of column at (omega (arith, seeking_inside, s.indexing.inside)))
        ∙ (place_found_lem (map bucket_of column) (bucket_of x) s.bound at found).2 in
        record {
          count = s.count;
          indexing = s.indexing;
          bound = at;
          within = omega (arith, s.within);
          small = rw (s.indexing.chained at seeking_inside) (link_small column at (bucket_of (get_or column at 0)));
          linked = rw own at (s.indexing.chained at seeking_inside);
          same =
              cases (ltb at below)
              (λ u. let under : at < below = ltb-true at below u in
              let other : (get_or column at 0 ≡ x → ⊥) =
              λ q. clash (ltb at below && eqb (get_or column at 0) x) (and_both (ltb at below) (eqb (get_or column at 0) x) u (eq-eqb (get_or column at 0) x q)) t in
              let all : min below at ≡ at = omega arith in
              rw all (seeking_skip under ∙ place_miss column x at (omega (arith, seeking_inside, s.indexing.inside)) other))
              (λ u. let over : below ≤ at = ltb-false at below u in
              let all : min below s.bound ≡ min below at = omega arith in
              rw all at s.same);
        }

    -- what comes behind a place is before it
    pub seeking_less : get_or nexts at 0 < suc at
    seeking_less = rw (s.indexing.chained at seeking_inside) (omega (arith, link_small column at (bucket_of (get_or column at 0))))

  -- a link other than none is a place and 1
  pub seeking_linked : {link : ℕ} → (link ≡ 0 → ⊥) → Seeking column heads nexts below x link → Seeking column heads nexts below x (suc (link - 1))
  seeking_linked {link} e s = let one : link ≡ suc (link - 1) = omega arith in rw (← one) s

  pub seeking_done : Seeking column heads nexts below x 0 → latest_place column below x ≡ None
  seeking_done s =
      s.same ∙ bucket_none bucket_of column x s.bound (link_none (latest_in column s.bound (bucket_of x)) s.linked) (min below s.bound) (omega arith)
