-- What the latest place of a bucket says of the latest place of a number in it, for any way to put numbers in buckets. Assumes nothing.
use Rattle.std.proofs.Common.{None, Some, ◌≡◌, sym, ap, ◌∙◌, List, map, ℕ, zero, suc, ◌≤◌, ◌<◌, le_refl, arith, ltb-true, ltb-false, eqb-true, leb-true, leb-false, eqb, ltb, leb, length, get_or}
use borrow.Author.Tests.{eqb-false}
use lib.ListN.{length-map, get_or-map}
use Rattle.lists.specs.Tests.{cases}
use Rattle.columns.specs.Columns.{latest_place}
use Rattle.columns.specs.Laws.{get_d_inside, place_none, place_hit, place_miss, place_past, place_found_lem}

module _ (f : ℕ → ℕ) (column : List ℕ) where
  pub bucket_at : (n : ℕ) → n < length column → get_or (map f column) n 0 ≡ f (get_or column n 0)
  bucket_at n h = get_d_inside (map f column) n 0 (f 0) (omega (arith, length-map column f)) ∙ get_or-map f column n 0

  -- one place more: it is the latest of its bucket
  pub bucket_hit : (n : ℕ) → n < length column → latest_place (map f column) (suc n) (f (get_or column n 0)) ≡ Some n
  bucket_hit n h = place_hit (map f column) (f (get_or column n 0)) n (omega (arith, length-map column f)) (bucket_at n h)

  -- and every other bucket is as before
  pub bucket_miss : (n b : ℕ) → n < length column → (f (get_or column n 0) ≡ b → ⊥) → latest_place (map f column) (suc n) b ≡ latest_place (map f column) n b
  bucket_miss n b h e = place_miss (map f column) b n (omega (arith, length-map column f)) (λ q. e (sym (bucket_at n h) ∙ q))

  bucket_past : (n b : ℕ) → length column ≤ n → latest_place (map f column) (suc n) b ≡ latest_place (map f column) n b
  bucket_past n b h = place_past (map f column) b n (omega (arith, length-map column f))

  -- one place more is the latest of the bucket of x, or for the bucket and for x all is as before
  one_more : {A : Type 0} (x n : ℕ) → (latest_place (map f column) (suc n) (f x) ≡ Some n → A)
      → (latest_place (map f column) (suc n) (f x) ≡ latest_place (map f column) n (f x) → latest_place column (suc n) x ≡ latest_place column n x → A) → A
  one_more x n hit miss =
      cases (ltb n (length column))
      (λ t. let inside : n < length column = ltb-true n (length column) t in
      cases (eqb (f (get_or column n 0)) (f x))
      (λ e. let here : f (get_or column n 0) ≡ f x = eqb-true (f (get_or column n 0)) (f x) e in hit (rw here at (bucket_hit n inside)))
      (λ e. let other : (f (get_or column n 0) ≡ f x → ⊥) = eqb-false (f (get_or column n 0)) (f x) e in
      miss (bucket_miss n (f x) inside other) (place_miss column x n inside (λ h. other (ap f h)))))
      (λ t. let past : length column ≤ n = ltb-false n (length column) t in miss (bucket_past n (f x) past) (place_past column x n past))

  -- behind the latest place of its bucket a number stands nowhere
  pub bucket_skip : (x n j : ℕ) → latest_place (map f column) n (f x) ≡ Some j → (c : ℕ) → j < c → c ≤ n
      → latest_place column c x ≡ latest_place column (suc j) x
  bucket_skip x zero j q c low high = absurd (omega arith)
  bucket_skip x (suc n) j q c low high =
      one_more x n
      (λ here. let same : n ≡ j = cc here in let only : c ≡ suc j = omega arith in rw only)
      (λ kept same. let before : latest_place (map f column) n (f x) ≡ Some j = sym kept ∙ q in
      cases (leb c n)
      (λ e. bucket_skip x n j before c low (leb-true c n e))
      (λ e. let last : c ≡ suc n = omega (arith, leb-false c n e) in
      let inside : j < n = (place_found_lem (map f column) (f x) n j before).0 in
      rw last (same ∙ bucket_skip x n j before n inside (le_refl n))))

  -- where nothing of its bucket stands a number stands nowhere
  pub bucket_none : (x n : ℕ) → latest_place (map f column) n (f x) ≡ None → (c : ℕ) → c ≤ n → latest_place column c x ≡ None
  bucket_none x zero q c h = let none : c ≡ 0 = omega arith in rw none (place_none column x)
  bucket_none x (suc n) q c h =
      one_more x n
      (λ here. let never : ◌≡◌ {A = ℕ} 0 1 = cc here in absurd (omega arith))
      (λ kept same. let before : latest_place (map f column) n (f x) ≡ None = sym kept ∙ q in
      cases (leb c n)
      (λ e. bucket_none x n before c (leb-true c n e))
      (λ e. let last : c ≡ suc n = omega (arith, leb-false c n e) in rw last (same ∙ bucket_none x n before n (le_refl n))))
