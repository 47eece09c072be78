-- Laws of arrays filled one by one from what was read. Assumes nothing.
use Rattle.std.proofs.Common.{ℕ, zero, suc, ◌+◌, ◌-◌, ◌*◌, ◌≤◌, ◌<◌, ◌≡◌, refl, sym, ap, ◌∙◌, List, [], ◌∷◌, ◌++◌, map, arith, add-one, length, take, drop, get_or, set, replicate, length-append, length-take, length-drop, length-take-le, take-suc, get_or-take, get_or-drop, get_or-append-add}
use lib.ListN.{length-map, get_or-append}
use lib.Seq.{take-length}
use Rattle.lists.specs.Fills.{put_first}
use Rattle.actions.specs.Actions.{no_use, use_limit}
use Rattle.json_rules.specs.Names.{read_place, write_place, execute_place}
use Rattle.json_rules.specs.Actions.{used_with}
use Rattle.json_reading.specs.Answers.{block_of, list_room, uses_taken}

-- an array that holds the first i elements of a list, with nothing behind them, holds one more
pub filled_next : {A : Type 0} (xs : List A) (n i : ℕ) (none x : A) (l : List A) → i < length xs → i < n → l ≡ take i xs ++ replicate (n - i) none →
    x ≡ get_or xs i none → set l i x ≡ take (i + 1) xs ++ replicate (n - (i + 1)) none
filled_next xs n i none x l inside room e f =
    ap (λ m. set m i x) e
    ∙ put_first (take i xs) n i none x (length-take-le i xs (omega arith)) room
    ∙ rw (f, add-one, take-suc xs i none inside)

-- and all of them, once it holds as many as they are
pub filled_whole : {A : Type 0} (xs : List A) (n i : ℕ) (none : A) (l : List A) → length xs ≤ i → i ≤ length xs → l ≡ take i xs ++ replicate (n - i) none →
    l ≡ xs ++ replicate (n - length xs) none
filled_whole xs n i none l low high e = let same : i ≡ length xs = omega arith in e ∙ rw (same, take-length)

-- a mapped list at a place that it has
map_at : {A B : Type 0} (f : A → B) (l : List A) (i : ℕ) (d : A) (e : B) → i < length l → get_or (map f l) i e ≡ f (get_or l i d)
map_at f [] i d e inside = absurd (omega arith)
map_at f (a ∷ l) zero d e inside = refl
map_at f (a ∷ l) (suc i) d e inside = map_at f l i d e (omega arith)

-- the uses of the three lists one by one
module _ (numbers : List ℕ) (reads writes executes : ℕ) (room : length numbers ≡ list_room) (few : reads + writes + executes ≤ use_limit) where
  -- the i-th number of a list that stands in the array from `base` on
  used_at : (b base n i : ℕ) → i < n → base + n ≤ length numbers →
      get_or (used_with b (take n (drop base numbers))) i no_use ≡ record { resource = get_or numbers (base + i) 0; right = b }
  used_at b base n i inside within =
      let long : length (take n (drop base numbers)) ≡ n = simp (length-take, length-drop) (omega arith) in
      map_at (λ m. record { resource = m; right = b }) (take n (drop base numbers)) i 0 no_use (omega arith)
      ∙ ap (λ m. record { resource = m; right = b }) (get_or-take n (drop base numbers) i 0 inside ∙ get_or-drop base numbers i 0)

  used_length : (b base n : ℕ) → base + n ≤ length numbers → length (used_with b (take n (drop base numbers))) ≡ n
  used_length b base n within = simp (length-map, length-take, length-drop) (omega arith)

  pub uses_length : length (uses_taken numbers reads writes executes) ≡ reads + writes + executes
  uses_length = simp (length-append, length-map, length-take, length-drop) (omega arith)

  pub read_at : (i : ℕ) → i < reads → record { resource = get_or numbers i 0; right = 0 } ≡ get_or (uses_taken numbers reads writes executes) i no_use
  read_at i inside =
      let first = used_with 0 (take reads (drop (block_of read_place) numbers)) in
      let rest = used_with 1 (take writes (drop (block_of write_place) numbers)) ++ used_with 2 (take executes (drop (block_of execute_place) numbers)) in
      let place : 0 + i ≡ i = omega arith in
      sym (get_or-append first rest no_use i (omega (arith, used_length 0 0 reads (omega arith))) ∙ used_at 0 0 reads i inside (omega arith) ∙ rw place)

  pub write_at : (i : ℕ) → reads ≤ i → i < reads + writes →
      record { resource = get_or numbers (use_limit + i - reads) 0; right = 1 } ≡ get_or (uses_taken numbers reads writes executes) i no_use
  write_at i low high =
      let first = used_with 0 (take reads (drop (block_of read_place) numbers)) in
      let second = used_with 1 (take writes (drop (block_of write_place) numbers)) in
      let third = used_with 2 (take executes (drop (block_of execute_place) numbers)) in
      let place : i ≡ length first + (i - reads) = omega (arith, used_length 0 0 reads (omega arith)) in
      let back : use_limit + (i - reads) ≡ use_limit + i - reads = omega arith in
      sym
      (ap (λ k. get_or (first ++ (second ++ third)) k no_use) place
      ∙ get_or-append-add first (second ++ third) (i - reads) no_use
      ∙ get_or-append second third no_use (i - reads) (omega (arith, used_length 1 use_limit writes (omega arith)))
      ∙ used_at 1 use_limit writes (i - reads) (omega arith) (omega arith)
      ∙ rw back)

  pub execute_at : (i : ℕ) → reads + writes ≤ i → i < reads + writes + executes →
      record { resource = get_or numbers (2 * use_limit + i - reads - writes) 0; right = 2 } ≡ get_or (uses_taken numbers reads writes executes) i no_use
  execute_at i low high =
      let first = used_with 0 (take reads (drop (block_of read_place) numbers)) in
      let second = used_with 1 (take writes (drop (block_of write_place) numbers)) in
      let third = used_with 2 (take executes (drop (block_of execute_place) numbers)) in
      let place : i ≡ length first + (length second + (i - reads - writes)) =
      omega (arith, used_length 0 0 reads (omega arith), used_length 1 use_limit writes (omega arith)) in
      let back : 2 * use_limit + (i - reads - writes) ≡ 2 * use_limit + i - reads - writes = omega arith in
      sym
      (ap (λ k. get_or (first ++ (second ++ third)) k no_use) place
      ∙ get_or-append-add first (second ++ third) (length second + (i - reads - writes)) no_use
      ∙ get_or-append-add second third (i - reads - writes) no_use
      ∙ used_at 2 (2 * use_limit) executes (i - reads - writes) (omega arith) (omega arith)
      ∙ rw back)
