-- Working: Where many numbers stand in a column, by places as numbers; the claims' limit says nowhere. What they say of each number is `places_at` and
-- `earlier_at` of Laws.
use Rattle.std.specs.Prelude.{ℕ, ◌-◌, min, List, ◌++◌, map, length, get_or, replicate, take, Option, None, Some}
use Rattle.lists.specs.Lists.{counted, distinct}
use Rattle.register.specs.Limits.{claim_limit}
use Rattle.columns.specs.Columns.{latest_place}
use Rattle.lookup.specs.declared.Found.{Found}
use Rattle.lookup.specs.declared.Both.{Both}

-- a place as a number; `none` says nowhere
abbrev pub place_number : ℕ → Option ℕ → ℕ
place_number none (Some j) = j
place_number none None = none

-- an array whose first places hold f of the place, and those behind them nowhere
abbrev pub tabled : (ℕ → ℕ) → ℕ → List ℕ
tabled f top = map f (counted 0 top) ++ replicate (claim_limit - top) claim_limit

-- as many places as are asked for, where there are so many
abbrev pub asked : ℕ → List ℕ → ℕ
asked m wanted = min m (min claim_limit (length wanted))

-- the latest place of each of the first m wanted numbers among the first n of a column
unfoldable pub places_of : List ℕ → ℕ → List ℕ → ℕ → List ℕ
places_of column n wanted m = tabled (λ i. place_number claim_limit (latest_place column (min n claim_limit) (get_or wanted i 0))) (asked m wanted)

-- the latest place before i of the number wanted at i, for each of the first m
unfoldable pub earlier_places : List ℕ → List ℕ → ℕ → List ℕ
earlier_places column wanted m = tabled (λ i. place_number claim_limit (latest_place column i (get_or wanted i 0))) (asked m wanted)

-- with whether the numbers that they are looked up among are distinct
unfoldable pub places_found : List ℕ → ℕ → List ℕ → ℕ → Found
places_found column n wanted m = record {
  places = places_of column n wanted m;
  distinct = distinct (take (min n claim_limit) column);
}

unfoldable pub earlier_found : List ℕ → List ℕ → ℕ → Found
earlier_found column wanted m = record {
  places = earlier_places column wanted m;
  distinct = distinct (take (asked m wanted) column);
}

-- as many places as are asked for, where two lists have so many
abbrev pub shared : ℕ → List ℕ → List ℕ → ℕ
shared m wanted other = min m (min (length wanted) (length other))

-- the places of two lists of wanted numbers in one column
unfoldable pub both_places : List ℕ → ℕ → List ℕ → List ℕ → ℕ → Both
both_places column n wanted other m = record {
  first = places_of column n wanted (shared m wanted other);
  second = places_of column n other (shared m wanted other);
  distinct = distinct (take (min n claim_limit) column);
}
