-- Working: A table of a column's places by buckets: a link is 0 for none, else a place and 1. What is found by it is the latest place in the column
-- (`seeking_hit`, `seeking_done`).
use Rattle.std.specs.Prelude.{ℕ, suc, ◌%◌, ◌≤◌, ◌<◌, min, ◌≡◌, List, map, length, get_or, Option, None, Some}
use Rattle.register.specs.Limits.{claim_limit}
use Rattle.columns.specs.Columns.{latest_place}

-- how many buckets there are
abbrev pub bucket_count : ℕ
bucket_count = 512

-- the bucket of a number
abbrev pub bucket_of : ℕ → ℕ
bucket_of x = x % bucket_count

-- a place as a link
abbrev pub link_of : Option ℕ → ℕ
link_of (Some j) = suc j
link_of None = 0

-- the latest place below n at which a number of bucket b stands
abbrev pub latest_in : List ℕ → ℕ → ℕ → Option ℕ
latest_in column n b = latest_place (map bucket_of column) n b

-- of the first n of a column, each bucket's head links to its latest place, and each place to the latest before it in its bucket
pub record Indexing (column : List ℕ) (n : ℕ) (heads nexts : List ℕ) : Type 0 where
  pub inside : n ≤ length column
  pub within : n ≤ claim_limit
  pub wide : length heads ≡ bucket_count
  pub long : length nexts ≡ claim_limit
  pub headed : (b : ℕ) → b < bucket_count → get_or heads b 0 ≡ link_of (latest_in column n b)
  pub chained : (j : ℕ) → j < n → get_or nexts j 0 ≡ link_of (latest_in column j (bucket_of (get_or column j 0)))

-- the table has every place of the column that is below a place
pub record Sought (column : List ℕ) (below : ℕ) (heads nexts : List ℕ) : Type 0 where
  pub count : ℕ
  pub reached : min below (length column) ≤ count
  pub indexing : Indexing column count heads nexts
