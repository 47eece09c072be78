-- The first places of a column are told to be distinct one by one: a number is sought among those before it. Assumes nothing.
use Rattle.std.proofs.Common.{◌≡◌, refl, sym, Bool, not, ◌&&◌, List, ℕ, ◌+◌, ◌≤◌, ◌<◌, add-one, arith, eq-eqb, ne_eqb, eqb, length, take, get_or, take-suc}
use Rattle.lists.specs.Lists.{any, distinct}
use Rattle.lists.specs.Distinct.{distinct_more}
use Rattle.columns.specs.Columns.{latest_place}
use Rattle.columns.specs.Laws.{place_cases, place_found_lem, place_among, nowhere_none}
use Rattle.lookup.specs.Finding.{place_number}

-- a number that is not among the first n is told by a place that is none of theirs
none_told : (column : List ℕ) (n none x : ℕ) → n ≤ none
    → eqb (place_number none (latest_place column n x)) none ≡ not (any (eqb x) (take n column))
none_told column n none x past =
    place_cases (latest_place column n x)
    (λ j q. let below : j < n = (place_found_lem column x n j q).0 in
    rw (q, place_among column x n j q) (ne_eqb j none (λ same. omega (arith, below, same))))
    (λ q. rw (q, nowhere_none column x n q) (eq-eqb none none refl))

-- so one place more is distinct from those before it where its number is found nowhere among them
pub distinct_next : (column : List ℕ) (n none : ℕ) → n < length column → n ≤ none → (place : ℕ)
    → place ≡ place_number none (latest_place column n (get_or column n 0)) → (apart : Bool) → apart ≡ distinct (take n column)
    → apart && eqb place none ≡ distinct (take (n + 1) column)
distinct_next column n none inside past place sought apart told =
    rw (add-one n, take-suc column n 0, told, sought, none_told column n none (get_or column n 0) past)
    (sym (distinct_more (take n column) (get_or column n 0)))
