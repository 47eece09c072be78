-- The path at a place by the tests that the code makes: whether the lengths and the bytes hold the place, and where it ends; and
-- what is judged of two of them. Assumes nothing.
use Rattle.std.proofs.Common.{Option, ℕ, ◌≡◌, sym, List, [], ◌+◌, ◌*◌, ◌-◌, ◌/◌, ◌≤◌, ◌<◌, min, arith, lt-ltb, leb-true, leb-false, ltb, leb, length, take, drop, get_or, length-take, take-take, take_all}
use lib.ListN.{get_or-eq_default}
use Rattle.lists.specs.Tests.{cases}
use Rattle.paths.specs.Containment.{reach_between}
use Rattle.register.specs.Limits.{path_limit}
use Rattle.coverage.specs.Laid.{part_at}

-- the first n of the first m are the first of the lesser number
take_least : (n m : ℕ) (l : List ℕ) → take n (take m l) ≡ take (min n m) l
take_least n m l =
    cases (leb n m)
    (λ t. let below : n ≤ m = leb-true n m t in let least : min n m ≡ n = omega arith in rw least (take-take n m l below))
    (λ t. let above : m < n = leb-false n m t in
    let least : min n m ≡ m = omega arith in
    rw least (take_all n (take m l) (omega (arith, length-take m l))))

module _ (bytes lens : List ℕ) (x : ℕ) where
  -- past the lengths there is nothing
  pub part_unmeasured : length lens ≤ x → part_at bytes lens x ≡ []
  unfolding part_at
  part_unmeasured past =
      cases (ltb x (length bytes / path_limit)) (λ e. rw (e, get_or-eq_default lens 0 past)) (λ e. rw e)

  -- what ends after the least of the length and 64 bytes is the path
  pub part_within : (n : ℕ) → x < length bytes / path_limit → n ≡ min (get_or lens x 0) path_limit
      → take (x * path_limit + n - x * path_limit) (drop (x * path_limit) bytes) ≡ part_at bytes lens x
  unfolding part_at
  part_within n inside least =
      let long : x * path_limit + n - x * path_limit ≡ n = omega arith in
      rw (lt-ltb x (length bytes / path_limit) inside, long, least) (sym (take_least (get_or lens x 0) path_limit (drop (x * path_limit) bytes)))

-- what is judged of two parts is judged of the paths that they are
pub judged : {outer inner p q : List ℕ} {r : Option ℕ} → outer ≡ p → inner ≡ q → r ≡ reach_between outer inner → r ≡ reach_between p q
judged e f h = rw (← e, ← f) h
