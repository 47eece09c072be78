-- Whether a claim reaches a spot at least so far. Assumes nothing.
use Rattle.std.proofs.Common.{None, Some, ◌≡◌, sym, Bool, true, false, ◌&&◌, List, ℕ, ◌≤◌, arith, ltb-true, ltb, leb, length, get_or, ap, ◌∙◌}
use mathlib.Core.Bool.{and-false}
use borrow.Author.Tests.{lt-leb}
use Rattle.lists.specs.Tests.{cases, and_right}
use Rattle.paths.proofs.Laws.{reached_written}
use Rattle.rights.specs.Rights.{has_right}
use Rattle.register.specs.Limits.{path_limit}
use Rattle.coverage.specs.Laid.{part_at}
use Rattle.coverage.specs.LaidLaws.{part_length}
use Rattle.coverage.specs.Coverage.{reaching, reach_at, reach_from, short_at}

-- what was asked of the number at a place was asked of the column; the test is whether it has the right
module _ (right : ℕ) {n m : ℕ} (place : n ≡ m) {r : Bool} (asked : r ≡ has_right n right) where
  told_of_column : has_right m right ≡ r
  told_of_column = ap (λ k. has_right k right) (sym place) ∙ sym asked

  pub right_missing : r ≡ false → has_right m right ≡ false
  right_missing told = told_of_column ∙ told

  pub right_had : r ≡ true → has_right m right ≡ true
  right_had told = told_of_column ∙ told

-- a no is no yes
no_yes : {A : Type 0} (n : ℕ) → None ≡ Some n → A
no_yes n e = let never : ◌≡◌ {A = ℕ} 0 1 = cc in absurd (omega arith)

module _ (rights spots bytes lens : List ℕ) (right spot j : ℕ) where
  -- as far as the path of the claim is long, as it is written
  reach_most : reach_at spots bytes lens spot j ≤ get_or lens (get_or spots j 0) 0
  reach_most =
      omega (arith, reached_written (part_at bytes lens (get_or spots j 0)) (part_at bytes lens spot), (part_length bytes lens (get_or spots j 0)).0)

  -- at least so far
  module _ (bar : ℕ) where
    abbrev far : Bool
    far = reaching rights spots bytes lens right spot j && leb bar (reach_at spots bytes lens spot j)

    pub short_out : short_at spots lens bar j ≡ true → reach_from rights spots bytes lens right spot bar j ≡ None
    short_out short =
        let x = get_or spots j 0 in
        let less = ltb-true (get_or lens x 0) bar
        (and_right (ltb x (length lens)) (ltb (get_or lens x 0) bar)
        (and_right (ltb j (length spots)) (ltb x (length lens) && ltb (get_or lens x 0) bar) short)) in
        rw (lt-leb bar (reach_at spots bytes lens spot j) (omega (arith, reach_most)), and-false (reaching rights spots bytes lens right spot j))

    -- and what a no or a yes tells
    pub not_far : reach_from rights spots bytes lens right spot bar j ≡ None → far ≡ false
    not_far told =
        cases far (λ e. no_yes (reach_at spots bytes lens spot j) (sym (rw e at told))) (λ e. e)

    pub is_far : (n : ℕ) → reach_from rights spots bytes lens right spot bar j ≡ Some n → (far ≡ true) × (n ≡ reach_at spots bytes lens spot j)
    is_far n told =
        cases far
        (λ e. (e, let same : Some (reach_at spots bytes lens spot j) ≡ Some n = rw e at told in cc))
        (λ e. no_yes n (rw e at told))

  -- no further than a path has bytes
  pub reach_limit : reach_at spots bytes lens spot j ≤ path_limit
  reach_limit =
      omega (arith, reached_written (part_at bytes lens (get_or spots j 0)) (part_at bytes lens spot), (part_length bytes lens (get_or spots j 0)).1)
