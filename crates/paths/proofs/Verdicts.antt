-- Containment by the tests that the code makes, in their order: an empty outer path, the inner path's length, what follows from the outer
-- path's trimmed length on, how inner starts, and `..` components last. Assumes nothing.
use Rattle.std.proofs.Common.{None, Some, ◌≡◌, refl, ◌∙◌, true, false, not, ◌&&◌, ◌||◌, List, [], ◌∷◌, ℕ, ◌≤◌, ◌<◌, arith, length, take, drop, length-take-le}
use mathlib.Core.Bool.{and-true, and-false}
use Rattle.lists.specs.Tests.{cases}
use Rattle.paths.specs.Containment.{is_empty, slashed, climbing, trimmed, starting, contained, reach_between}
use Rattle.paths.specs.Trimming.{reach_beneath}
use Rattle.paths.proofs.Laws.{contained_parts, beneath_clean, reached_yes}
use Rattle.paths.specs.Lent.{beneath}
use Rattle.paths.proofs.Walks.{starting_short}

pub outer_empty : (p q : List ℕ) → length p ≡ 0 → reach_beneath p q ≡ Some 0
unfolding trimmed
outer_empty [] q none = refl
outer_empty (b ∷ p) q none = absurd (omega arith)

not_empty : (p : List ℕ) → (length p ≡ 0 → ⊥) → is_empty p ≡ false
not_empty [] some = absurd (some refl)
not_empty (b ∷ p) some = refl

-- an outer path that is not empty, n bytes of it left when it is trimmed
module _ (p q : List ℕ) (n : ℕ) (some : length p ≡ 0 → ⊥) (trim : take n p ≡ trimmed p) (short : n ≤ length p) where
  judged : is_empty p || beneath (trimmed p) q ≡ starting (take n p) q && (is_empty (drop n q) || slashed (drop n q))
  judged = rw (not_empty p some, ← trim, length-take-le n p short)

  away : is_empty p || beneath (trimmed p) q ≡ false → reach_beneath p q ≡ None
  away none = rw none

  -- an inner path that is shorter does not start with them
  pub too_short : length q < n → reach_beneath p q ≡ None
  too_short less = away (judged ∙ rw (starting_short (take n p) q (omega (arith, length-take-le n p short))))

-- where inner stands is settled: it is left whether it has a `..` component
module _ (p q : List ℕ) where
  clean_same : is_empty p || beneath (trimmed p) q ≡ true → not (climbing p) && not (climbing q) ≡ not (climbing q)
  clean_same here =
      cases (climbing q) (λ climbs. rw climbs (and-false (not (climbing p)))) (λ clean. rw (clean, beneath_clean p q here clean))

  stands : is_empty p || beneath (trimmed p) q ≡ true → contained p q ≡ not (climbing q)
  stands here =
      contained_parts p q
      ∙ rw here (and-true (not (climbing p) && not (climbing q)) ∙ clean_same here)

  outside : contained p q ≡ false → reach_between p q ≡ None
  outside none = rw none

  -- inner stands elsewhere
  pub elsewhere : reach_beneath p q ≡ None → reach_between p q ≡ None
  elsewhere told =
      cases (is_empty p || beneath (trimmed p) q)
      (λ here. let clash : Some (length (trimmed p)) ≡ None = rw here at told in cc)
      (λ none. outside (contained_parts p q ∙ rw none (and-false (not (climbing p) && not (climbing q)))))

  module _ (n : ℕ) (told : reach_beneath p q ≡ Some n) where
    pub climbs_out : climbing q ≡ true → reach_between p q ≡ None
    climbs_out climbs =
        cases (is_empty p || beneath (trimmed p) q)
        (λ here. outside (stands here ∙ rw climbs))
        (λ none. let clash : None ≡ Some n = rw none at told in cc)

    pub stays_in : climbing q ≡ false → reach_between p q ≡ Some n
    stays_in clean =
        cases (is_empty p || beneath (trimmed p) q)
        (λ here.
        let held : contained p q ≡ true = stands here ∙ rw clean in
        let long : Some (length (trimmed p)) ≡ Some n = rw here at told in
        rw (held, reached_yes p q held) long)
        (λ none. let clash : None ≡ Some n = rw none at told in cc)
