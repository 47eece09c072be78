-- Climbing, a byte at a time. A component that so far consists of d dots stands for its path by those d dots in front of what is
-- left, and three dots stand for every beginning that cannot become `..` any more. Assumes nothing.
use Rattle.std.proofs.Common.{◌≡◌, refl, sym, ◌&&◌, ◌||◌, cond, List, [], ◌∷◌, ◌++◌, ℕ, zero, suc, ◌+◌, ◌≤◌, arith, eqb, ltb, replicate, ne_eqb, eqb-true, ltb-true}
use borrow.Author.Tests.{eqb-false}
use Rattle.lists.specs.Tests.{cases, and_right}
use Rattle.lists.specs.Lists.{same}
use Rattle.paths.specs.Containment.{slash, dot, components, climbing}
use Rattle.paths.specs.Components.{components_first}

-- nothing is left: the last component is these dots
pub dots_end : (d : ℕ) → d ≤ 3 → climbing (replicate d dot ++ []) ≡ eqb d 2
unfolding climbing components same
dots_end zero h = refl
dots_end (suc zero) h = refl
dots_end (suc (suc zero)) h = refl
dots_end (suc (suc (suc zero))) h = refl
dots_end (suc (suc (suc (suc d)))) h = absurd (omega arith)

-- a slash: the component is these dots, and the next one begins
pub dots_slash : (d : ℕ) (q : List ℕ) → d ≤ 3 → climbing (replicate d dot ++ (slash ∷ q)) ≡ eqb d 2 || climbing q
unfolding climbing components same
dots_slash zero q h = refl
dots_slash (suc zero) q h = refl
dots_slash (suc (suc zero)) q h = refl
dots_slash (suc (suc (suc zero))) q h = refl
dots_slash (suc (suc (suc (suc d)))) q h = absurd (omega arith)

-- a dot more: three dots stand for more than three
dots_dot : (d : ℕ) (q : List ℕ) → d ≤ 3 → climbing (replicate d dot ++ (dot ∷ q)) ≡ climbing (replicate (cond (ltb d 3) (d + 1) 3) dot ++ q)
unfolding climbing components same
dots_dot zero q h = refl
dots_dot (suc zero) q h = refl
dots_dot (suc (suc zero)) q h = refl
dots_dot (suc (suc (suc zero))) q h = let first = components_first q in rw first.2
dots_dot (suc (suc (suc (suc d)))) q h = absurd (omega arith)

-- another byte: the component is neither `.` nor `..` any more
dots_other : (d b : ℕ) (q : List ℕ) → d ≤ 3 → (b ≡ slash → ⊥) → (dot ≡ b → ⊥) → climbing (replicate d dot ++ (b ∷ q)) ≡ climbing (replicate 3 dot ++ q)
unfolding climbing components same
dots_other zero b q h kept other = let first = components_first q in rw (ne_eqb b slash kept, first.2, ne_eqb dot b other)
dots_other (suc zero) b q h kept other = let first = components_first q in rw (ne_eqb b slash kept, first.2, ne_eqb dot b other)
dots_other (suc (suc zero)) b q h kept other = let first = components_first q in rw (ne_eqb b slash kept, first.2)
dots_other (suc (suc (suc zero))) b q h kept other = let first = components_first q in rw (ne_eqb b slash kept, first.2)
dots_other (suc (suc (suc (suc d)))) b q h kept other = absurd (omega arith)

-- the dots with one byte more stand for the component with that byte
pub dots_byte : (d b : ℕ) (q : List ℕ) → d ≤ 3 → (b ≡ slash → ⊥) →
    climbing (replicate d dot ++ (b ∷ q)) ≡ climbing (replicate (cond (eqb b dot && ltb d 3) (d + 1) 3) dot ++ q)
dots_byte d b q h kept =
    cases (eqb b dot)
    (λ e. rw (eqb-true b dot e) (dots_dot d q h))
    (λ e. rw e (dots_other d b q h kept (λ back. eqb-false b dot e (sym back))))

-- there are at most three
pub dots_most : (d b : ℕ) → cond (eqb b dot && ltb d 3) (d + 1) 3 ≤ 3
dots_most d b =
    cases (eqb b dot && ltb d 3)
    (λ more. rw more (omega (arith, ltb-true d 3 (and_right (eqb b dot) (ltb d 3) more))))
    (λ most. rw most (omega arith))
