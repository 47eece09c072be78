-- What is proved of path containment, over the definitions of specs/Containment. The contract of `paths::contains` says that its
-- answer is `contained`, and with a yes `reached`. Assumes nothing.
use Rattle.std.proofs.Common.{◌≡◌, true, false, not, List, [], ◌∷◌, ◌++◌, ℕ, ◌≤◌, length, replicate}
use Rattle.lists.specs.Lists.{every, same}
use Rattle.lists.specs.Same.{same_sound, same_complete}
use Rattle.paths.specs.Containment.{slash, is_empty, components, climbing, trimmed, contained, reached, reach_between, is_inside, length_of}
use Rattle.paths.specs.Components.{components_natural}
use Rattle.paths.specs.Trimming.{trimmed_twice}
use Rattle.paths.proofs.Laws.{contained_clean, contained_sound, contained_complete, contained_refl, contained_trans, contained_not_trans, contained_antisym, contained_trimmed, trimmed_natural}
use Rattle.paths.proofs.Laws as laws
use Rattle.paths.specs.Readings.{written, unslashed, Under}

-- 1. A path contains itself exactly when it has no `..` component.
pub reflexive : (p : List ℕ) → contained p p ≡ not (climbing p)
reflexive p = contained_refl p

-- 2. Containment passes on where the middle path is not empty.
pub transitive : (a b c : List ℕ) → contained a b ≡ true → contained b c ≡ true → is_empty b ≡ false → contained a c ≡ true
transitive a b c outer inner some = contained_trans a b c outer inner some

-- 3. It does not pass on over the empty path: `/` contains it, it contains `x`, and `/` does not contain `x`.
pub not_transitive : (contained (slash ∷ []) [] ≡ true) × (contained [] (120 ∷ []) ≡ true) × (contained (slash ∷ []) (120 ∷ []) ≡ false)
not_transitive = contained_not_trans

-- 4. Two paths that contain each other are the same but for the slashes at their ends.
pub antisymmetric : (p q : List ℕ) → contained p q ≡ true → contained q p ≡ true → trimmed p ≡ trimmed q
antisymmetric p q there back = contained_antisym p q there back

-- 5. Where one path contains another, neither has a `..` component.
pub clean : (p q : List ℕ) → contained p q ≡ true → (climbing p ≡ false) × (climbing q ≡ false)
clean p q held = contained_clean p q held

-- 6. Of an outer path that is not all slashes, only the trimmed path counts.
pub trimmed_alone : (p q : List ℕ) → is_empty (trimmed p) ≡ false → contained (trimmed p) q ≡ contained p q
trimmed_alone p q some = contained_trimmed p q some

-- 7. A path is its trimmed path and slashes only, and its trimmed path ends in no slash.
pub trimming_natural : (p : List ℕ) → ((n : ℕ) × (p ≡ trimmed p ++ replicate n slash)) × ((q : List ℕ) → trimmed p ≡ q ++ (slash ∷ []) → ⊥)
trimming_natural p = trimmed_natural p

-- 8. Trimming twice is trimming once.
pub trimming_twice : (p : List ℕ) → trimmed (trimmed p) ≡ trimmed p
trimming_twice p = trimmed_twice p

-- 9. A path's components, written with a slash between each two, are the path, and no component holds a slash.
pub cutting_natural : (p : List ℕ) → (written (components p) ≡ p) × (every unslashed (components p) ≡ true)
cutting_natural p = components_natural p

-- 10. Two byte strings are the same exactly when they are equal.
pub sameness : (p q : List ℕ) → (same p q ≡ true → p ≡ q) × (same p p ≡ true)
sameness p q = (same_sound p q, same_complete p)

-- 11. What an outer path that is not empty contains is its trimmed path, or that with a slash and more.
pub sound : (p q : List ℕ) → is_empty p ≡ false → contained p q ≡ true → Under (trimmed p) q
sound p q some held = contained_sound p q some held

-- 12. And, where neither path has a `..` component, it contains each of these.
pub complete : (p q : List ℕ) → climbing p ≡ false → climbing q ≡ false → Under (trimmed p) q → contained p q ≡ true
complete p q clean-p clean-q under = contained_complete p q clean-p clean-q under

-- 13. How far a path reaches: with a yes the length of the trimmed outer path, at most the inner path's; with a no 0.
pub reached_sound : (p q : List ℕ)
    → (contained p q ≡ true → (reached p q ≡ length (trimmed p)) × (reached p q ≤ length q)) × (contained p q ≡ false → reached p q ≡ 0)
reached_sound p q = laws.reached_sound p q

-- 14. The answer of the call is a yes exactly where outer contains inner, and its length is how far.
pub reach_told : (p q : List ℕ) → (is_inside (reach_between p q) ≡ contained p q) × (length_of (reach_between p q) ≡ reached p q)
reach_told p q = laws.reach_told p q
