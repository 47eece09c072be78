-- Laws: A path's components: there is at least one, joined by slashes they are the path, and none holds a slash. Assumes nothing.
use Rattle.std.specs.Prelude.{◌≡◌, refl, true, false, ◌||◌, List, [], ◌∷◌, ◌++◌, ℕ, zero, suc, eqb, replicate}
use Rattle.std.proofs.Common.{◌∙◌, append-nil, eqb-true}
use Rattle.lists.specs.Tests.{cases}
use Rattle.lists.specs.Lists.{every, same}
use Rattle.lists.specs.Each.{any_append}
use Rattle.paths.specs.Containment.{slash, dot, joined, components, climbing}
use Rattle.paths.specs.Readings.{written, unslashed}

module _ (b : ℕ) (p : List ℕ) where
  pub components_cut : eqb b slash ≡ true → components (b ∷ p) ≡ [] ∷ components p
  unfolding components
  components_cut cut = rw cut

  pub components_joined : eqb b slash ≡ false → components (b ∷ p) ≡ joined b (components p)
  unfolding components
  components_joined kept = rw kept

-- a path has a first component
pub components_first : (p : List ℕ) → (c : List ℕ) × (cs : List (List ℕ)) × (components p ≡ c ∷ cs)
unfolding components
components_first [] = ([], [], refl)
components_first (b ∷ p) =
    let more = components_first p in
    cases (eqb b slash)
    (λ cut. ([], components p, components_cut b p cut))
    (λ kept. (b ∷ more.0, more.1, components_joined b p kept ∙ rw more.2))

-- a slash ends the components of what stands before it
pub components_append : (p q : List ℕ) → components (p ++ (slash ∷ q)) ≡ components p ++ components q
unfolding components
components_append [] q = refl
components_append (b ∷ p) q =
    let more = components_append p q in
    let first = components_first p in
    cases (eqb b slash)
    (λ cut. rw (cut, more))
    (λ kept. rw (kept, more, first.2))

-- a path has a `..` component where it has one before or behind a slash
pub climbing_append : (p q : List ℕ) → climbing (p ++ (slash ∷ q)) ≡ climbing p || climbing q
unfolding climbing
climbing_append p q = rw (components_append p q) (any_append (same (dot ∷ dot ∷ [])) (components p) (components q))

climbing_slashes : (n : ℕ) → climbing (replicate n slash) ≡ false
unfolding climbing components same
climbing_slashes zero = refl
climbing_slashes (suc n) = climbing_slashes n

-- slashes at the end add no `..` component
pub climbing_behind : (p : List ℕ) (n : ℕ) → climbing (p ++ replicate n slash) ≡ climbing p
climbing_behind p zero = rw append-nil
climbing_behind p (suc n) =
    climbing_append p (replicate n slash) ∙ rw (climbing_slashes n) (cases (climbing p) (λ e. rw e) (λ e. rw e))

written_cut : (cs : List (List ℕ)) (c : List ℕ) (ds : List (List ℕ)) → cs ≡ c ∷ ds → written ([] ∷ cs) ≡ slash ∷ written cs
written_cut cs c ds e = rw e

written_joined : (b : ℕ) (cs : List (List ℕ)) → written (joined b cs) ≡ b ∷ written cs
written_joined b [] = refl
written_joined b (c ∷ []) = refl
written_joined b (c ∷ d ∷ cs) = refl

-- joined by slashes, the components are the path
pub components_written : (p : List ℕ) → written (components p) ≡ p
unfolding components
components_written [] = refl
components_written (b ∷ p) =
    let more = components_written p in
    let first = components_first p in
    cases (eqb b slash)
    (λ cut.
    let here = eqb-true b slash cut in
    rw (components_cut b p cut, written_cut (components p) first.0 first.1 first.2, more, here))
    (λ kept. rw (components_joined b p kept, written_joined b (components p), more))

unslashed_joined : (b : ℕ) (cs : List (List ℕ)) → eqb b slash ≡ false → every unslashed cs ≡ true → every unslashed (joined b cs) ≡ true
unslashed_joined b [] kept h = rw kept
unslashed_joined b (c ∷ cs) kept h = rw kept h

-- no component holds a slash
pub components_unslashed : (p : List ℕ) → every unslashed (components p) ≡ true
unfolding components
components_unslashed [] = refl
components_unslashed (b ∷ p) =
    let more = components_unslashed p in
    cases (eqb b slash)
    (λ cut. rw (components_cut b p cut) more)
    (λ kept. rw (components_joined b p kept) (unslashed_joined b (components p) kept more))

pub components_natural : (p : List ℕ) → (written (components p) ≡ p) × (every unslashed (components p) ≡ true)
components_natural p = (components_written p, components_unslashed p)
