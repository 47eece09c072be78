-- Two dots next to each other: a path without them has no `..` component. Assumes nothing.
use Rattle.std.proofs.Common.{◌≡◌, refl, sym, ◌∙◌, false, ◌&&◌, ◌||◌, List, [], ◌∷◌, ℕ, eqb, ne_eqb, eqb-true}
use borrow.Author.Tests.{eqb-false}
use Rattle.lists.specs.Tests.{cases, or_left, or_right}
use Rattle.lists.specs.Lists.{any, same}
use Rattle.paths.specs.Containment.{slash, dot, components, climbing}
use Rattle.paths.specs.Components.{components_first, components_cut, components_joined}
use Rattle.paths.specs.Lent.{dotted, paired}

-- another byte than a dot is not the one that begins `.`
other_byte : (b : ℕ) → eqb b dot ≡ false → eqb dot b ≡ false
other_byte b other = ne_eqb dot b (λ back. eqb-false b dot other (sym back))

-- the first component of a path that begins with no dot is not `.`
undotted_first : (p c : List ℕ) (cs : List (List ℕ)) → components p ≡ c ∷ cs → dotted p ≡ false → same (dot ∷ []) c ≡ false
unfolding components same
undotted_first [] c cs e h = let none : c ≡ [] = cc in rw none
undotted_first (b ∷ p) c cs e h =
    let more = components_first p in
    cases (eqb b slash)
    (λ cut. let none : c ≡ [] = cc (components_cut b p cut) in rw none)
    (λ kept.
    let first : c ≡ b ∷ more.0 = cc (components_joined b p kept, more.2) in
    rw (first, other_byte b h))

-- a path has a `..` component where its first one is or another one is
climbing_first : (p c : List ℕ) (cs : List (List ℕ)) → components p ≡ c ∷ cs →
    climbing p ≡ same (dot ∷ dot ∷ []) c || any (same (dot ∷ dot ∷ [])) cs
unfolding climbing
climbing_first p c cs e = rw e

-- a path in which no two dots stand next to each other has no `..` component
pub paired_clean : (p : List ℕ) → paired p ≡ false → climbing p ≡ false
unfolding paired climbing components same
paired_clean [] h = refl
paired_clean (b ∷ p) h =
    let clean = paired_clean p (or_right (eqb b dot && dotted p) (paired p) h) in
    let apart = or_left (eqb b dot && dotted p) (paired p) h in
    let first = components_first p in
    let others = or_right (same (dot ∷ dot ∷ []) first.0) _ (sym (climbing_first p first.0 first.1 first.2) ∙ clean) in
    cases (eqb b slash)
    (λ cut. rw cut clean)
    (λ kept.
    cases (eqb b dot)
    (λ e.
    rw (kept, first.2, eqb-true b dot e, undotted_first p first.0 first.1 first.2 (rw e at apart)) others)
    (λ e. rw (kept, first.2, other_byte b e) others))
