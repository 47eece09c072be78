-- The definitions of path containment on small paths, yes and no, computed. The bytes of `a`, `b` and `x` are 97, 98 and 120.
-- Assumes nothing.
use Rattle.std.proofs.Common.{◌≡◌, refl, true, false, [], ◌∷◌}
use Rattle.lists.specs.Lists.{same}
use Rattle.paths.specs.Containment.{slash, dot, is_empty, joined, components, climbing, trimmed, starting, slashed, contained, reached}
use Rattle.paths.specs.Readings.{written, unslashed}
use Rattle.paths.specs.Lent.{dotted, paired, beneath}

-- `a` is `a`, and neither `b` nor `ab`
same_cases : (same (97 ∷ []) (97 ∷ []) ≡ true) × (same (97 ∷ []) (98 ∷ []) ≡ false) × (same (97 ∷ []) (97 ∷ 98 ∷ []) ≡ false)
unfolding same
same_cases = (refl, refl, refl)

is_empty_cases : (is_empty [] ≡ true) × (is_empty (slash ∷ []) ≡ false)
is_empty_cases = (refl, refl)

-- `a` put in front of nothing, and in front of the components `b` and `x`
joined_cases : (joined 97 [] ≡ (97 ∷ []) ∷ []) × (joined 97 ((98 ∷ []) ∷ (120 ∷ []) ∷ []) ≡ (97 ∷ 98 ∷ []) ∷ (120 ∷ []) ∷ [])
joined_cases = (refl, refl)

-- the empty path has one component, `ab` one, `a/b` two, and `/a//` four, three of them empty
components_cases :
    (components [] ≡ [] ∷ [])
    × (components (97 ∷ 98 ∷ []) ≡ (97 ∷ 98 ∷ []) ∷ [])
    × (components (97 ∷ slash ∷ 98 ∷ []) ≡ (97 ∷ []) ∷ (98 ∷ []) ∷ [])
    × (components (slash ∷ 97 ∷ slash ∷ slash ∷ []) ≡ [] ∷ (97 ∷ []) ∷ [] ∷ [] ∷ [])
unfolding components
components_cases = (refl, refl, refl, refl)

-- `..`, `a/../b` and `a/..` climb
climbing_yes :
    (climbing (dot ∷ dot ∷ []) ≡ true)
    × (climbing (97 ∷ slash ∷ dot ∷ dot ∷ slash ∷ 98 ∷ []) ≡ true)
    × (climbing (97 ∷ slash ∷ dot ∷ dot ∷ []) ≡ true)
unfolding climbing components same
climbing_yes = (refl, refl, refl)

-- `a..b`, `a/./b`, `...`, `a../` and the empty path do not
climbing_no :
    (climbing (97 ∷ dot ∷ dot ∷ 98 ∷ []) ≡ false)
    × (climbing (97 ∷ slash ∷ dot ∷ slash ∷ 98 ∷ []) ≡ false)
    × (climbing (dot ∷ dot ∷ dot ∷ []) ≡ false)
    × (climbing (97 ∷ dot ∷ dot ∷ slash ∷ []) ≡ false)
    × (climbing [] ≡ false)
unfolding climbing components same
climbing_no = (refl, refl, refl, refl, refl)

dotted_cases : (dotted (dot ∷ 97 ∷ []) ≡ true) × (dotted (97 ∷ dot ∷ []) ≡ false) × (dotted [] ≡ false)
dotted_cases = (refl, refl, refl)

-- in `a..b` and `..` two dots stand next to each other; in `.a.`, `.` and the empty path they do not
paired_cases :
    (paired (97 ∷ dot ∷ dot ∷ 98 ∷ []) ≡ true)
    × (paired (dot ∷ dot ∷ []) ≡ true)
    × (paired (dot ∷ 97 ∷ dot ∷ []) ≡ false)
    × (paired (dot ∷ []) ≡ false)
    × (paired [] ≡ false)
unfolding paired
paired_cases = (refl, refl, refl, refl, refl)

-- `a//` is trimmed to `a`, `/` to nothing, and `/a` stays
trimmed_cases : (trimmed (97 ∷ slash ∷ slash ∷ []) ≡ 97 ∷ []) × (trimmed (slash ∷ []) ≡ []) × (trimmed (slash ∷ 97 ∷ []) ≡ slash ∷ 97 ∷ [])
unfolding trimmed
trimmed_cases = (refl, refl, refl)

-- `ab` starts with `a` and with nothing; `a` does not start with `ab`, nor `b` with `a`
starting_cases :
    (starting (97 ∷ []) (97 ∷ 98 ∷ []) ≡ true)
    × (starting [] (97 ∷ 98 ∷ []) ≡ true)
    × (starting (97 ∷ 98 ∷ []) (97 ∷ []) ≡ false)
    × (starting (97 ∷ []) (98 ∷ []) ≡ false)
unfolding starting
starting_cases = (refl, refl, refl, refl)

slashed_cases : (slashed (slash ∷ 97 ∷ []) ≡ true) × (slashed (97 ∷ slash ∷ []) ≡ false) × (slashed [] ≡ false)
slashed_cases = (refl, refl, refl)

-- `a` and `a/b` are beneath `a`; `ab` and `b` are not
beneath_cases :
    (beneath (97 ∷ []) (97 ∷ []) ≡ true)
    × (beneath (97 ∷ []) (97 ∷ slash ∷ 98 ∷ []) ≡ true)
    × (beneath (97 ∷ []) (97 ∷ 98 ∷ []) ≡ false)
    × (beneath (97 ∷ []) (98 ∷ []) ≡ false)
unfolding starting
beneath_cases = (refl, refl, refl, refl)

-- the empty path contains `x`, `a` contains `a` and `a/b`, `a//` contains `a`, and `/` contains `/x`
contained_yes :
    (contained [] (120 ∷ []) ≡ true)
    × (contained (97 ∷ []) (97 ∷ []) ≡ true)
    × (contained (97 ∷ []) (97 ∷ slash ∷ 98 ∷ []) ≡ true)
    × (contained (97 ∷ slash ∷ slash ∷ []) (97 ∷ []) ≡ true)
    × (contained (slash ∷ []) (slash ∷ 120 ∷ []) ≡ true)
unfolding contained climbing components same trimmed starting
contained_yes = (refl, refl, refl, refl, refl)

-- `a` does not contain `ab`, `a/b` does not contain `a`, `/` does not contain `x`, and `..` on either side contains nothing
contained_no :
    (contained (97 ∷ []) (97 ∷ 98 ∷ []) ≡ false)
    × (contained (97 ∷ slash ∷ 98 ∷ []) (97 ∷ []) ≡ false)
    × (contained (slash ∷ []) (120 ∷ []) ≡ false)
    × (contained (dot ∷ dot ∷ []) (dot ∷ dot ∷ []) ≡ false)
    × (contained [] (dot ∷ dot ∷ []) ≡ false)
unfolding contained climbing components same trimmed starting
contained_no = (refl, refl, refl, refl, refl)

-- how far, in the fixed examples of 01: `site/a` to itself and to `site/a/b`, not to `site/ab`; `site/a/` to `site/a`; the empty path to `x`
-- and `/` to the empty path, with a yes; `/` not to `x`, `a/../b` not to itself; `a..b` to itself
reached_cases :
    (reached (115 ∷ 105 ∷ 116 ∷ 101 ∷ slash ∷ 97 ∷ []) (115 ∷ 105 ∷ 116 ∷ 101 ∷ slash ∷ 97 ∷ []) ≡ 6)
    × (reached (115 ∷ 105 ∷ 116 ∷ 101 ∷ slash ∷ 97 ∷ []) (115 ∷ 105 ∷ 116 ∷ 101 ∷ slash ∷ 97 ∷ slash ∷ 98 ∷ []) ≡ 6)
    × (reached (115 ∷ 105 ∷ 116 ∷ 101 ∷ slash ∷ 97 ∷ []) (115 ∷ 105 ∷ 116 ∷ 101 ∷ slash ∷ 97 ∷ 98 ∷ []) ≡ 0)
    × (reached (115 ∷ 105 ∷ 116 ∷ 101 ∷ slash ∷ 97 ∷ slash ∷ []) (115 ∷ 105 ∷ 116 ∷ 101 ∷ slash ∷ 97 ∷ []) ≡ 6)
    × (reached [] (120 ∷ []) ≡ 0)
    × (reached (slash ∷ []) [] ≡ 0)
    × (reached (slash ∷ []) (120 ∷ []) ≡ 0)
    × (reached (97 ∷ slash ∷ dot ∷ dot ∷ slash ∷ 98 ∷ []) (97 ∷ slash ∷ dot ∷ dot ∷ slash ∷ 98 ∷ []) ≡ 0)
    × (reached (97 ∷ dot ∷ dot ∷ 98 ∷ []) (97 ∷ dot ∷ dot ∷ 98 ∷ []) ≡ 4)
unfolding reached contained climbing components same trimmed starting
reached_cases = (refl, refl, refl, refl, refl, refl, refl, refl, refl)

-- `a` and `b` are written `a/b`; no component is written as nothing, and so is one that is empty
written_cases : (written ((97 ∷ []) ∷ (98 ∷ []) ∷ []) ≡ 97 ∷ slash ∷ 98 ∷ []) × (written [] ≡ []) × (written ([] ∷ []) ≡ [])
written_cases = (refl, refl, refl)

unslashed_cases : (unslashed (97 ∷ []) ≡ true) × (unslashed (97 ∷ slash ∷ []) ≡ false)
unslashed_cases = (refl, refl)
