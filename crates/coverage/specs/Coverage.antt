-- Working: Covering by columns. What they are in 01's words is proved in Laws (`reaching_natural`) and in uses/specs/Relying (`nearest_natural`).
use Rattle.std.specs.Prelude.{Bool, ◌&&◌, cond, List, [], ◌∷◌, ℕ, suc, eqb, ltb, leb, length, get_or, Option, None, Some}
use Rattle.rights.specs.Rights.{has_right}
use Rattle.paths.specs.Containment.{contained, reached}
use Rattle.register.specs.Limits.{resource_limit}
use Rattle.coverage.specs.Laid.{part_at}

-- the claim at place j has the right, on a resource whose path contains the one at the spot
abbrev pub reaching : List ℕ → List ℕ → List ℕ → List ℕ → ℕ → ℕ → ℕ → Bool
reaching rights spots bytes lens right spot j =
    has_right (get_or rights j 0) right
    && (ltb j (length spots) && (ltb (get_or spots j 0) resource_limit && (ltb spot resource_limit
    && contained (part_at bytes lens (get_or spots j 0)) (part_at bytes lens spot))))

-- how far the path of the claim at place j reaches to the one at the spot
abbrev pub reach_at : List ℕ → List ℕ → List ℕ → ℕ → ℕ → ℕ
reach_at spots bytes lens spot j = reached (part_at bytes lens (get_or spots j 0)) (part_at bytes lens spot)

-- both as one answer
abbrev pub reach_to : List ℕ → List ℕ → List ℕ → List ℕ → ℕ → ℕ → ℕ → Option ℕ
reach_to rights spots bytes lens right spot j =
    cond (reaching rights spots bytes lens right spot j) (Some (reach_at spots bytes lens spot j)) None

-- a yes only where it reaches at least `bar`
abbrev pub reach_from : List ℕ → List ℕ → List ℕ → List ℕ → ℕ → ℕ → ℕ → ℕ → Option ℕ
reach_from rights spots bytes lens right spot bar j =
    cond (reaching rights spots bytes lens right spot j && leb bar (reach_at spots bytes lens spot j)) (Some (reach_at spots bytes lens spot j)) None

-- the path of the claim at place j is shorter than `bar`, as it is written
abbrev pub short_at : List ℕ → List ℕ → ℕ → ℕ → Bool
short_at spots lens bar j = ltb j (length spots) && (ltb (get_or spots j 0) (length lens) && ltb (get_or lens (get_or spots j 0) 0) bar)

-- the nearest of the places that pass a test: one whose number is at least `bar` is taken, and a further one must exceed it; with a `bar` of 0
-- none is taken yet
unfoldable pub nearest_from : (ℕ → Bool) → (ℕ → ℕ) → ℕ → ℕ → List ℕ → Option ℕ
nearest_from p f best bar [] = cond (eqb bar 0) None (Some best)
nearest_from p f best bar (j ∷ places) =
    let nearer = nearest_from p f j (suc (f j)) places in
    let more = nearest_from p f best bar places in
    cond (p j && leb bar (f j)) nearer more

-- the place that reaches furthest, the first of them on a tie, or none
abbrev pub nearest_covering : List ℕ → List ℕ → List ℕ → List ℕ → List ℕ → ℕ → ℕ → Option ℕ
nearest_covering places rights spots bytes lens right spot =
    nearest_from (reaching rights spots bytes lens right spot) (reach_at spots bytes lens spot) 0 0 places
