-- Believed: Path containment (000), on paths as lists of bytes. Nothing is assumed of the bytes: components are cut at `/` only, and `.` and `//`
-- mean nothing special.
use Rattle.std.specs.Prelude.{Bool, true, false, not, ◌&&◌, ◌||◌, cond, List, [], ◌∷◌, ℕ, eqb, length, drop, Option, None, Some}
use Rattle.lists.specs.Lists.{any, same}

-- the bytes `/` and `.`
abbrev pub slash : ℕ
slash = 47

abbrev pub dot : ℕ
dot = 46

-- whether a byte string is empty
abbrev pub is_empty : List ℕ → Bool
is_empty [] = true
is_empty (b ∷ p) = false

-- a byte put in front of the first component
abbrev pub joined : ℕ → List (List ℕ) → List (List ℕ)
joined b [] = (b ∷ []) ∷ []
joined b (c ∷ cs) = (b ∷ c) ∷ cs

-- the components of a path: what stands before, between and behind its slashes
unfoldable pub components : List ℕ → List (List ℕ)
components [] = [] ∷ []
components (b ∷ p) = let more = components p in cond (eqb b slash) ([] ∷ more) (joined b more)

-- whether a component of the path equals `..`
unfoldable pub climbing : List ℕ → Bool
climbing p = any (same (dot ∷ dot ∷ [])) (components p)

-- the path without the slashes at its end: a slash goes where nothing is left behind it
unfoldable pub trimmed : List ℕ → List ℕ
trimmed [] = []
trimmed (b ∷ p) = let more = trimmed p in cond (eqb b slash && is_empty more) [] (b ∷ more)

-- whether a path starts with another
unfoldable pub starting : List ℕ → List ℕ → Bool
starting [] p = true
starting (b ∷ o) [] = false
starting (b ∷ o) (c ∷ p) = eqb b c && starting o p

-- whether what follows begins with a slash
abbrev pub slashed : List ℕ → Bool
slashed [] = false
slashed (b ∷ p) = eqb b slash

-- Outer contains inner when neither has a component equal to `..` and one of these holds: outer is empty; inner equals the
-- trimmed outer; inner starts with the trimmed outer, and what follows it begins with a slash.
unfoldable pub contained : List ℕ → List ℕ → Bool
contained outer inner =
    (not (climbing outer) && not (climbing inner))
    && (is_empty outer || same inner (trimmed outer) || (starting (trimmed outer) inner && slashed (drop (length (trimmed outer)) inner)))

-- how far outer reaches to inner: the length of the trimmed outer path, 0 where it does not contain inner
unfoldable pub reached : List ℕ → List ℕ → ℕ
reached outer inner = cond (contained outer inner) (length (trimmed outer)) 0

-- both as one answer: a no, or a yes with how far
abbrev pub reach_between : List ℕ → List ℕ → Option ℕ
reach_between outer inner = cond (contained outer inner) (Some (reached outer inner)) None

-- an answer's yes or no, and its length
abbrev pub is_inside : Option ℕ → Bool
is_inside None = false
is_inside (Some n) = true

abbrev pub length_of : Option ℕ → ℕ
length_of None = 0
length_of (Some n) = n
