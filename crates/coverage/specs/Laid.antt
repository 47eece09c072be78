-- Working: Paths laid one after the other. What they are in 01's words is proved in LaidLaws (`part_laid`).
use Rattle.std.specs.Prelude.{cond, List, [], ◌∷◌, ◌++◌, map, ℕ, ◌*◌, ◌-◌, ◌/◌, eqb, ltb, length, take, drop, get_or, replicate}
use Rattle.register.specs.Limits.{resource_limit, path_limit}
use Rattle.register.specs.Register.{resources_of}
use Rattle.register.specs.declared.Resources.{Resources}

-- the bytes of the paths of all places
abbrev pub bytes_limit : ℕ
bytes_limit = resource_limit * path_limit

-- lists one after the other
unfoldable pub flat : List (List ℕ) → List ℕ
flat [] = []
flat (p ∷ ps) = p ++ flat ps

-- paths laid over a buffer that has the bytes of all places, from its beginning on; a buffer of another length stays as it is
unfoldable pub laid_over : List ℕ → List (List ℕ) → List ℕ
laid_over old ps = cond (eqb (length old) bytes_limit) (flat ps ++ drop (length ps * path_limit) old) old

-- the paths of the resources up to the count
abbrev pub laid_in : List ℕ → Resources → List ℕ
laid_in old k = laid_over old (map (λ o. o.path) (resources_of k))

-- their lengths, 0 behind them
unfoldable pub lens_of : Resources → List ℕ
lens_of k = map (λ o. o.len) (resources_of k) ++ replicate (resource_limit - length (resources_of k)) 0

-- both, in a buffer of zeros
pub record Paths : Type 0 where
  pub bytes : List ℕ
  pub lens : List ℕ

unfoldable pub laid : Resources → Paths
laid k = record { bytes = laid_in (replicate bytes_limit 0) k; lens = lens_of k }

-- the path at place x: nothing where the bytes do not hold that place whole
unfoldable pub part_at : List ℕ → List ℕ → ℕ → List ℕ
part_at bytes lens x =
    cond (ltb x (length bytes / path_limit)) (take (get_or lens x 0) (take path_limit (drop (x * path_limit) bytes))) []
