-- What owning an array of structs tells of each of its elements. Assumes nothing.
use Rattle.std.proofs.Common.{List, [], ◌∷◌}
use mir.Val.{Val}
use base.Fml.{Fml}
use denote.Shadow.{shadow}
use denote.Array.{each}
use Rattle.lists.specs.Lists.{All}

-- what an element's own part tells of it is told of each
pub each_told : {X : Type 0} (own : X → List Val → Fml) (Q : X → Type 0) → ((x : X) (u : Val) → shadow (own x (u ∷ [])) → Q x) → (l : List X) (us : List Val)
    → shadow (each X own l us) → All Q l
each_told own Q f [] us s = tt
each_told own Q f (x ∷ l) [] s = absurd s
each_told own Q f (x ∷ l) (u ∷ us) s = (f x u s.0, each_told own Q f l us s.1)
