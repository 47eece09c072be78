-- Texts put into small buffers: within one, up to its last byte, and one byte too far. Computed. Assumes nothing.
use Rattle.std.proofs.Common.{◌≡◌, refl, [], ◌∷◌}
use Rattle.lists.specs.Lists.{splice}
use Rattle.buffers.specs.Buffers.{put}
use Rattle.buffers.specs.Positions.{behind}

put_within : put 1 (7 ∷ 8 ∷ []) (1 ∷ 2 ∷ 3 ∷ 4 ∷ []) ≡ 1 ∷ 7 ∷ 8 ∷ 4 ∷ []
unfolding splice
put_within = refl

behind_within : behind 1 (7 ∷ 8 ∷ []) (1 ∷ 2 ∷ 3 ∷ 4 ∷ []) ≡ 3
behind_within = refl

put_to_the_end : put 2 (7 ∷ 8 ∷ []) (1 ∷ 2 ∷ 3 ∷ 4 ∷ []) ≡ 1 ∷ 2 ∷ 7 ∷ 8 ∷ []
unfolding splice
put_to_the_end = refl

put_too_far : put 3 (7 ∷ 8 ∷ []) (1 ∷ 2 ∷ 3 ∷ 4 ∷ []) ≡ 1 ∷ 2 ∷ 3 ∷ 4 ∷ []
put_too_far = refl

behind_too_far : behind 3 (7 ∷ 8 ∷ []) (1 ∷ 2 ∷ 3 ∷ 4 ∷ []) ≡ 3
behind_too_far = refl
