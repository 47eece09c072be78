-- The definitions on small values, computed. Assumes nothing.
use Rattle.std.proofs.Common.{◌≡◌, refl, [], ◌∷◌}
use Rattle.register_bytes.specs.Bytes.{actor_size, resource_size, claim_size, actor_count_at, resources_at, resource_count_at, claims_at, claim_count_at, version_at, register_size, number_in, bytes_of}

-- the least byte stands first, and past the end there are zeros
least_first : number_in 4 1 (9 ∷ 1 ∷ 2 ∷ 3 ∷ 4 ∷ []) ≡ 67305985
unfolding number_in
least_first = refl

past_the_end : number_in 4 1 (9 ∷ 7 ∷ []) ≡ 7
unfolding number_in
past_the_end = refl

written_least_first : bytes_of 4 67305985 ≡ 1 ∷ 2 ∷ 3 ∷ 4 ∷ []
unfolding bytes_of
written_least_first = refl

-- the sizes and the places, as the header has them
sizes : (actor_size ≡ 12) × (resource_size ≡ 80) × (claim_size ≡ 40) × (register_size ≡ 16160)
sizes = (refl, refl, refl, refl)

places : (actor_count_at ≡ 768) × (resources_at ≡ 776) × (resource_count_at ≡ 5896) × (claims_at ≡ 5904) × (claim_count_at ≡ 16144) × (version_at ≡ 16152)
places = (refl, refl, refl, refl, refl, refl)
