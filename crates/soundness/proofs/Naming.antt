-- A loop that fills an array from the front with the humans' ids, 0 for any other actor. Assumes nothing.
use Rattle.std.proofs.Common.{◌≡◌, refl, ap, ◌∙◌, List, [], ◌∷◌, ◌++◌, ℕ, zero, suc, ◌+◌, ◌-◌, ◌≤◌, ◌<◌, min, add-one, arith, length, take, get_or, set, replicate, length-take, take-suc}
use Rattle.lists.specs.Fills.{put_first}
use Rattle.register.specs.Limits.{actor_limit}
use Rattle.soundness.specs.World.{human_id, humans_in, human_ids}

-- as many as the shorter column has numbers, each by its id and kind
humans_length : (ids kinds : List ℕ) → length (humans_in ids kinds) ≡ min (length ids) (length kinds)
unfolding humans_in
humans_length [] kinds = omega arith
humans_length (x ∷ ids) [] = omega arith
humans_length (x ∷ ids) (k ∷ kinds) = omega (arith, humans_length ids kinds)

humans_at : (ids kinds : List ℕ) (i : ℕ) → i < length (humans_in ids kinds) → get_or (humans_in ids kinds) i 0 ≡ human_id (get_or ids i 0) (get_or kinds i 0)
unfolding humans_in
humans_at [] kinds i h = absurd (omega arith)
humans_at (x ∷ ids) [] i h = absurd (omega arith)
humans_at (x ∷ ids) (k ∷ kinds) zero h = refl
humans_at (x ∷ ids) (k ∷ kinds) (suc i) h = humans_at ids kinds i (omega arith)

-- the first i places, of top that are to be filled, are
pub record Naming (ids kinds : List ℕ) (n top i : ℕ) (humans : List ℕ) : Type 0 where
  pub within : i ≤ top
  pub long : top ≡ min (min (min n actor_limit) (length ids)) (length kinds)
  pub filled : humans ≡ take i (humans_in ids kinds) ++ replicate (actor_limit - i) 0

module _ {ids kinds : List ℕ} {n top : ℕ} where
  module _ {i : ℕ} {humans : List ℕ} (s : Naming ids kinds n top i humans) where
    pub naming_next : {x : ℕ} → x ≡ human_id (get_or ids i 0) (get_or kinds i 0) → i < top → Naming ids kinds n top (i + 1) (set humans i x)
    naming_next {x} told h =
        let there : i < length (humans_in ids kinds) = omega (arith, h, s.long, humans_length ids kinds) in
        let first : length (take i (humans_in ids kinds)) ≡ i = omega (arith, there, length-take i (humans_in ids kinds)) in
        let more : take (i + 1) (humans_in ids kinds) ≡ take i (humans_in ids kinds) ++ (x ∷ []) =
        rw (add-one i, take-suc (humans_in ids kinds) i 0, humans_at ids kinds i there, told) in
        record {
          within = omega arith;
          long = s.long;
          filled = rw (s.filled, more) (put_first (take i (humans_in ids kinds)) actor_limit i 0 x first (omega (arith, h, s.long)));
        }

    pub naming_done : top ≤ i → humans ≡ human_ids ids kinds n
    unfolding human_ids
    naming_done h =
        let same : i ≡ min n (min actor_limit (min (length ids) (length kinds))) = omega (arith, h, s.within, s.long) in
        s.filled ∙ ap (λ j. take j (humans_in ids kinds) ++ replicate (actor_limit - j) 0) same
