-- Actors read off their columns from the front, each put to a test until one fails it. Assumes nothing.
use Rattle.std.proofs.Common.{◌≡◌, refl, sym, ap, ◌∙◌, Bool, true, false, List, [], ◌∷◌, ℕ, zero, suc, ◌+◌, ◌<◌, min, arith, length, get_or}
use Rattle.lists.specs.Lists.{every}
use Rattle.lists.specs.Loops.{Loop, start, turn, next}
use Rattle.register.specs.Register.{no_actor}
use Rattle.soundness_rules.specs.Sound.{actor_fits}
use Rattle.soundness.specs.World.{human_in, actors_in, actors_fit}

-- as many actors as the shortest of their columns has numbers, and each has its number of each
actors_in_length : (ids kinds owners : List ℕ) → length (actors_in ids kinds owners) ≡ min (length ids) (min (length kinds) (length owners))
unfolding actors_in
actors_in_length [] kinds owners = omega arith
actors_in_length (x ∷ ids) [] owners = omega arith
actors_in_length (x ∷ ids) (k ∷ kinds) [] = omega arith
actors_in_length (x ∷ ids) (k ∷ kinds) (o ∷ owners) = omega (arith, actors_in_length ids kinds owners)

actors_in_at : (ids kinds owners : List ℕ) (i : ℕ) → i < length (actors_in ids kinds owners)
    → get_or (actors_in ids kinds owners) i no_actor ≡ record { id = get_or ids i 0; kind = get_or kinds i 0; owner = get_or owners i 0 }
unfolding actors_in
actors_in_at [] kinds owners i h = absurd (omega arith)
actors_in_at (x ∷ ids) [] owners i h = absurd (omega arith)
actors_in_at (x ∷ ids) (k ∷ kinds) [] i h = absurd (omega arith)
actors_in_at (x ∷ ids) (k ∷ kinds) (o ∷ owners) zero h = refl
actors_in_at (x ∷ ids) (k ∷ kinds) (o ∷ owners) (suc i) h = actors_in_at ids kinds owners i (omega arith)

-- the loop has come to place i: every actor passes where every one of what is left does
pub record Judging (ids kinds owners : List ℕ) (n top i : ℕ) : Type 0 where
  pub long : top ≡ min (min (min n (length ids)) (length kinds)) (length owners)
  pub loop : Loop (λ at m. every (actor_fits (human_in ids kinds n)) m) n (actors_in ids kinds owners) top i (actors_fit ids kinds owners n)

module _ {ids kinds owners : List ℕ} {n top : ℕ} where
  pub judging_start : top ≡ min (min (min n (length ids)) (length kinds)) (length owners) → Judging ids kinds owners n top 0
  unfolding actors_fit
  judging_start h = record { long = h; loop = start (omega (arith, h, actors_in_length ids kinds owners)) refl }

  module _ {i : ℕ} (s : Judging ids kinds owners n top i) where
    module _ (h : i < top) {answer : Bool}
        (asked : answer ≡ actor_fits (human_in ids kinds n) (record { id = get_or ids i 0; kind = get_or kinds i 0; owner = get_or owners i 0 })) where
      read : answer ≡ actor_fits (human_in ids kinds n) (get_or (actors_in ids kinds owners) i no_actor)
      read =
          asked
          ∙ ap (actor_fits (human_in ids kinds n))
          (sym (actors_in_at ids kinds owners i (omega (arith, h, s.long, actors_in_length ids kinds owners))))

      -- an actor that fails decides
      pub judging_no : answer ≡ false → actors_fit ids kinds owners n ≡ false
      judging_no e = turn s.loop no_actor h ∙ rw (sym read ∙ e)

      pub judging_next : answer ≡ true → Judging ids kinds owners n top (i + 1)
      judging_next e = record { long = s.long; loop = next s.loop h (turn s.loop no_actor h ∙ rw (sym read ∙ e)) }
