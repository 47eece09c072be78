-- A loop over the first actors of an array that keeps the ids of those who pass a test in an array, from the front, and counts them. Assumes nothing.
use Rattle.std.proofs.Common.{◌≡◌, sym, ap, ◌∙◌, Bool, true, false, not, List, [], ◌∷◌, ◌++◌, map, ℕ, ◌+◌, ◌-◌, ◌≤◌, ◌<◌, min, add-one, arith, length, take, get_or, set, replicate, length-append, length-take, take-suc, get_or-take}
use mathlib.Core.List.{map-append}
use lib.ListN.{length-map}
use Rattle.lists.specs.Fills.{put_first}
use Rattle.lists.specs.Filters.{filter_nil, dropping_length, filter_last, filter_past}
use Rattle.lists.specs.Lists.{filter}
use Rattle.register.specs.Limits.{actor_limit}
use Rattle.register.specs.Register.{no_actor}
use Rattle.register.specs.declared.Actor.{Actor}

-- the ids of those who pass
abbrev pub ids_of : (Actor → Bool) → List Actor → List ℕ
ids_of p l = map (λ a. a.id) (filter p l)

-- the loop over the first k actors, of whom there are top, has come to place i
pub record Keeping (p : Actor → Bool) (k : ℕ) (actors : List Actor) (top i count : ℕ) (ids : List ℕ) : Type 0 where
  pub within : i ≤ top
  pub whole : top ≡ length (take k actors)
  pub room : top ≤ actor_limit
  pub many : count ≡ length (ids_of p (take i (take k actors)))
  pub held : ids ≡ ids_of p (take i (take k actors)) ++ replicate (actor_limit - count) 0

module _ {p : Actor → Bool} {k : ℕ} {actors : List Actor} {top : ℕ} where
  pub keeping_start : length actors ≡ actor_limit → top ≡ min k actor_limit → Keeping p k actors top 0 0 (replicate actor_limit 0)
  keeping_start long e =
      record { within = omega arith; whole = omega (arith, length-take k actors); room = omega arith; many = rw (filter_nil p); held = rw (filter_nil p) }

  module _ {i count : ℕ} {ids : List ℕ} (s : Keeping p k actors top i count ids) where
    pub keeping_room : count ≤ i
    keeping_room =
        omega (
          arith,
          s.many,
          length-map (filter p (take i (take k actors))) (λ a. a.id),
          dropping_length (λ l a. not (p a)) (take i (take k actors)),
          length-take i (take k actors),
        )

    module _ (h : i < top) where
      abbrev here : Actor
      here = get_or actors i no_actor

      one_more : take (i + 1) (take k actors) ≡ take i (take k actors) ++ (here ∷ [])
      one_more =
          let inside : i < length (take k actors) = omega (arith, s.whole) in
          let below : i < k = omega (arith, s.whole, length-take k actors) in
          rw (add-one) (take-suc (take k actors) i no_actor inside) ∙ ap (λ a. take i (take k actors) ++ (a ∷ [])) (get_or-take k actors i no_actor below)

      kept_here : p here ≡ true → Keeping p k actors top (i + 1) (count + 1) (set ids count here.id)
      kept_here e =
          let kept : List ℕ = ids_of p (take i (take k actors)) in
          let more : ids_of p (take (i + 1) (take k actors)) ≡ kept ++ (here.id ∷ []) =
          ap (ids_of p) one_more ∙ ap (map (λ a. a.id)) (filter_last p (take i (take k actors)) here e)
          ∙ map-append (λ a. a.id) (filter p (take i (take k actors))) (here ∷ []) in
          let free : count < actor_limit = omega (arith, keeping_room, s.room) in
          record {
            within = omega arith;
            whole = s.whole;
            room = s.room;
            many = rw more (ap (λ m. m + 1) s.many ∙ sym (length-append kept (here.id ∷ [])));
            held = rw (more, s.held) (put_first kept actor_limit count 0 here.id (sym s.many) free);
          }

      -- the actor a is read there
      pub keeping_hit : {a : Actor} → a ≡ here → p a ≡ true → Keeping p k actors top (i + 1) (count + 1) (set ids count a.id)
      keeping_hit read e = rw read (kept_here (ap p (sym read) ∙ e))

      missed_here : p here ≡ false → Keeping p k actors top (i + 1) count ids
      missed_here e =
          let same : ids_of p (take (i + 1) (take k actors)) ≡ ids_of p (take i (take k actors)) =
          ap (ids_of p) one_more ∙ ap (map (λ a. a.id)) (filter_past p (take i (take k actors)) here e) in
          record { within = omega arith; whole = s.whole; room = s.room; many = rw same s.many; held = rw same s.held }

      pub keeping_miss : {a : Actor} → a ≡ here → p a ≡ false → Keeping p k actors top (i + 1) count ids
      keeping_miss read e = missed_here (ap p (sym read) ∙ e)
