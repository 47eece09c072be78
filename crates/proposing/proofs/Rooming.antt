-- How many more hands each claim may pass through before an actor, found claim by claim, each by its parent's; and what it is by the chain above the claim.
-- Assumes nothing.
use Rattle.std.proofs.Common.{◌≡◌, refl, sym, ap, ◌∙◌, Bool, true, false, ◌||◌, cond, List, [], ◌∷◌, ◌++◌, ℕ, zero, suc, ◌+◌, ◌-◌, ◌≤◌, ◌<◌, add-one, arith, eqb-true, lt-ltb, le-ltb, ltb-true, ltb-false, eqb, ltb, length, get_or, set, replicate, length-append}
use mathlib.Core.Bool.{or-false, or_assoc}
use borrow.Author.Tests.{eqb-false}
use lib.ListN.{get_or-append}
use lib.Seq.{get_or_at}
use Rattle.lists.specs.Tests.{cases}
use Rattle.lists.specs.Lists.{any}
use Rattle.lists.specs.Fills.{put_first}
use Rattle.register.specs.Limits.{claim_limit, left_limit}
use Rattle.register.specs.Chain.{circling, root_granted}
use Rattle.columns.specs.Columns.{places_up}
use Rattle.columns.specs.Laws.{get_d_inside, places_up_at, places_up_none}
use Rattle.proposing.specs.Planned.{room_of_root, room_under, room_behind, rooms_to, rooms_of}

module _ (step x : ℕ) (ups grantors holders : List ℕ) where
  -- the rooms of the claims before a place, and the room there
  abbrev before : ℕ → List ℕ
  before n = rooms_to step x ups grantors holders n

  abbrev pub room_at : ℕ → ℕ
  room_at n = room_behind step x ups grantors holders (before n) n

  rooms_none : before 0 ≡ []
  unfolding rooms_to
  rooms_none = refl

  rooms_next : (n : ℕ) → before (suc n) ≡ before n ++ (room_at n ∷ [])
  unfolding rooms_to
  rooms_next n = refl

  rooms_length : (n : ℕ) → length (before n) ≡ n
  rooms_length zero = ap length rooms_none
  rooms_length (suc n) = ap length (rooms_next n) ∙ length-append (before n) (room_at n ∷ []) ∙ omega (arith, rooms_length n)

  -- those behind it do not change a room
  rooms_at : (n i : ℕ) → i < n → get_or (before n) i 0 ≡ room_at i
  rooms_at zero i h = absurd (omega arith)
  rooms_at (suc n) i h =
      cases (eqb i n)
      (λ e. let same : i ≡ n = eqb-true i n e in
      rw (same, rooms_next n) (get_or_at (before n) (room_at n) [] 0 n (rooms_length n)))
      (λ e. let earlier : i < n = omega (arith, eqb-false i n e) in
      ap (λ l. get_or l i 0) (rooms_next n)
      ∙ get_or-append (before n) (room_at n ∷ []) 0 i (omega (arith, rooms_length n))
      ∙ rooms_at n i earlier)

  -- the array of the rooms holds each at its place
  pub rooms_read : (n i : ℕ) → i < n → get_or (rooms_of step x ups grantors holders n) i 0 ≡ room_at i
  unfolding rooms_of
  rooms_read n i h = get_or-append (before n) (replicate (claim_limit - n) 0) 0 i (omega (arith, rooms_length n)) ∙ rooms_at n i h

-- ---- the loop

-- the loop has come to place i: the rooms of the claims before it are in their places, and 0 past them
pub record Rooming (step x : ℕ) (ups grantors holders : List ℕ) (n i : ℕ) (found : List ℕ) : Type 0 where
  pub within : i ≤ n
  pub few : n ≤ claim_limit
  pub put : found ≡ rooms_to step x ups grantors holders i ++ replicate (claim_limit - i) 0

module _ {step x : ℕ} {ups grantors holders : List ℕ} {n : ℕ} where
  pub rooming_start : n ≤ claim_limit → Rooming step x ups grantors holders n 0 (replicate claim_limit 0)
  rooming_start h = record { within = omega arith; few = h; put = rw (rooms_none step x ups grantors holders) }

  module _ {i : ℕ} {found : List ℕ} (s : Rooming step x ups grantors holders n i found) where
    module _ (h : i < n) where
      pub rooming_place : i < claim_limit
      rooming_place = omega (arith, s.few)

      rooming_next : {e : ℕ} → e ≡ room_at step x ups grantors holders i → Rooming step x ups grantors holders n (i + 1) (set found i e)
      rooming_next {e} here =
          record {
            within = omega arith;
            few = s.few;
            put = rw (s.put, ap (rooms_to step x ups grantors holders) (add-one i) ∙ rooms_next step x ups grantors holders i, here)
                (put_first (rooms_to step x ups grantors holders i) claim_limit i 0 (room_at step x ups grantors holders i)
                (rooms_length step x ups grantors holders i) rooming_place);
          }

      -- the parent's room is found already
      pub rooming_drawn : {e : ℕ} → get_or ups i 0 < i → e ≡ room_under step x (get_or holders i 0) (get_or found (get_or ups i 0) 0)
          → Rooming step x ups grantors holders n (i + 1) (set found i e)
      rooming_drawn earlier told =
          let read : get_or found (get_or ups i 0) 0 ≡ get_or (rooms_to step x ups grantors holders i) (get_or ups i 0) 0 =
          ap (λ l. get_or l (get_or ups i 0) 0) s.put
          ∙ get_or-append (rooms_to step x ups grantors holders i) (replicate (claim_limit - i) 0) 0 (get_or ups i 0)
          (omega (arith, rooms_length step x ups grantors holders i)) in
          rooming_next (told ∙ ap (room_under step x (get_or holders i 0)) read ∙ rw (lt-ltb (get_or ups i 0) i earlier))

      -- no parent stands before it
      pub rooming_root : {e : ℕ} → i ≤ get_or ups i 0 → e ≡ room_of_root x (get_or grantors i 0) (get_or holders i 0)
          → Rooming step x ups grantors holders n (i + 1) (set found i e)
      rooming_root none told = rooming_next (told ∙ rw (le-ltb (get_or ups i 0) i none))

    pub rooming_done : n ≤ i → found ≡ rooms_of step x ups grantors holders n
    unfolding rooms_of
    rooming_done h =
        let end : i ≡ n = omega (arith, s.within) in
        s.put ∙ ap (λ m. rooms_to step x ups grantors holders m ++ replicate (claim_limit - m) 0) end

-- ---- by the chain

module _ (grantors holders : ℕ → ℕ) where
  circling_more : (j k : ℕ) (l : List ℕ) (h : ℕ) → circling grantors holders (j ∷ k ∷ l) h ≡ eqb (holders j) h || circling grantors holders (k ∷ l) h
  unfolding circling root_granted
  circling_more j k l h = or_assoc (eqb (holders j) h) (any (λ i. eqb (holders i) h) (k ∷ l)) (root_granted grantors (k ∷ l) h)

  circling_root : (j h : ℕ) → circling grantors holders (j ∷ []) h ≡ eqb (holders j) h || eqb (grantors j) h
  unfolding circling root_granted
  circling_root j h = rw (or-false (eqb (holders j) h))

-- what is left after so many steps
abbrev pub left_after : ℕ → ℕ → ℕ
left_after step zero = left_limit
left_after step (suc n) = left_after step n - step

-- a step more takes of what is left where there is no circle
under_same : (a b : Bool) (m step : ℕ) → cond a 0 (cond b 0 m - step) ≡ cond (a || b) 0 (m - step)
under_same true b m step = refl
under_same false true m step = omega arith
under_same false false m step = refl

module _ (step x : ℕ) (ups grantors holders : List ℕ) where
  abbrev circles : List ℕ → Bool
  circles l = circling (λ i. get_or grantors i 0) (λ i. get_or holders i 0) l x

  up_to : (bound j : ℕ) → j < bound → j < length ups
      → room_at step x ups grantors holders j ≡ cond (circles (j ∷ places_up ups j)) 0 (left_after step (length (places_up ups j)))
  up_to zero j h inside = absurd (omega arith)
  up_to (suc bound) j h inside =
      let up = get_or ups j 0 in
      let same : get_or ups j j ≡ up = get_d_inside ups j j 0 inside in
      cases (ltb up j)
      (λ t. let below : up < j = ltb-true up j t in
      let more : places_up ups j ≡ up ∷ places_up ups up = places_up_at ups j (omega (arith, same, below)) ∙ ap (λ k. k ∷ places_up ups k) same in
      let known = up_to bound up (omega (arith, below, h)) (omega (arith, below, inside)) in
      rw (t, rooms_at step x ups grantors holders j up below, known, more)
      (under_same (eqb (get_or holders j 0) x) (circles (up ∷ places_up ups up)) (left_after step (length (places_up ups up))) step
      ∙ ap (λ b. cond b 0 (left_after step (length (places_up ups up)) - step))
      (sym (circling_more (λ i. get_or grantors i 0) (λ i. get_or holders i 0) j up (places_up ups up) x))))
      (λ t. let none : places_up ups j ≡ [] = places_up_none ups j (omega (arith, same, ltb-false up j t)) in
      rw (t, none) (ap (λ b. cond b 0 left_limit) (sym (circling_root (λ i. get_or grantors i 0) (λ i. get_or holders i 0) j x))))

  -- the room of a claim is what its steps leave, and nothing where x is on its chain or granted its root
  pub room_natural : (j : ℕ) → j < length ups
      → room_at step x ups grantors holders j ≡ cond (circles (j ∷ places_up ups j)) 0 (left_after step (length (places_up ups j)))
  room_natural j inside = up_to (suc j) j (omega arith) inside
