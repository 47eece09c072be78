-- Which claims go: a walk up the places of the parents that asks each claim, and whether each claim goes, told in turn. Assumes nothing.
use Rattle.std.proofs.Common.{◌≡◌, sym, ap, ◌∙◌, Bool, false, ◌||◌, List, [], ◌∷◌, ◌++◌, map, ℕ, ◌+◌, ◌-◌, ◌≤◌, ◌<◌, min, zero-add, add-one, arith, ltb-true, ltb-false, ltb, length, get_or, set, replicate, get_or-append-add}
use mathlib.Core.Bool.{or-false}
use mathlib.Core.List.{map-append}
use lib.ListN.{length-map}
use Rattle.lists.specs.Tests.{cases}
use Rattle.lists.specs.Lists.{any, counted}
use Rattle.lists.specs.Counts.{counted_length, counted_last}
use Rattle.lists.specs.Fills.{put_first}
use Rattle.register.specs.Limits.{claim_limit}
use Rattle.columns.specs.Columns.{places_up}
use Rattle.columns.specs.Laws.{places_up_at, places_up_none}
use Rattle.lookup.specs.Laws.{behind_none}
use Rattle.withdrawing.specs.Struck.{goes_at, gone_by}
use Rattle.withdrawing.proofs.Laws.{gone_at}

-- a walk has come to a place, for which `up` is kept, and what it is to answer, e, is asked of that place and of those above it
pub record Walk (p : ℕ → Bool) (ups : List ℕ) (at up : ℕ) (e : Bool) : Type 0 where
  pub next : up ≡ get_or ups at at
  pub ahead : e ≡ any p (at ∷ places_up ups at)

module _ {p : ℕ → Bool} {ups : List ℕ} {at up : ℕ} {e : Bool} (s : Walk p ups at up e) where
  pub walk_root : at ≤ up → e ≡ p at
  walk_root h = s.ahead ∙ rw (places_up_none ups at (rw (← s.next) h)) (or-false (p at))

  pub walk_above : up < at → p at ≡ false → {higher : ℕ} → higher ≡ get_or ups up up → Walk p ups up higher e
  walk_above h other u =
      let more : places_up ups at ≡ up ∷ places_up ups up = rw s.next (places_up_at ups at (rw (← s.next) h)) in
      record { next = u; ahead = s.ahead ∙ rw other (ap (any p) more) }

-- behind those of which it is told none goes
gone_past : (P : ℕ → Bool) (ups : List ℕ) (n j : ℕ) → n ≤ claim_limit → n ≤ j → get_or (gone_by P ups n) j false ≡ false
unfolding gone_by
gone_past P ups n j few h =
    let top = min n claim_limit in
    let behind : j ≡ length (map (goes_at P ups) (counted 0 top)) + (j - n) = omega (arith, length-map (counted 0 top) (goes_at P ups), counted_length 0 top) in
    ap (λ k. get_or (map (goes_at P ups) (counted 0 top) ++ replicate (claim_limit - top) false) k false) behind
    ∙ get_or-append-add (map (goes_at P ups) (counted 0 top)) (replicate (claim_limit - top) false) (j - n) false
    ∙ behind_none (claim_limit - top) (j - n) false

-- a claim goes where P names it, or where its parent goes
goes_next : (P : ℕ → Bool) (ups : List ℕ) (i : ℕ) → i ≤ claim_limit → goes_at P ups i ≡ P i || get_or (gone_by P ups i) (get_or ups i i) false
goes_next P ups i few =
    ap (λ b. P i || b)
    (cases (ltb (get_or ups i i) i)
    (λ t. let below : get_or ups i i < i = ltb-true (get_or ups i i) i t in
    ap (any P) (places_up_at ups i below) ∙ sym (gone_at P ups i (get_or ups i i) (omega arith)))
    (λ t. let past : i ≤ get_or ups i i = ltb-false (get_or ups i i) i t in
    ap (any P) (places_up_none ups i past) ∙ sym (gone_past P ups i (get_or ups i i) few past)))

-- of the first i claims it is told whether they go
pub record Telling (P : ℕ → Bool) (ups : List ℕ) (top i : ℕ) (gone : List Bool) : Type 0 where
  pub within : i ≤ top
  pub room : top ≤ claim_limit
  pub told : gone ≡ gone_by P ups i

module _ {P : ℕ → Bool} {ups : List ℕ} {top : ℕ} where
  pub telling_start : top ≤ claim_limit → {gone : List Bool} → gone ≡ replicate claim_limit false → Telling P ups top 0 gone
  unfolding gone_by
  telling_start h e = record { within = omega arith; room = h; told = e }

  module _ {i : ℕ} {gone : List Bool} (s : Telling P ups top i gone) where
    pub telling_next : i < top → {b : Bool} → b ≡ P i || get_or gone (get_or ups i i) false → Telling P ups top (i + 1) (set gone i b)
    unfolding gone_by
    telling_next h {b} e =
        let f : (ℕ → Bool) = goes_at P ups in
        let own : b ≡ f i = e ∙ ap (λ l. P i || get_or l (get_or ups i i) false) s.told ∙ sym (goes_next P ups i (omega (arith, s.within, s.room))) in
        let long : length (map f (counted 0 i)) ≡ i = length-map (counted 0 i) f ∙ counted_length 0 i in
        let more : map f (counted 0 (i + 1)) ≡ map f (counted 0 i) ++ (f i ∷ []) =
        ap (map f) (ap (counted 0) (add-one i) ∙ counted_last 0 i ∙ ap (λ j. counted 0 i ++ (j ∷ [])) (zero-add i)) ∙ map-append f (counted 0 i) (i ∷ []) in
        let now : min i claim_limit ≡ i = omega (arith, s.within, s.room) in
        let then : min (i + 1) claim_limit ≡ i + 1 = omega (arith, h, s.room) in
        record {
          within = omega arith;
          room = s.room;
          told = rw (s.told, own, now, then, more) (put_first (map f (counted 0 i)) claim_limit i false (f i) long (omega (arith, h, s.room)));
        }

    pub telling_done : top ≤ i → (n : ℕ) → top ≡ min n claim_limit → gone ≡ gone_by P ups n
    unfolding gone_by
    telling_done h n e = let same : min i claim_limit ≡ min n claim_limit = omega (arith, h, e, s.within, s.room) in s.told ∙ rw same
