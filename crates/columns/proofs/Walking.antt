-- The walk up a chain by the places of the parents that counts its steps. Assumes nothing.
use Rattle.std.proofs.Common.{Option, ℕ, None, Some, ◌≡◌, ap, ◌∙◌, cond, List, ◌∷◌, suc, ◌+◌, ◌≤◌, ◌<◌, arith, le-leb, leb, length, get_or}
use borrow.Author.Tests.{lt-leb}
use Rattle.register.specs.Limits.{hop_limit}
use Rattle.columns.specs.Columns.{places_up}
use Rattle.columns.specs.Laws.{places_up_at, places_up_none}

-- the steps up, told from those made and the chain still above
abbrev steps_after : ℕ → List ℕ → Option ℕ
steps_after k l = cond (leb (k + length l) hop_limit) (Some (k + length l)) None

-- k steps were made up to a place, `up` is what is kept for it, and e is the number of steps up
pub record Climbing (ups : List ℕ) (k at up : ℕ) (e : Option ℕ) : Type 0 where
  pub within : k ≤ hop_limit
  pub next : up ≡ get_or ups at at
  pub ahead : e ≡ steps_after k (places_up ups at)

module _ {ups : List ℕ} {k at up : ℕ} {e : Option ℕ} (s : Climbing ups k at up e) where
  -- nothing is above
  pub climbing_root : at ≤ up → e ≡ Some k
  climbing_root h =
      let none : k + 0 ≡ k = omega arith in
      s.ahead ∙ ap (steps_after k) (places_up_none ups at (rw (← s.next) h)) ∙ rw (none, le-leb k hop_limit s.within)

  module _ (h : up < at) where
    more : places_up ups at ≡ up ∷ places_up ups up
    more = rw s.next (places_up_at ups at (rw (← s.next) h))

    pub climbing_next : k < hop_limit → {higher : ℕ} → higher ≡ get_or ups up up → Climbing ups (k + 1) up higher e
    climbing_next room u =
        let one_more : k + suc (length (places_up ups up)) ≡ k + 1 + length (places_up ups up) = omega arith in
        record { within = omega arith; next = u; ahead = s.ahead ∙ ap (steps_after k) more ∙ rw one_more }

    pub climbing_beyond : hop_limit ≤ k → e ≡ None
    climbing_beyond full =
        s.ahead ∙ ap (steps_after k) more ∙ rw (lt-leb (k + suc (length (places_up ups up))) hop_limit (omega arith))
