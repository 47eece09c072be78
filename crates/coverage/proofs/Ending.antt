-- A loop that finds the ends of claims one after the other. Assumes nothing.
use Rattle.std.proofs.Common.{◌≡◌, ap, ◌∙◌, cond, List, ◌++◌, ℕ, ◌+◌, ◌-◌, ◌≤◌, ◌<◌, add-one, arith, lt-ltb, le-ltb, ltb, get_or, set, replicate}
use lib.ListN.{get_or-append}
use Rattle.lists.specs.Fills.{put_first}
use Rattle.register.specs.Limits.{claim_limit, moment_end}
use Rattle.coverage.specs.Gathering.{end_under, end_behind, ends_to, ending_of, ends_of}
use Rattle.coverage.specs.Ends.{ends_none, ends_next, ends_length}

-- of the claims, of which top are looked at, the loop has come to place i: the ends of those before it are in their places, and 0 past them
pub record Ending (weights expiries ups : List ℕ) (n top i : ℕ) (found : List ℕ) : Type 0 where
  pub within : i ≤ top
  pub whole : top ≡ ending_of weights expiries ups n
  pub put : found ≡ ends_to weights expiries ups i ++ replicate (claim_limit - i) 0

module _ {weights expiries ups : List ℕ} {n top : ℕ} where
  pub ending_start : top ≡ ending_of weights expiries ups n → Ending weights expiries ups n top 0 (replicate claim_limit 0)
  ending_start e = record { within = omega arith; whole = e; put = rw (ends_none weights expiries ups) }

  module _ {i : ℕ} {found : List ℕ} (s : Ending weights expiries ups n top i found) where
    module _ (h : i < top) where
      -- the place is there in the array
      pub ending_room : i < claim_limit
      ending_room = omega (arith, s.whole)

      ending_next : {e most : ℕ} → most ≡ cond (ltb (get_or ups i 0) i) (get_or (ends_to weights expiries ups i) (get_or ups i 0) 0) moment_end
          → e ≡ end_under (get_or weights i 0) (get_or expiries i 0) most → Ending weights expiries ups n top (i + 1) (set found i e)
      ending_next {e} bounded ended =
          let here : e ≡ end_behind weights expiries ups (ends_to weights expiries ups i) i =
          ended ∙ ap (end_under (get_or weights i 0) (get_or expiries i 0)) bounded in
          record {
            within = omega arith;
            whole = s.whole;
            put = rw (s.put, ap (ends_to weights expiries ups) (add-one i) ∙ ends_next weights expiries ups i, here)
                (put_first (ends_to weights expiries ups i) claim_limit i 0 (end_behind weights expiries ups (ends_to weights expiries ups i) i)
                (ends_length weights expiries ups i) ending_room);
          }

      -- the parent's end is found already
      pub ending_drawn : {e : ℕ} → get_or ups i 0 < i → e ≡ end_under (get_or weights i 0) (get_or expiries i 0) (get_or found (get_or ups i 0) 0)
          → Ending weights expiries ups n top (i + 1) (set found i e)
      ending_drawn before ended =
          let read : get_or found (get_or ups i 0) 0 ≡ get_or (ends_to weights expiries ups i) (get_or ups i 0) 0 =
          ap (λ l. get_or l (get_or ups i 0) 0) s.put
          ∙ get_or-append (ends_to weights expiries ups i) (replicate (claim_limit - i) 0) 0 (get_or ups i 0) (omega (arith, ends_length weights expiries ups i)) in
          ending_next (rw (lt-ltb (get_or ups i 0) i before) read) ended

      -- no parent stands before it
      pub ending_root : {e : ℕ} → i ≤ get_or ups i 0 → e ≡ end_under (get_or weights i 0) (get_or expiries i 0) moment_end
          → Ending weights expiries ups n top (i + 1) (set found i e)
      ending_root none ended = ending_next (rw (le-ltb (get_or ups i 0) i none)) ended

    -- after the loop the ends are found
    pub ending_done : top ≤ i → found ≡ ends_of weights expiries ups n
    unfolding ends_of
    ending_done h =
        let end : i ≡ ending_of weights expiries ups n = omega (arith, s.within, s.whole) in
        s.put ∙ ap (λ m. ends_to weights expiries ups m ++ replicate (claim_limit - m) 0) end
