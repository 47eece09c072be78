-- `coverage::gathering::gather` meets its contract. Assumes nothing.
use Rattle.std.proofs.Common.{◌≡◌, refl, true, false, List, ℕ, ◌+◌, ◌<◌, ◌≤◌, arith, set, replicate}
use Rattle.register.specs.Limits.{claim_limit}
use Rattle.coverage.specs.Gathering.{looked_at, held_at, gathered_by}
use Rattle.coverage.specs.GatheringLaws.{looked_within}
use Rattle.coverage.specs.declared.Gathered.{Gathered}
use Rattle.coverage.proofs.Collecting.{collecting_start, collecting_hit, collecting_miss, collecting_count, collecting_places}
use Rattle.coverage.proofs.gathering.gather.Invariants.{Gathering}
use Rattle.coverage.proofs.gathering.gather.Goals as goal
use Rattle.coverage.proofs.gathering.gather.Goals.{then-holders-i, else-holders-i}

gathering_start : {holders ends : List ℕ} {n x moment top : ℕ} → top ≡ looked_at holders ends n
    → Gathering holders ends n x moment top 0 0 (replicate claim_limit 0)
gathering_start {holders} {ends} {n} e =
    let looked = looked_within holders ends n in
    record { whole = e; within = looked; collected = collecting_start (omega (arith, looked.few)) refl }

module _ {holders ends : List ℕ} {n x moment top i count : ℕ} {places : List ℕ} (s : Gathering holders ends n x moment top i count places) where
  module _ (h : i < top) where
    gathering_covers : held_at holders ends x moment i ≡ true → Gathering holders ends n x moment top (i + 1) (count + 1) (set places count i)
    gathering_covers t = record { whole = s.whole; within = s.within; collected = collecting_hit s.collected h t }

    gathering_misses : held_at holders ends x moment i ≡ false → Gathering holders ends n x moment top (i + 1) count places
    gathering_misses t = record { whole = s.whole; within = s.within; collected = collecting_miss s.collected h t }

  gathering_done : top ≤ i → ◌≡◌ {A = Gathered} (record { places = places; count = count }) (gathered_by holders ends n x moment)
  unfolding gathered_by
  gathering_done h = rw (← s.whole, ← collecting_count s.collected h, collecting_places s.collected h)

pub loop-i-init : goal.loop-i-init
loop-i-init c = gathering_start c.looked_at-i-end.ensures

pub loop-i-preserved : goal.loop-i-preserved
loop-i-preserved c =
    elim c.if-holders-i.branch [
      | then-holders-i w ↦ rw (w.count-is, w.places-is) (gathering_covers c.loop-i.invariant c.loop-i-test.true w.if-holders-i.true)
      | else-holders-i w ↦ rw (w.count-is, w.places-is) (gathering_misses c.loop-i.invariant c.loop-i-test.true w.if-holders-i.false)
    ]

pub returns : goal.returns
returns c = gathering_done c.loop-i.invariant c.loop-i-test.false
