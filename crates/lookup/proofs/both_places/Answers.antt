-- `lookup::both_places` meets its contract: each place is found by the one table. Assumes nothing.
use Rattle.std.proofs.Common.{◌≡◌, ap, ◌∙◌, min, arith, take}
use Rattle.lists.specs.Lists.{distinct}
use Rattle.register.specs.Limits.{claim_limit}
use Rattle.lookup.specs.Finding.{both_places, places_of, asked, shared}
use Rattle.lookup.proofs.Filling.{fill, full}
use Rattle.lookup.proofs.both_places.Goals as goal

pub loop-i-preserved : goal.loop-i-preserved
loop-i-preserved c =
    let inv = c.loop-i.invariant in (
      fill inv.0 c.seek.result c.loop-i-test.true (rw c.min-below.ensures at c.seek.ensures),
      fill inv.1 c.seek-in-loop-i.result c.loop-i-test.true (rw c.min-below.ensures at c.seek-in-loop-i.ensures),
      inv.2,
    )

pub returns : goal.returns
unfolding both_places places_of
returns c =
    let entry = c.args in
    let inv = c.loop-i.invariant in
    let all : min c.min-below.result claim_limit ≡ min entry.n claim_limit = omega arith in
    let told = inv.2 ∙ c.tabulate-table.ensures.distinct ∙ ap (λ k. distinct (take k entry.column.now)) all in
    let first : asked (shared entry.m entry.wanted.now entry.other.now) entry.wanted.now ≡ c.min-top.result = omega arith in
    let second : asked (shared entry.m entry.wanted.now entry.other.now) entry.other.now ≡ c.min-top.result = omega arith in
    rw (full inv.0 c.loop-i-test.false, full inv.1 c.loop-i-test.false, told, first, second)
