-- `lookup::places_of` meets its contract: each place is found by a table that has all the places asked for. Assumes nothing.
use Rattle.std.proofs.Common.{◌≡◌, ap, ◌∙◌, min, arith, take}
use Rattle.lists.specs.Lists.{distinct}
use Rattle.register.specs.Limits.{claim_limit}
use Rattle.lookup.specs.Finding.{asked, places_of, places_found}
use Rattle.lookup.proofs.Filling.{fill, full}
use Rattle.lookup.proofs.places_of.Goals as goal

pub loop-i-preserved : goal.loop-i-preserved
loop-i-preserved c =
    let inv = c.loop-i.invariant in
    (fill inv.0 c.seek.result c.loop-i-test.true (rw c.min-below.ensures at c.seek.ensures), inv.1)

pub returns : goal.returns
unfolding places_found places_of
returns c =
    let entry = c.args in
    let inv = c.loop-i.invariant in
    let all : min c.min-below.result claim_limit ≡ min entry.n claim_limit = omega arith in
    let told = inv.1 ∙ c.tabulate-table.ensures.distinct ∙ ap (λ k. distinct (take k entry.column.now)) all in
    let most : c.min-top.result ≡ asked entry.m entry.wanted.now = omega arith in
    rw (full inv.0 c.loop-i-test.false, told, most)
