-- `lookup::earlier_places` meets its contract: each place is found by a table that has all the places asked for. Assumes nothing.
use Rattle.std.proofs.Common.{◌≡◌, ap, ◌∙◌, min, arith, take}
use Rattle.lists.specs.Lists.{distinct}
use Rattle.register.specs.Limits.{claim_limit}
use Rattle.lookup.specs.Finding.{asked, earlier_places, earlier_found}
use Rattle.lookup.proofs.Filling.{fill, full}
use Rattle.lookup.proofs.earlier_places.Goals as goal

pub loop-i-preserved : goal.loop-i-preserved
loop-i-preserved c =
    let inv = c.loop-i.invariant in
    (fill inv.0 c.seek.result c.loop-i-test.true c.seek.ensures, inv.1)

pub returns : goal.returns
unfolding earlier_found earlier_places
returns c =
    let entry = c.args in
    let inv = c.loop-i.invariant in
    let all : min c.min-top.result claim_limit ≡ asked entry.m entry.wanted.now = omega arith in
    let told = inv.1 ∙ c.tabulate-table.ensures.distinct ∙ ap (λ k. distinct (take k entry.column.now)) all in
    let most : c.min-top.result ≡ asked entry.m entry.wanted.now = omega arith in
    rw (full inv.0 c.loop-i-test.false, told, most)
