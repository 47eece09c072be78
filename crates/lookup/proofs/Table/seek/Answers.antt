-- `lookup::Table::seek` meets its contract. Assumes nothing.
use Rattle.std.proofs.Common.{◌≡◌, sym, ap, arith}
use Rattle.register.specs.Limits.{claim_limit}
use Rattle.lookup.specs.Finding.{place_number}
use Rattle.lookup.proofs.Seeking.{seeking_start, seeking_linked, seeking_hit, seeking_next, seeking_less, seeking_done}
use Rattle.lookup.proofs.Table.seek.Goals as goal

pub loop-link-init : goal.loop-link-init
loop-link-init c = rw c.bucket_of.ensures (seeking_start c.requires)

pub returns-then-at-below : goal.returns-then-at-below
returns-then-at-below c =
    sym (ap (place_number claim_limit) (seeking_hit (seeking_linked c.loop-link-test.true c.loop-link.invariant) c.if-at-below.true))

pub loop-link-smaller : goal.loop-link-smaller
loop-link-smaller c =
    omega (arith, seeking_less (seeking_linked c.loop-link-test.true c.loop-link.invariant))

pub loop-link-preserved : goal.loop-link-preserved
loop-link-preserved c =
    seeking_next (seeking_linked c.loop-link-test.true c.loop-link.invariant) c.if-at-below.false

pub returns : goal.returns
returns c =
    let none : c.loop-link.link ≡ 0 = omega arith in
    sym (ap (place_number claim_limit) (seeking_done (rw none at c.loop-link.invariant)))
