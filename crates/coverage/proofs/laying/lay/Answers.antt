-- `coverage::laying::lay` meets its contract. Assumes nothing.
use Rattle.std.proofs.Common.{◌≡◌, length, rules}
use Rattle.coverage.proofs.Owned.{each_told}
use Rattle.lists.specs.Loops.{length_mapped}
use Rattle.register.specs.Limits.{path_limit}
use Rattle.register.specs.contracts.Resource.{the_row}
use Rattle.coverage.proofs.Pasting.{laying_start, laying_next, laying_done}
use Rattle.coverage.proofs.laying.lay.Goals as goal

-- what owning the resources tells of each is that its path has 64 bytes
pub loop-i-init : goal.loop-i-init
loop-i-init c =
    laying_start (search (rules, length_mapped)) c.min-i-end.ensures
    (each_told the_row.own_val (λ o. length o.path ≡ path_limit) (λ o u told. search (rules, told)) c.args.k.list _ c.well_formed.1.0.1.1.0.1.1)

pub loop-i-preserved : goal.loop-i-preserved
loop-i-preserved c =
    let put = c.put_path in
    laying_next c.loop-i.invariant _ c.loop-i-test.true put.ensures.0 put.ensures.1

pub returns-clause-lengths : goal.returns-clause-lengths
returns-clause-lengths c = (laying_done c.loop-i.invariant c.loop-i-test.false).1
