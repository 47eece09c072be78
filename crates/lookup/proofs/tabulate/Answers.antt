-- `lookup::tabulate` meets its contract: a place more goes into its bucket (Seeking), and is distinct from those before it where its number is sought
-- in vain (`distinct_next`). Assumes nothing.
use Rattle.std.proofs.Common.{refl, arith}
use Rattle.lists.specs.Lists.{distinct}
use Rattle.register.specs.Limits.{claim_limit}
use Rattle.lookup.proofs.Distinct.{distinct_next}
use Rattle.lookup.proofs.Seeking.{indexing_none, indexing_next}
use Rattle.lookup.proofs.tabulate.Goals as goal

pub loop-i-init : goal.loop-i-init
unfolding distinct
loop-i-init c = (indexing_none c.args.column.now, refl)

pub loop-i-preserved : goal.loop-i-preserved
loop-i-preserved c =
    let loop = c.loop-i in (
      rw c.bucket_of-bucket.ensures (indexing_next loop.invariant.0 (omega arith) (omega arith)),
      distinct_next c.args.column.now loop.i claim_limit (omega arith) (omega arith) _ c.seek-before.ensures loop.distinct loop.invariant.1,
    )
