-- `coverage::laying::put_path` meets its contract. Into a buffer of another length nothing is written. Assumes nothing.
use Rattle.std.proofs.Common.{arith, rules, eq-eqb, length}
use Rattle.coverage.specs.Laid.{bytes_limit}
use Rattle.coverage.proofs.Copying.{copying_start, copying_length, copying_next, copying_done}
use Rattle.coverage.proofs.laying.put_path.Goals as goal

pub loop-i-init : goal.loop-i-init
loop-i-init c = copying_start (search rules) (omega (arith, c.requires, c.if-bytes-ne-BYTES.false))

pub bounds-bytes-at : goal.bounds-bytes-at
bounds-bytes-at c = omega (arith, copying_length c.loop-i.invariant)

pub loop-i-preserved : goal.loop-i-preserved
loop-i-preserved c = copying_next c.loop-i.invariant c.loop-i-test.true

pub returns : goal.returns
returns c = (
  c.loop-i.invariant.long,
  rw (eq-eqb (length c.args.bytes.now) bytes_limit c.if-bytes-ne-BYTES.false) (copying_done c.loop-i.invariant c.loop-i-test.false),
)
