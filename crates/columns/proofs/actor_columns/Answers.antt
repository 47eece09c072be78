-- `columns::actor_columns` meets its contract: each column is filled up to the count. Assumes nothing.
use Rattle.std.proofs.Common.{◌≡◌, sym, ◌∙◌, ap, ◌≤◌, min, arith, length, rules}
use Rattle.lists.specs.Loops.{length_mapped}
use Rattle.register.specs.Limits.{actor_limit}
use Rattle.columns.proofs.Filling.{empty, fill, full}
use Rattle.columns.proofs.actor_columns.Goals as goal

pub loop-i-init : goal.loop-i-init
loop-i-init c =
    let long : length c.args.k.list ≡ actor_limit = search (rules, length_mapped) in
    let room : c.min-top.result ≤ length c.args.k.list = omega (arith, c.min-top.ensures, long) in (
      empty room long,
      empty room long,
      empty room long,
    )

pub loop-i-preserved : goal.loop-i-preserved
loop-i-preserved c = (
  fill c.loop-i.invariant.0 _ c.loop-i-test.true,
  fill c.loop-i.invariant.1 _ c.loop-i-test.true,
  fill c.loop-i.invariant.2 _ c.loop-i-test.true,
)

pub returns : goal.returns
returns c =
    let inv = c.loop-i.invariant in
    let long : length c.args.k.list ≡ actor_limit = search (rules, length_mapped) in
    let bound = c.min-top.ensures ∙ ap (min _) (sym long) in
    rw (
      full inv.0 _ bound c.loop-i-test.false,
      full inv.1 _ bound c.loop-i-test.false,
      full inv.2 _ bound c.loop-i-test.false,
    )
