-- `granting::current_up` meets its contract (Columns). Assumes nothing.
use Rattle.std.proofs.Common.{sym, ap, ◌∙◌}
use Rattle.register.specs.Chain.{current}
use Rattle.granting.proofs.Columns.{walk_root, walk_above}
use Rattle.granting.proofs.current_up.Goals as goal

pub loop-up-preserved : goal.loop-up-preserved
loop-up-preserved c =
    let moment = c.args.moment in
    walk_above c.loop-up.invariant c.loop-up-test.true
    (ap (current moment) (sym c.claim_at-c.ensures) ∙ sym c.is_current.ensures ∙ c.if-not-is_current.false)
    c.place_above-up-in-loop-up.ensures

pub returns : goal.returns
returns c =
    let moment = c.args.moment in
    c.is_current-2.ensures ∙ ap (current moment) c.claim_at-root.ensures ∙ sym (walk_root c.loop-up.invariant c.loop-up-test.false)
