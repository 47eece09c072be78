-- `withdrawing::grants_up` meets its contract (Going). Assumes nothing.
use Rattle.std.proofs.Common.{sym, ap, ◌∙◌, ne_eqb, eqb}
use Rattle.withdrawing.proofs.Going.{walk_root, walk_above}
use Rattle.withdrawing.proofs.grants_up.Goals as goal

pub loop-up-preserved : goal.loop-up-preserved
loop-up-preserved c =
    walk_above c.loop-up.invariant c.loop-up-test.true
    (ne_eqb _ _ (λ same. c.if-number_at-who.false (c.number_at.ensures ∙ same))) c.place_above-up-in-loop-up.ensures

pub returns : goal.returns
returns c =
    ap (λ g. eqb g c.args.who) c.number_at-2.ensures ∙ sym (walk_root c.loop-up.invariant c.loop-up-test.false)
