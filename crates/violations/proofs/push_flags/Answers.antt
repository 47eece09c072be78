-- `violations::push_flags` meets its contract. Assumes nothing.
use Rattle.std.proofs.Common.{◌∙◌, eq-eqb, ne_eqb}
use Rattle.actions.specs.declared.Violation.TheVariants.{FlagSet}
use Rattle.gate_rules.specs.Gate.{flags_set}
use Rattle.violations.specs.Pushing.{pushing_put, pushing_kept, pushing_next, pushing_end}
use Rattle.violations.proofs.Among.{is_set, flag_next, flag_none}
use Rattle.violations.proofs.push_flags.Goals as goal
use Rattle.violations.proofs.push_flags.Goals.{then-flags-flag-eq1, else-flags-flag-eq1}

pub loop-flag-preserved : goal.loop-flag-preserved
loop-flag-preserved c =
    let loop = c.loop-flag in
    let flags = c.args.flags in
    pushing_next loop.invariant _ c.loop-flag-test.true (flag_next flags loop.flag)
    (elim c.if-flags-flag-eq1.branch [
      | then-flags-flag-eq1 w ↦ w.vs-is ∙ w.put.ensures ∙ pushing_put (is_set flags loop.flag) (FlagSet loop.flag) loop.vs (eq-eqb _ _ w.if-flags-flag-eq1.true)
      | else-flags-flag-eq1 w ↦ w.vs-is ∙ pushing_kept (is_set flags loop.flag) (FlagSet loop.flag) loop.vs (rw (ne_eqb _ _ w.if-flags-flag-eq1.false))
    ])

pub returns : goal.returns
unfolding flags_set
returns c = pushing_end c.loop-flag.invariant c.loop-flag-test.false (flag_none c.args.flags)
