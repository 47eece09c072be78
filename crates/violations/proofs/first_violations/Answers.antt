-- `violations::first_violations` meets its contract: the flags, then the owner, then the entries that a machine governs. Assumes nothing.
use Rattle.std.proofs.Common.{ap, ◌∙◌, [], eq-eqb, ne_eqb}
use Rattle.actions.specs.Actions.{governs_of}
use Rattle.actions.specs.declared.Violation.TheVariants.{NoOwner}
use Rattle.gate_rules.specs.Gate.{flags_set, governed, listed}
use Rattle.violations.specs.Pushed.{pushed_all}
use Rattle.violations.proofs.Putting.{two_pushed, three_pushed}
use Rattle.violations.proofs.first_violations.Goals as goal

pub returns-then-owner-eq0 : goal.returns-then-owner-eq0
returns-then-owner-eq0 c =
    rw (c.if-machine.true, eq-eqb _ _ c.if-owner-eq0.true)
    (c.push_governs.ensures
    ∙ three_pushed (listed []) (flags_set c.args.a.flags) (NoOwner c.args.a.actor) (governed 0 (governs_of c.args.a))
    c.push_flags-flagged.result c.push-unowned.result
    (c.push_flags-flagged.ensures ∙ ap (λ vs. pushed_all vs (flags_set c.args.a.flags)) c.none.ensures) c.push-unowned.ensures)

pub returns-then-machine : goal.returns-then-machine
returns-then-machine c =
    rw (c.if-machine.true, ne_eqb _ _ c.if-owner-eq0.false)
    (c.push_governs-then-machine.ensures
    ∙ two_pushed (listed []) (flags_set c.args.a.flags) (governed 0 (governs_of c.args.a))
    c.push_flags-flagged.result
    (c.push_flags-flagged.ensures ∙ ap (λ vs. pushed_all vs (flags_set c.args.a.flags)) c.none.ensures))
