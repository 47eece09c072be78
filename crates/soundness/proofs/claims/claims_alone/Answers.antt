-- `soundness::claims::claims_alone` meets its contract: what was told of the claims, with the numbers in range, is the answer (Judging). Assumes
-- nothing.
use Rattle.std.proofs.Common.{◌∙◌}
use Rattle.soundness.proofs.Asking.{asked_none, asked_next, asked_done}
use Rattle.soundness.specs.Judging.{ids_told, alone_told}
use Rattle.soundness.proofs.claims.claims_alone.Goals as goal

pub loop-i-init : goal.loop-i-init
loop-i-init c =
    asked_none (ids_told c.args.version c.args.actors c.args.h c.args.sheet.now c.args.n c.requires.0 c.requires.1
    (c.both_places-named.ensures ∙ rw (c.column-grantors.ensures, c.column-holders.ensures)))

pub loop-i-preserved : goal.loop-i-preserved
loop-i-preserved c =
    asked_next c.loop-i.invariant c.loop-i-test.true
    (c.stands_named-stand.ensures ∙ rw (c.claim_at-c.ensures, c.number_at-kind.ensures, c.number_at-owner.ensures, c.number_at-keeper.ensures))

pub returns : goal.returns
returns c =
    rw (asked_done c.loop-i.invariant c.loop-i-test.false, c.claims_fit.ensures)
    (alone_told c.args.version c.args.actors c.args.h c.args.sheet.now c.args.n c.requires.0 c.requires.1
    (c.both_places-named.ensures ∙ rw (c.column-grantors.ensures, c.column-holders.ensures)) c.args.keepers.now c.args.spots.now)
