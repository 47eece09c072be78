-- `soundness::actors::actor_fits` meets its contract: each answer by the test that decides (Fits). Assumes nothing.
use Rattle.std.proofs.Common.{sym, ◌∙◌}
use Rattle.soundness.proofs.Fits.{actor_unnumbered, actor_alone_human, actor_alone_other, actor_owner_beyond, actor_owned_other, actor_owned_machine}
use Rattle.soundness.proofs.actors.actor_fits.Goals as goal

pub returns-then-not-is_id : goal.returns-then-not-is_id
returns-then-not-is_id c = sym (actor_unnumbered _ _ (sym c.is_id.ensures ∙ c.if-not-is_id.true))

pub returns-then-a-eq-HUMAN : goal.returns-then-a-eq-HUMAN
returns-then-a-eq-HUMAN c =
    sym (actor_alone_human _ _ (sym c.is_id.ensures ∙ c.if-not-is_id.false) c.if-a-eq0.true c.if-a-eq-HUMAN.true)

pub returns-then-a-eq0 : goal.returns-then-a-eq0
returns-then-a-eq0 c =
    sym (actor_alone_other _ _ (sym c.is_id.ensures ∙ c.if-not-is_id.false) c.if-a-eq0.true c.if-a-eq-HUMAN.false)

pub returns-then-a-gt-ID_LIMIT : goal.returns-then-a-gt-ID_LIMIT
returns-then-a-gt-ID_LIMIT c =
    sym (actor_owner_beyond _ _ (sym c.is_id.ensures ∙ c.if-not-is_id.false) c.if-a-gt-ID_LIMIT.true)

pub returns-then-a-ne-MACHINE : goal.returns-then-a-ne-MACHINE
returns-then-a-ne-MACHINE c =
    sym (actor_owned_other _ _ (sym c.is_id.ensures ∙ c.if-not-is_id.false) c.if-a-eq0.false c.if-a-ne-MACHINE.true)

pub returns : goal.returns
returns c =
    c.is_beside.ensures
    ∙ sym (actor_owned_machine _ _ (sym c.is_id.ensures ∙ c.if-not-is_id.false) c.if-a-eq0.false c.if-a-gt-ID_LIMIT.false c.if-a-ne-MACHINE.false)
