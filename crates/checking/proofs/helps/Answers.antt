-- `checking::helps` meets its contract: a grant that is refused helps nothing, and one that is accepted helps where the register with its claim as it
-- is stored permits the one use (Passing). Assumes nothing.
use Rattle.std.proofs.Common.{ap, sym, ◌∙◌}
use Rattle.checking.proofs.Passing.{unhelped, room_left, helped}
use Rattle.checking.proofs.helps.Goals as goal

pub with_claim-after-requires : goal.with_claim-after-requires
with_claim-after-requires c =
    room_left _ _ _ (ap (λ y. y.outcome) (sym c.grant_outcome-settled.ensures) ∙ c.in-Ok.is)

pub returns-in-Err : goal.returns-in-Err
returns-in-Err c =
    sym (unhelped _ _ _ _ _ _ (ap (λ y. y.outcome) (sym c.grant_outcome-settled.ensures) ∙ c.in-Err.is))

pub returns-in-Ok : goal.returns-in-Ok
returns-in-Ok c =
    rw (c.permitted.ensures, c.one_use.ensures, c.with_claim-after.ensures, c.grant_outcome-settled.ensures)
    (sym (helped _ _ _ _ _ (ap (λ y. y.outcome) (sym c.grant_outcome-settled.ensures) ∙ c.in-Ok.is)))
