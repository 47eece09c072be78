-- `checking::check` meets its contract: what the gate decides of the one use tells the tests (Asking), and then whether the proposal passes
-- (Passing). Assumes nothing.
use Rattle.std.proofs.Common.{ap, sym, ◌∙◌, cond}
use Rattle.proposals.specs.Proposals.{permits}
use Rattle.proposals.specs.declared.Checked.TheVariants.{Passes, Fails}
use Rattle.checking.proofs.Asking.{checked_stopped, checked_passed}
use Rattle.checking.proofs.Passing.{permits_by, passing_by}
use Rattle.checking.proofs.check.Goals as goal

pub returns-in-Err : goal.returns-in-Err
returns-in-Err c =
    let told = rw (c.asked-outcome.ensures, c.asks_fit.ensures, c.decide-decided.ensures, c.one_use.ensures) at c.in-Err.is in
    sym (checked_stopped _ _ _ _ _ _ _ told)

pub returns-in-Ok : goal.returns-in-Ok
returns-in-Ok c =
    let told = rw (c.asked-outcome.ensures, c.asks_fit.ensures, c.decide-decided.ensures, c.one_use.ensures) at c.in-Ok.is in
    let permitted = c.is_permitted-already.ensures ∙ permits_by _ _ _ c.decide-decided.ensures ∙ ap (permits _) c.one_use.ensures in
    rw (c.told.ensures, c.passes.ensures)
    (ap (λ b. cond b Passes Fails) (passing_by _ _ _ _ _ _ _ permitted) ∙ sym (checked_passed _ _ _ _ _ _ told))
