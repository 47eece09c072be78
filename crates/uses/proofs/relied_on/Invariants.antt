-- `uses::relied_on` meets its contract. The loop's invariant: the nearest claims that cover the uses passed are in their places (Filling). Assumes
-- nothing.
use Rattle.std.proofs.Common.{take}
use Rattle.lists.specs.Fills.{Filling}
use Rattle.register.specs.Limits.{claim_limit}
use Rattle.actions.specs.Actions.{use_limit}
use Rattle.uses.specs.Passes.{relied_at}
use Rattle.uses.proofs.relied_on.Given as goal

abbrev pub invariant-loop-i : goal.invariant-loop-i
invariant-loop-i l =
    Filling use_limit (relied_at (take l.owns l.own) l.rights l.spots l.bytes l.lens l.fn.uses) l.i-end claim_limit l.i l.relied
