-- `uses::uses_of` meets its contract. The loop's invariant: the rights and the spots of the uses passed are in their places (Filling). Assumes
-- nothing.
use Rattle.std.proofs.Common.{◌≡◌, get_or}
use Rattle.lists.specs.Fills.{Filling}
use Rattle.register.specs.Limits.{resource_limit}
use Rattle.actions.specs.Actions.{no_use, use_limit}
use Rattle.uses.specs.Passes.{used_spot}
use Rattle.uses.proofs.uses_of.Given as goal

abbrev pub invariant-loop-i : goal.invariant-loop-i
invariant-loop-i l =
    (l.uses.count ≡ l.count)
    × Filling use_limit (λ j. (get_or l.fn.a.uses j no_use).right) l.count 0 l.i l.uses.rights
    × Filling use_limit (λ j. used_spot l.reports l.m (get_or l.fn.a.uses j no_use)) l.count resource_limit l.i l.uses.spots
