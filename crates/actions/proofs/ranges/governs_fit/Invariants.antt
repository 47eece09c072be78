-- `actions::ranges::governs_fit` meets its contract. The loop's invariant: the answer is that of the entries left (Loops). Assumes nothing.
use Rattle.std.proofs.Common.{Bool, ℕ, leb}
use Rattle.lists.specs.Lists.{every}
use Rattle.lists.specs.Loops.{Loop}
use Rattle.register.specs.Limits.{id_limit}
use Rattle.actions.specs.Actions.{governs_of}
use Rattle.actions.proofs.ranges.governs_fit.Given as goal

abbrev pub entry_fits : ℕ → Bool
entry_fits g = leb g id_limit

abbrev pub invariant-loop-g : goal.invariant-loop-g
invariant-loop-g l = Loop (λ at l. every entry_fits l) l.fn.a.governed l.fn.a.governs l.g-index-end l.g-index (every entry_fits (governs_of l.fn.a))
