-- `actions::ranges::uses_fit` meets its contract. The loop's invariant: the answer is that of the uses left (Loops). Assumes nothing.
use Rattle.std.proofs.Common.{Bool, ◌&&◌, leb}
use Rattle.lists.specs.Lists.{every}
use Rattle.lists.specs.Loops.{Loop}
use Rattle.rights.specs.Rights.{is_right}
use Rattle.register.specs.Limits.{id_limit}
use Rattle.actions.specs.Actions.{uses_of}
use Rattle.actions.specs.declared.Usage.{Usage}
use Rattle.actions.proofs.ranges.uses_fit.Given as goal

abbrev pub use_fits : Usage → Bool
use_fits u = leb u.resource id_limit && is_right u.right

abbrev pub invariant-loop-u : goal.invariant-loop-u
invariant-loop-u l = Loop (λ at l. every use_fits l) l.fn.a.used l.fn.a.uses l.u-index-end l.u-index (every use_fits (uses_of l.fn.a))
