-- `violations::push_flags` meets its contract. The loop's invariant: what is left to be put is the set ones of the flags left (Pushing). Assumes
-- nothing.
use Rattle.actions.specs.Actions.{flag_count}
use Rattle.violations.specs.Pushing.{Pushing}
use Rattle.violations.proofs.Among.{set_among}
use Rattle.violations.proofs.push_flags.Given as goal

abbrev pub invariant-loop-flag : goal.invariant-loop-flag
invariant-loop-flag l = Pushing (set_among l.flags) flag_count l.flag l.initial.vs l.vs
