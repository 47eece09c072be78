-- The answer is that of the uses left.
use Rattle.std.proofs.Common.{◌≡◌, Bool, leb, take, drop}
use Rattle.lists.specs.Lists.{every}
use Rattle.actions.specs.declared.Usage.{Usage}
use Rattle.json_rules.specs.Actions.{json_holds}
use Rattle.json_writing.proofs.has_place.Given as goal

-- the form has a place for the use
abbrev pub is_plain : Usage → Bool
is_plain u = leb u.right 2

abbrev pub invariant-loop-u : goal.invariant-loop-u
invariant-loop-u l = json_holds l.fn.a ≡ every is_plain (drop l.u-index (take l.top l.fn.a.uses))
