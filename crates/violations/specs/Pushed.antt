-- Working: The violations of an action besides those of its uses, and violations put to the end of a list as the answer holds it. What they are
-- over lists is proved in PushedLaws (`pushed_natural`).
use Rattle.std.specs.Prelude.{Bool, ◌&&◌, cond, List, [], ◌∷◌, ◌++◌, ℕ, ◌+◌, eqb, ltb, set}
use Rattle.actions.specs.Actions.{violation_limit, governs_of}
use Rattle.actions.specs.declared.Action.{Action}
use Rattle.actions.specs.declared.Violation.{Violation}
use Rattle.actions.specs.declared.Violation.TheVariants.{NoOwner}
use Rattle.actions.specs.declared.Violations.{Violations}
use Rattle.gate_rules.specs.Gate.{flags_set, governed}

-- the violations besides those of the uses, in 01's order, of an actor that is a machine or not and has this owner or none
abbrev pub besides : Bool → ℕ → Action → List Violation
besides machine owner a =
    flags_set a.flags ++ (cond (machine && eqb owner 0) (NoOwner a.actor ∷ []) [] ++ cond machine (governed 0 (governs_of a)) [])

-- one violation more, at the end; as they were where there is no place
unfoldable pub pushed : Violations → Violation → Violations
pushed vs v =
    cond (ltb vs.count violation_limit) (record { list = set vs.list vs.count (record { what = v }); count = vs.count + 1 }) vs

-- violations put to the end one after the other
unfoldable pub pushed_all : Violations → List Violation → Violations
pushed_all vs [] = vs
pushed_all vs (v ∷ more) = pushed_all (pushed vs v) more
