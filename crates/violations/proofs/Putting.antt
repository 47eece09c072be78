-- Violations put one list after the other. Assumes nothing.
use Rattle.std.proofs.Common.{◌≡◌, sym, List, ◌∷◌, ◌++◌}
use Rattle.actions.specs.declared.Violation.{Violation}
use Rattle.actions.specs.declared.Violations.{Violations}
use Rattle.violations.specs.Pushed.{pushed, pushed_all}
use Rattle.violations.specs.PushedLaws.{pushed_all_append}

pub two_pushed : (vs : Violations) (l m : List Violation) (first : Violations) → first ≡ pushed_all vs l → pushed_all first m ≡ pushed_all vs (l ++ m)
two_pushed vs l m first e = rw e (sym (pushed_all_append vs l m))

pub three_pushed : (vs : Violations) (l : List Violation) (v : Violation) (m : List Violation) (first second : Violations) →
    first ≡ pushed_all vs l → second ≡ pushed first v → pushed_all second m ≡ pushed_all vs (l ++ (v ∷ m))
unfolding pushed_all
three_pushed vs l v m first second e f = rw f (two_pushed vs l (v ∷ m) first e)
