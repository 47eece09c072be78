-- A violation stored where a test holds and there is a place. Assumes nothing.
use Rattle.std.specs.Prelude.{◌≡◌, Bool, true, false, ◌&&◌, ◌+◌, ◌<◌, ltb, set}
use Rattle.std.proofs.Common.{ltb-true}
use Rattle.lists.specs.Tests.{and_right}
use Rattle.actions.specs.Actions.{violation_limit}
use Rattle.actions.specs.declared.Violation.{Violation}
use Rattle.actions.specs.declared.Violations.{Violations}
use Rattle.violations.specs.Pushed.{pushed, pushed_all}
use Rattle.violations.specs.Pushing.{one_where}

-- the place that the test asks for
pub place_left : (b : Bool) (vs : Violations) → b && ltb vs.count violation_limit ≡ true → vs.count < violation_limit
place_left b vs h = ltb-true vs.count violation_limit (and_right b (ltb vs.count violation_limit) h)

-- where the test holds and there is a place, it is stored there
pub pushing_stored : (b : Bool) (v : Violation) (vs : Violations) → b && ltb vs.count violation_limit ≡ true
    → ◌≡◌ {A = Violations} (record { list = set vs.list vs.count (record { what = v }); count = vs.count + 1 }) (pushed_all vs (one_where b v))
unfolding pushed pushed_all
pushing_stored true v vs h = rw h
pushing_stored false v vs h = cc
