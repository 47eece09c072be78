-- A path that was read is no longer than its places. Assumes nothing.
use Rattle.std.specs.Prelude.{ℕ, ◌-◌, ◌≤◌, ◌≡◌, List, length, replicate}
use Rattle.std.proofs.Math.Path.{ap}
use Rattle.std.proofs.Common.{arith, length-append}
use Rattle.std.proofs.lemmas.List.{length-replicate}
use Rattle.register.specs.Limits.{path_limit}
use Rattle.lines.specs.Reading.{Read}
use Rattle.lines.specs.Answers.{ScopeSays}
use Rattle.lines.specs.declared.Scope.{Scope}

-- a path that was read is no longer than its places
pub scope_bound : (s : List ℕ) (read : Read (List ℕ)) (r : Scope) → ScopeSays s r read → length r.path ≡ path_limit → r.len ≤ path_limit
scope_bound s read r says places =
    let p = read.value in
    omega (arith, says.len, ap length says.path, places, length-append p (replicate (path_limit - length p) 0), length-replicate {A = ℕ} (path_limit - length p) 0)
