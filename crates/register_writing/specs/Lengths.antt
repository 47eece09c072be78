-- Working: That every path is as long as it says, which the code needs to look at its bytes. It holds of every sound register (`paths_fit_lem`).
use Rattle.std.specs.Prelude.{Bool, leb}
use Rattle.lists.specs.Lists.{every}
use Rattle.register.specs.Limits.{path_limit}
use Rattle.register.specs.Register.{resources_of}
use Rattle.register.specs.declared.Resources.{Resources}

-- every path is as long as it says: what the code needs to look at its bytes
unfoldable pub paths_fit : Resources → Bool
paths_fit k = every (λ o. leb o.len path_limit) (resources_of k)
