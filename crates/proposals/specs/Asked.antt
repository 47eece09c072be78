-- Laws: What the tests that a proposal and its check have in common tell where they are passed. Assumes nothing.
use Rattle.std.specs.Prelude.{◌≡◌, true, ℕ, leb, ltb}
use Rattle.rights.specs.Rights.{is_right}
use Rattle.register.specs.Limits.{id_limit, moment_end}
use Rattle.register.specs.declared.Register.{Register}
use Rattle.soundness_rules.specs.Sound.{sound}
use Rattle.change_rules.specs.Changes.{world_in}
use Rattle.actions.specs.declared.Usage.{Usage}

-- what the tests of both calls tell
pub record Asked (r : Register) (x : ℕ) (u : Usage) (moment : ℕ) : Type 0 where
  pub judged : sound r ≡ true
  pub ranged : leb u.resource id_limit ≡ true
  pub right : is_right u.right ≡ true
  pub timely : ltb moment moment_end ≡ true
  pub known : (world_in r).known x ≡ true
