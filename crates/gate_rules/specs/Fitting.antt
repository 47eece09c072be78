-- Laws: What the tests of an action among the actors of a register say where they are passed. Assumes nothing.
use Rattle.std.specs.Prelude.{◌≡◌, true, eqb}
use Rattle.lists.specs.Lists.{any}
use Rattle.register.specs.Register.{actors_of}
use Rattle.register.specs.declared.Register.{Register}
use Rattle.actions.specs.Actions.{action_fits}
use Rattle.actions.specs.declared.Action.{Action}

-- tests 2 and 3, passed
pub record Fit (r : Register) (a : Action) : Type 0 where
  pub fits : action_fits a ≡ true
  pub known : any (λ b. eqb a.actor b.id) (actors_of r.actors) ≡ true
