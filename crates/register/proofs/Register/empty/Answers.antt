-- `register::Register::empty` meets its contract: it makes the empty register as it is defined, with the claim of all zeros that
-- `Claim::none` gives. Assumes nothing.
use Rattle.register.specs.Register.{empty_register}
use Rattle.register.proofs.Register.empty.Goals as goal

pub returns : goal.returns
unfolding empty_register
returns c = rw c.none-claim.ensures
