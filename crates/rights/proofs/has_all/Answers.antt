-- `rights::has_all` meets its contract. What is asked is what `m` has below 2^17, and it is had where all of it stands in `n`.
-- Assumes nothing.
use Rattle.std.proofs.Common.{ap, ◌∙◌, ℕ, ◌-◌, ◌*◌, eqb, bit_and}
use lib.Bits.{and_mask}
use Rattle.rights.specs.Rights.{right_count}
use Rattle.rights.proofs.Masks.{has_rights_mask}
use Rattle.rights.proofs.has_all.Goals as goal

pub returns : goal.returns
returns c =
    ap (λ (a : ℕ). eqb (bit_and a c.args.n) a)
    (ap (λ (w : ℕ). bit_and c.args.m (2 * w - 1)) c.worth-last.ensures ∙ and_mask c.args.m right_count)
    ∙ has_rights_mask c.args.n c.args.m
