-- `proposals::asks_fit` meets its contract: a number out of range is enough for no, and with the others in range the moment decides. Assumes nothing.
use Rattle.std.proofs.Common.{sym, arith}
use Rattle.proposals.proofs.Asking.{signers_out, resource_out, right_out, moment_decides}
use Rattle.proposals.proofs.asks_fit.Goals as goal

pub returns-then-s-gt-MOST : goal.returns-then-s-gt-MOST
returns-then-s-gt-MOST c = sym (signers_out _ _ _ c.if-s-gt-MOST.true)

pub returns-then-u-gt-ID_LIMIT : goal.returns-then-u-gt-ID_LIMIT
returns-then-u-gt-ID_LIMIT c = sym (resource_out _ _ _ c.if-u-gt-ID_LIMIT.true)

pub returns-then-u-gt-POLICY_MODIFY : goal.returns-then-u-gt-POLICY_MODIFY
returns-then-u-gt-POLICY_MODIFY c = sym (right_out _ _ _ (omega (arith, c.if-u-gt-POLICY_MODIFY.true)))

pub returns : goal.returns
returns c =
    sym (moment_decides _ _ _ c.if-s-gt-MOST.false c.if-u-gt-ID_LIMIT.false (omega (arith, c.if-u-gt-POLICY_MODIFY.false)))
