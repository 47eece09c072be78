-- `withdrawing::gone_with` meets its contract. Assumes nothing.
use Rattle.std.proofs.Common.{rules, eqb, get_or}
use Rattle.withdrawing.proofs.gone_with.Goals as goal

pub returns : goal.returns
returns c = c.gone_by.ensures (λ j. eqb (get_or c.args.column.now j 0) c.args.x) (λ j below b told. search rules)
