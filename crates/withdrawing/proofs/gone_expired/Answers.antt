-- `withdrawing::gone_expired` meets its contract. Assumes nothing.
use Rattle.std.proofs.Common.{rules}
use Rattle.register.specs.Chain.{expired}
use Rattle.columns.specs.Sheet.{claim_at}
use Rattle.withdrawing.proofs.gone_expired.Goals as goal

pub returns : goal.returns
returns c = c.gone_by.ensures (λ j. expired c.args.moment (claim_at c.args.sheet.now j)) (λ j below b told. search rules)
