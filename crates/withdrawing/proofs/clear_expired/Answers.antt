-- `withdrawing::clear_expired` meets its contract: what the columns are asked is what the tests ask of the register (Clearing), what is told to go is
-- what the clearing names with all that is drawn from it, so what is struck is what the withdrawal leaves (`struck_told`). Assumes nothing.
use Rattle.std.proofs.Common.{◌≡◌, refl, ◌∙◌, rules, length}
use Rattle.lists.specs.Loops.{length_mapped}
use Rattle.register.specs.Limits.{claim_limit}
use Rattle.soundness.specs.Laws.{examined}
use Rattle.change_rules.specs.Changes.{clear_expired}
use Rattle.withdrawing.proofs.Laws.{struck_told}
use Rattle.withdrawing.proofs.Clearing.{expired_told}
use Rattle.withdrawing.proofs.clear_expired.Goals as goal

pub returns : goal.returns
returns c =
    let given = c.args in
    let r = given.r in
    -- the array has the register's places
    let places : length r.claims.list ≡ claim_limit = search (rules, length_mapped) in
    let opened = examined r (c.examine-found.ensures.put, c.examine-found.ensures.found) in
    struck_told r places (clear_expired given.caller given.moment) opened c.gone_expired-gone.ensures
    (c.outcome-told.ensures
    ∙ expired_told r opened given.caller c.is_among-known.ensures places given.moment refl c.is_beside-human.ensures)
    c.strike.ensures
