-- `withdrawing::clear_resource` meets its contract: what the columns are asked is what the tests ask of the register (Clearing), what is told to go
-- is what the clearing names with all that is drawn from it, so what is struck is what the withdrawal leaves (`struck_told`). Assumes nothing.
use Rattle.std.proofs.Common.{◌≡◌, ap, ◌∙◌, eqb, rules, length, get_or}
use Rattle.lists.specs.Loops.{length_mapped}
use Rattle.register.specs.Limits.{claim_limit}
use Rattle.soundness.specs.Laws.{examined}
use Rattle.change_rules.specs.Changes.{clear_resource}
use Rattle.withdrawing.specs.Struck.{gone_by}
use Rattle.withdrawing.proofs.Laws.{struck_told}
use Rattle.withdrawing.proofs.Clearing.{resource_told}
use Rattle.withdrawing.proofs.clear_resource.Goals as goal

pub returns : goal.returns
returns c =
    let given = c.args in
    let r = given.r in
    -- the array has the register's places
    let places : length r.claims.list ≡ claim_limit = search (rules, length_mapped) in
    let opened = examined r (c.examine-found.ensures.put, c.examine-found.ensures.found) in
    struck_told r places (clear_resource given.caller given.resource) opened
    (c.gone_with-gone.ensures
    ∙ ap (λ l. gone_by (λ j. eqb (get_or l j 0) given.resource) c.examine-found.result.ups r.claims.count) c.column-claimed.ensures)
    (c.outcome-told.ensures
    ∙ resource_told r opened given.caller c.is_among-known.ensures places given.resource c.is_among-listed.ensures c.is_beside-keeps.ensures)
    c.strike.ensures
