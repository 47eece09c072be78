-- `withdrawing::revoke` meets its contract: what the sheet and the actors' columns are asked is what the tests ask of the register (Asking), what is
-- told to go is what the revocation names with all that is drawn from it, so what is struck is what the withdrawal leaves (`struck_told`). Assumes
-- nothing.
use Rattle.std.proofs.Common.{◌≡◌, ap, ◌∙◌, rules, eqb, length, get_or}
use Rattle.lists.specs.Loops.{length_mapped}
use Rattle.register.specs.Limits.{claim_limit}
use Rattle.soundness.specs.Laws.{examined}
use Rattle.change_rules.specs.Changes.{revoke}
use Rattle.withdrawing.specs.Struck.{gone_by}
use Rattle.withdrawing.proofs.Laws.{struck_told}
use Rattle.withdrawing.proofs.Asking.{revoke_told}
use Rattle.withdrawing.proofs.revoke.Goals as goal

pub returns : goal.returns
returns c =
    let given = c.args in
    let r = given.r in
    -- the array has the register's places
    let places : length r.claims.list ≡ claim_limit = search (rules, length_mapped) in
    let opened = examined r (c.examine-found.ensures.put, c.examine-found.ensures.found) in
    let ids = c.column-ids.ensures in
    struck_told r places (revoke given.who given.x) opened
    (c.gone_with-gone.ensures
    ∙ ap (λ l. gone_by (λ j. eqb (get_or l j 0) given.x) c.examine-found.result.ups r.claims.count) ids)
    (c.outcome-told.ensures
    ∙ revoke_told r places given.who given.x opened c.is_among-known.ensures ids c.is_among-stands.ensures c.column-grantors.ensures
    c.grants_on-grants.ensures)
    c.strike.ensures
