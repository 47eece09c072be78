-- `soundness::is_sound` meets its contract: the claims are put into a sheet, and the register of that sheet is this one (Laws). Assumes nothing.
use Rattle.std.proofs.Common.{◌≡◌, rules, length}
use Rattle.lists.specs.Loops.{length_mapped}
use Rattle.register.specs.Limits.{claim_limit}
use Rattle.soundness.specs.Laws.{examined, judged_sound}
use Rattle.soundness.proofs.is_sound.Goals as goal

pub returns : goal.returns
returns c =
    let r = c.args.r in
    let claims_long : length r.claims.list ≡ claim_limit = search (rules, length_mapped) in
    judged_sound r (examined r (c.examine-found.ensures.put, c.examine-found.ensures.found)) claims_long
