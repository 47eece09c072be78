-- `proposing::is_clear` meets its contract: no room, a path with `..`, or what the owner is permitted (Answering). Assumes nothing.
use Rattle.std.proofs.Common.{sym, ◌∙◌, ◌<◌, arith}
use Rattle.register.specs.Limits.{claim_limit}
use Rattle.proposing.proofs.Owning.{owns_read, clean_told}
use Rattle.proposing.proofs.Answering.{clear_full, clear_dotted, clear_owned}
use Rattle.proposing.proofs.is_clear.Goals as goal

pub returns-then-r-ge-CLAIMS : goal.returns-then-r-ge-CLAIMS
returns-then-r-ge-CLAIMS c =
    let a = c.args in
    clear_full a.r a.ask.actor a.ask.usage a.ask.moment c.if-r-ge-CLAIMS.true

pub returns-then-not-is_clean : goal.returns-then-not-is_clean
returns-then-not-is_clean c =
    let a = c.args in
    let clean = clean_told a.r c.requires.asked.judged a.ask.usage.resource c.requires.opened c.spot-spot.ensures c.is_clean.ensures in
    clear_dotted a.r a.ask.actor a.ask.usage a.ask.moment (sym clean ∙ c.if-not-is_clean.true)

-- whether the owner allows
pub returns : goal.returns
returns c =
    let a = c.args in
    let clean = clean_told a.r c.requires.asked.judged a.ask.usage.resource c.requires.opened c.spot-spot.ensures c.is_clean.ensures in
    let room : a.r.claims.count < claim_limit = omega (arith, c.if-r-ge-CLAIMS.false) in
    c.owner_allows.ensures
    ∙ owns_read a.r a.ask.actor a.ask.usage a.ask.moment c.requires.asked c.requires.opened c.owner_of-owner.ensures c.gate_permits-permitted.ensures
    ∙ clear_owned a.r a.ask.actor a.ask.usage a.ask.moment room (sym clean ∙ c.if-not-is_clean.false)
