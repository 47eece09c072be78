-- `attaching::attach` meets its contract: what the first tests refuse is refused with the book as it came, and what they pass is put at the place of
-- the number's entry (Placing). Assumes nothing.
use Rattle.std.proofs.Common.{◌≡◌, sym, ◌∙◌, length, rules}
use Rattle.lists.specs.Loops.{length_mapped}
use Rattle.fingerprints.specs.Fingerprints.{place_limit}
use Rattle.attaching.proofs.Placing.{attach_stopped, put_natural, spot_fits, spot_passed}
use Rattle.attaching.proofs.attach.Goals as goal

pub returns-in-Ok : goal.returns-in-Ok
returns-in-Ok c =
    let a = c.args in
    let places : length a.b.entries ≡ place_limit = search (rules, length_mapped) in
    let at = sym c.entry_spot-at.ensures ∙ c.in-Ok.ensures.0 in
    let passed = spot_passed a.b a.resource a.r _ at (rw c.one_use.ensures at c.in-Ok.ensures.1) in
    c.put_at.ensures ∙ put_natural a.b a.r a.actor a.resource a.moment places a.fingerprint passed at

pub returns-in-Err : goal.returns-in-Err
returns-in-Err c =
    let a = c.args in
    let places : length a.b.entries ≡ place_limit = search (rules, length_mapped) in
    let stopped = rw (c.entry_spot-at.ensures, spot_fits, c.one_use.ensures) at c.in-Err.ensures in
    sym (attach_stopped a.b a.r a.actor a.resource a.moment places a.fingerprint c.in-Err.why stopped)
