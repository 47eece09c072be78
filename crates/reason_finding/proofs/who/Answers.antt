-- `reason_finding::who` meets its contract: test 1, then 2, and past them each actor is judged by what is lent of the register (`held-lent`). Assumes
-- nothing.
use Rattle.std.proofs.Common.{◌≡◌, sym, ◌∙◌, length, rules}
use Rattle.lists.specs.Loops.{length_mapped}
use Rattle.register.specs.Limits.{claim_limit, path_limit}
use Rattle.register.specs.Register.{Shaped}
use Rattle.soundness.specs.Laws.{judged_sound}
use Rattle.reasons.proofs.HoldersLaws.{held_unsound, held_ranged}
use Rattle.register.specs.contracts.Resource.{the_row}
use Rattle.reason_finding.proofs.Owned.{each_told}
use Rattle.reason_finding.proofs.Permitting.{held_found}
use Rattle.reason_finding.proofs.who.Goals as goal

pub returns-then-not-found : goal.returns-then-not-found
returns-then-not-found c =
    let a = c.args in
    let found = c.examine-found.ensures in
    let room : length a.r.claims.list ≡ claim_limit = search (rules, length_mapped) in
    let soundly = judged_sound a.r (record { put = found.put; told = found.found }) room in
    c.nobody.ensures ∙ sym (held_unsound a.r a.usage a.moment (sym soundly ∙ c.if-not-found.true))

pub returns-then-not-ask_fits : goal.returns-then-not-ask_fits
returns-then-not-ask_fits c =
    let a = c.args in
    let found = c.examine-found.ensures in
    let room : length a.r.claims.list ≡ claim_limit = search (rules, length_mapped) in
    let soundly = judged_sound a.r (record { put = found.put; told = found.found }) room in
    c.nobody-then-not-ask_fits.ensures
    ∙ sym (held_ranged a.r a.usage a.moment (sym soundly ∙ c.if-not-found.false)
    (sym c.ask_fits.ensures ∙ c.if-not-ask_fits.true))

pub returns : goal.returns
returns c =
    let a = c.args in
    let found = c.examine-found.ensures in
    let room : length a.r.claims.list ≡ claim_limit = search (rules, length_mapped) in
    let soundly = judged_sound a.r (record { put = found.put; told = found.found }) room in
    let shaped : Shaped a.r = record {
      actors = search (rules, length_mapped);
      resources = search (rules, length_mapped);
      claims = room;
      paths = each_told the_row.own_val (λ o. length o.path ≡ path_limit) (λ o u told. search (rules, told)) a.r.resources.list _
          c.well_formed.0.1.1.1.0.1.1.0.1.1;
    } in
    held_found a.r shaped a.usage a.moment (sym soundly ∙ c.if-not-found.false)
    (sym c.ask_fits.ensures ∙ c.if-not-ask_fits.false) found.put found.found c.spot-spot.ensures c.containers-marks.ensures
    c.claim_ends-ends.ensures c.coverers-holders.ensures c.number_at-public.ensures c.permitted.ensures
