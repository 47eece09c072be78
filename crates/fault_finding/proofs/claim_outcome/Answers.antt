-- Each part of the tests is decided by itself, and a later part counts where the earlier ones pass. What the sheet and the found columns are asked is
-- what the tests ask of the claims before (Claims).
use Rattle.std.proofs.Common.{sym, ap, ◌∙◌, eqb, take}
use Rattle.lists.specs.Lists.{any}
use Rattle.register.specs.Register.{actors_of, resources_of}
use Rattle.register.specs.Chain.{latest}
use Rattle.columns.specs.Columns.{latest_place}
use Rattle.columns.specs.Sheet.{column_of, id_column, parent_column, claim_at, claims_in}
use Rattle.lookup.specs.Finding.{earlier_places}
use Rattle.soundness_rules.specs.Sound.{claim_fits, world_of}
use Rattle.claim_judging.specs.AloneLaws.{world_natural}
use Rattle.refusals.specs.Refusals.{outcome_of}
use Rattle.granting.specs.Drawn.{told_tests, told_version, decided_then}
use Rattle.faults.specs.Faults.{claim_tests}
use Rattle.fault_finding.specs.Asked.{higher_asked}
use Rattle.fault_finding.proofs.Claims.{claim_unfit, claim_fit, higher_told, stands_told}
use Rattle.fault_finding.proofs.claim_outcome.Goals as goal

pub returns-then-not-claim_fits : goal.returns-then-not-claim_fits
returns-then-not-claim_fits c =
    let given = c.args in
    let s = given.sheet.now in
    sym
    (claim_unfit (world_of given.version (actors_of given.a) (resources_of given.o)) (latest (take given.n (claims_in s))) (claim_at s given.n)
    (ap (claim_fits given.version) (sym c.claim_at-c.ensures) ∙ sym c.claim_fits.ensures ∙ c.if-not-claim_fits.true))

pub returns : goal.returns
returns c =
    let given = c.args in
    let version = given.version in
    let a = given.a in
    let o = given.o in
    let s = given.sheet.now in
    let n = given.n in
    let asks = c.requires in
    let x = c.claim_at-c.result in
    let found = c.examine_sheet-found in
    let ids = c.column-ids.ensures in
    let place = c.latest_place-place.result in
    let stands = c.is_among-stands.result in
    let ups = earlier_places (column_of id_column s) (column_of parent_column s) n in
    let earlier = latest (take n (claims_in s)) in
    c.then.ensures
    ∙ decided_then _ _ (c.world_outcome-world.ensures
    ∙ ap (λ w. outcome_of (told_tests w stands 0 x)) (world_natural 0 a o (ap (λ f. f.actors) found.ensures) (ap (λ f. f.resources) found.ensures))
    ∙ ap outcome_of (told_version 0 version (actors_of a) (resources_of o) stands 0 x))
    c.higher_outcome-higher.ensures
    ∙ claim_fit (world_of version (actors_of a) (resources_of o)) earlier x
    (sym c.claim_fits.ensures ∙ c.if-not-claim_fits.false)
    (c.is_among-stands.ensures ∙ ap (λ l. any (eqb x.id) (take n l)) ids ∙ stands_told version a o s n asks.0 asks.1 x)
    (ap (λ f. higher_asked version s f.ups place x) found.ensures
    ∙ ap (λ q. higher_asked version s ups q x) (c.latest_place-place.ensures ∙ ap (λ l. latest_place l n x.parent) ids)
    ∙ higher_told version a o s n asks.0 asks.1 x)
    ∙ ap (λ d. outcome_of (claim_tests (world_of version (actors_of a) (resources_of o)) earlier d)) c.claim_at-c.ensures
