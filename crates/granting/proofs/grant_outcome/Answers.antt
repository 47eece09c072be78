-- `granting::grant_outcome` meets its contract: each part of the tests is decided by itself, and a later part counts where the earlier ones pass
-- (Deciding). What the sheet and the found columns are asked is what the tests ask of the register, and where they pass the claim is the one that is
-- stored (Columns, AloneLaws of claim_judging). Assumes nothing.
use Rattle.std.proofs.Common.{◌≡◌, ap, ◌∙◌, suc, min, eqb, length, take, rules}
use Rattle.lists.specs.Lists.{any}
use Rattle.lists.specs.Loops.{length_mapped}
use Rattle.register.specs.Limits.{claim_limit, hop_limit}
use Rattle.register.specs.Register.{actors_of, resources_of}
use Rattle.columns.specs.Columns.{latest_place}
use Rattle.columns.specs.Sheet.{sheet_of, column_of, id_column, parent_column}
use Rattle.lookup.specs.Finding.{earlier_places}
use Rattle.lookup.specs.Walks.{up_from}
use Rattle.soundness.specs.Laws.{examined, judged_sound, judged_ups, judged_actors, judged_resources}
use Rattle.claim_judging.specs.AloneLaws.{world_natural}
use Rattle.refusals.specs.Refusals.{outcome_of}
use Rattle.granting.specs.Drawn.{told_tests, parent_asked, told_version, decided_then}
use Rattle.granting.proofs.Columns.{stands_asked, parent_asked_lem, settled_told}
use Rattle.granting.proofs.Deciding.{grant_asked}
use Rattle.granting.proofs.grant_outcome.Goals as goal

pub returns : goal.returns
returns c =
    let r = c.args.r in
    let x = c.args.c in
    let moment = c.args.moment in
    -- the array has the register's places
    let long : length r.claims.list ≡ claim_limit = search (rules, length_mapped) in
    let opened = examined r (c.examine-found.ensures.put, c.examine-found.ensures.found) in
    let ids = c.column-ids.ensures ∙ ap (column_of id_column) opened.put in
    let place = c.latest_place-place.result in
    let place_of = c.latest_place-place.ensures ∙ ap (λ l. latest_place l r.claims.count x.parent) ids in
    let ups = earlier_places (column_of id_column (sheet_of r.claims)) (column_of parent_column (sheet_of r.claims)) r.claims.count in
    settled_told r long x moment
    (c.then-2.ensures
    ∙ decided_then _ _ c.first_outcome-first.ensures
    (c.then.ensures
    ∙ decided_then _ _ (c.world_outcome-world.ensures
    ∙ ap (λ w. outcome_of (told_tests w c.is_among-stands.result r.claims.count x)) (world_natural 0 r.actors r.resources (judged_actors r opened) (judged_resources r opened))
    ∙ ap outcome_of (told_version 0 r.version (actors_of r.actors) (resources_of r.resources) c.is_among-stands.result r.claims.count x))
    c.parent_outcome-parent.ensures)
    ∙ grant_asked r x moment (judged_sound r opened long)
    (c.is_among-stands.ensures ∙ ap (λ l. any (eqb x.id) (take r.claims.count l)) ids ∙ stands_asked r long x)
    (λ whole. ap (λ l. parent_asked r.version l c.examine-found.result.ups place x moment) opened.put
    ∙ ap (λ l. parent_asked r.version (sheet_of r.claims) l place x moment) (judged_ups r opened)
    ∙ ap (λ q. parent_asked r.version (sheet_of r.claims) ups q x moment) place_of
    ∙ parent_asked_lem r long x moment whole))
    (c.hops_under-hops.ensures
    ∙ ap (λ l. min (length (up_from l place)) (suc hop_limit)) (judged_ups r opened)
    ∙ ap (λ q. min (length (up_from ups q)) (suc hop_limit)) place_of)
    c.settled.ensures
