-- `attaching::entry_spot` meets its contract: one look at the column of the numbers tells whether they are distinct, and where the asked one stands
-- (Columns). Assumes nothing.
use Rattle.std.proofs.Common.{◌≡◌, [], ◌∷◌, ap, ◌∙◌, rules, length}
use Rattle.lists.specs.Loops.{length_mapped}
use Rattle.lookup.specs.Finding.{places_found}
use Rattle.fingerprints.specs.Fingerprints.{place_limit}
use Rattle.attaching.proofs.Columns.{spot_unfit, spot_none, spot_some}
use Rattle.attaching.proofs.entry_spot.Goals as goal

pub returns-then-not-b-found : goal.returns-then-not-b-found
returns-then-not-b-found c =
    let a = c.args in
    let places : length a.b.entries ≡ place_limit = search (rules, length_mapped) in
    let found = c.places_of-found.ensures ∙ ap (λ column. places_found column a.b.count (a.resource ∷ []) 1) c.numbers-column.ensures in
    spot_unfit a.b a.resource places found c.if-not-b-found.true

pub returns-then-at-eq-NOWHERE : goal.returns-then-at-eq-NOWHERE
returns-then-at-eq-NOWHERE c =
    let a = c.args in
    let places : length a.b.entries ≡ place_limit = search (rules, length_mapped) in
    let found = c.places_of-found.ensures ∙ ap (λ column. places_found column a.b.count (a.resource ∷ []) 1) c.numbers-column.ensures in
    spot_none a.b a.resource places found c.if-not-b-found.false c.if-at-eq-NOWHERE.true

pub returns : goal.returns
returns c =
    let a = c.args in
    let places : length a.b.entries ≡ place_limit = search (rules, length_mapped) in
    let found = c.places_of-found.ensures ∙ ap (λ column. places_found column a.b.count (a.resource ∷ []) 1) c.numbers-column.ensures in
    spot_some a.b a.resource places found c.if-not-b-found.false c.if-at-eq-NOWHERE.false
