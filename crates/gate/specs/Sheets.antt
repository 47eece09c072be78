-- Laws: A register whose claims are read from the sheet that they were put into is the same register, and the sheet's columns are those of its
-- claims. Assumes nothing.
use Rattle.std.specs.Prelude.{◌≡◌, refl, true, List, map, ◌++◌, ℕ, ◌+◌, ◌-◌, ◌*◌, ◌≤◌, ◌<◌, ltb, length, get_or, take, drop, replicate}
use Rattle.std.proofs.Common.{sym, ap, ◌∙◌, arith, ltb-true, ltb-false, length-take, get_or-take, get_or-drop, get_or-append-add, ext_get_or}
use Rattle.std.proofs.lemmas.List.{length-map, length-replicate}
use Rattle.std.proofs.Math.ListN.{get_or-map, get_or-eq_default}
use Rattle.lists.specs.Tests.{cases}
use Rattle.lists.specs.Lists.{All}
use Rattle.lists.specs.Each.{all_append, all_take}
use Rattle.lists.specs.Fills.{all_replicate}
use Rattle.register.specs.Limits.{claim_limit, path_limit, moment_end}
use Rattle.register.specs.Register.{claims_of, claim_as, resource_standing, no_actor, no_resource, no_claim, Same, Shaped}
use Rattle.register.specs.Chain.{latest}
use Rattle.register.specs.declared.Claim.{Claim}
use Rattle.register.specs.declared.Resources.{Resources}
use Rattle.register.specs.declared.Register.{Register}
use Rattle.columns.specs.Columns.{expiry_of, up_to, actors_to, resources_to}
use Rattle.columns.specs.Laws.{up_to_length, up_to_first}
use Rattle.columns.specs.Sheet.{sheet_limit, last_column, column_of, claim_at, claims_in, numbers_of, sheet_with, sheet_of, expiry_column, late_column}
use Rattle.columns.specs.SheetLaws.{column_within, column_length, column_with, claims_in_length, claims_in_at, sheet_long, sheet_claims}
use Rattle.soundness_rules.specs.Sound.{sound}
use Rattle.soundness_rules.proofs.Laws.{claim_fits_out, acceptable_out}
use Rattle.soundness_rules.proofs.Places.{prefix_sound, latest_acceptable}
use Rattle.coverage.specs.LaidLaws.{zero_at}
use Rattle.uses.specs.SightsLaws.{around, stands_at, sound_at}
use Rattle.soundness.specs.Judged.{register_by}
use Rattle.coverage.specs.Laid.{lens_of, laid}

-- a register with its claims read from their sheet, and zeros behind its actors and resources
abbrev pub sheeted : Register → Register
sheeted r = register_by r.version (actors_to r.actors) (resources_to r.resources) (sheet_of r.claims) r.claims.count

-- a column of a sheet of zeros has zeros
column_none : (zeros : List ℕ) → length zeros ≡ sheet_limit → ((i : ℕ) → get_or zeros i 0 ≡ 0) → (j : ℕ) → j ≤ last_column → (i : ℕ) → get_or (column_of j zeros) i 0 ≡ 0
column_none zeros long blank j there i =
    let rest : List ℕ = drop (j * claim_limit) zeros in
    ap (λ l. get_or l i 0) (column_within zeros j (omega (arith, long)) there)
    ∙ cases (ltb i claim_limit)
    (λ e. get_or-take claim_limit rest i 0 (ltb-true i claim_limit e) ∙ get_or-drop (j * claim_limit) zeros i 0 ∙ blank (j * claim_limit + i))
    (λ e. get_or-eq_default (take claim_limit rest) 0 (omega (arith, length-take claim_limit rest, ltb-false i claim_limit e)))

-- behind what was put before it a list is as it was
get_d_behind : (put l : List ℕ) (i : ℕ) → length put ≤ i → get_or (put ++ drop (length put) l) i 0 ≡ get_or l i 0
get_d_behind put l i past =
    let whole : length put + (i - length put) ≡ i = omega arith in
    ap (λ n. get_or (put ++ drop (length put) l) n 0) (sym whole) ∙ get_or-append-add put (drop (length put) l) (i - length put) 0
    ∙ get_or-drop (length put) l (i - length put) 0 ∙ ap (λ n. get_or l n 0) whole

-- where no claim was put into a sheet of zeros there are zeros
past_none : (zeros : List ℕ) → length zeros ≡ sheet_limit → ((i : ℕ) → get_or zeros i 0 ≡ 0) → (j : ℕ) (cs : List Claim) → j ≤ last_column
    → length cs ≤ claim_limit → (i : ℕ) → length cs ≤ i → get_or (column_of j (sheet_with zeros cs)) i 0 ≡ 0
past_none zeros long blank j cs there few i past =
    let numbers : List ℕ = map (λ (c : Claim). get_or (numbers_of c) j 0) cs in
    let many : length numbers ≡ length cs = length-map cs (λ (c : Claim). get_or (numbers_of c) j 0) in
    let holds : column_of j (sheet_with zeros cs) ≡ numbers ++ drop (length numbers) (column_of j zeros) =
    column_with zeros cs j long few there ∙ ap (λ n. numbers ++ drop n (column_of j zeros)) (sym many) in
    ap (λ l. get_or l i 0) holds ∙ get_d_behind numbers (column_of j zeros) i (omega (arith, many)) ∙ column_none zeros long blank j there i

-- it is the same register
pub sheeted_same : (r : Register) → length r.claims.list ≡ claim_limit → Same (sheeted r) r
sheeted_same r long = record {
  actor_count = refl;
  actors = up_to_first no_actor r.actors.count r.actors.list;
  resource_count = refl;
  resources = ap (map resource_standing) (up_to_first no_resource r.resources.count r.resources.list);
  claim_count = refl;
  claims = ap (map (claim_as r.version)) (sheet_claims r.claims long);
  version = refl;
}

-- its paths are laid alike
pub sheeted_laid : (o : Resources) → laid (resources_to o) ≡ laid o
unfolding laid lens_of
sheeted_laid o = rw (up_to_first no_resource o.count o.list)

paths_to : (o : Resources) → All (λ x. length x.path ≡ path_limit) o.list → All (λ x. length x.path ≡ path_limit) (resources_to o).list
unfolding up_to
paths_to o sized =
    all_append (λ x. length x.path ≡ path_limit) (take o.count o.list) (replicate (length o.list - o.count) no_resource)
    (all_take (λ x. length x.path ≡ path_limit) o.count o.list sized)
    (all_replicate (λ x. length x.path ≡ path_limit) (length o.list - o.count) no_resource (length-replicate {A = ℕ} path_limit 0))

module _ (r : Register) (shaped : Shaped r) where
  pub sheeted_shaped : Shaped (sheeted r)
  sheeted_shaped =
      record {
        actors = up_to_length no_actor r.actors.count r.actors.list ∙ shaped.actors;
        resources = up_to_length no_resource r.resources.count r.resources.list ∙ shaped.resources;
        paths = paths_to r.resources shaped.paths;
        claims = claims_in_length (sheet_of r.claims);
      }

  module _ (h : sound (sheeted r) ≡ true) where
    abbrev sheet : List ℕ
    sheet = sheet_of r.claims

    -- in a sound register each claim that stands expires within the moments
    timely : (j : ℕ) → j < length (claims_of (sheeted r).claims) → (claim_at sheet j).expiry < moment_end
    timely j inside =
        let at = stands_at (sheeted r) sheeted_shaped h j inside in
        let c : Claim = get_or (claims_in sheet) j no_claim in
        let before = latest (take j (claims_in sheet)) in
        let w = around (sheeted r) sheeted_shaped h in
        let fits = claim_fits_out r.version c (acceptable_out w before c
        (latest_acceptable w c before (prefix_sound w (latest at.after) _ (sound_at (sheeted r) sheeted_shaped h j inside)))).by_itself.fits in
        rw (claims_in_at sheet j) at fits.expiry_below

    -- so none is late
    late_none : (j : ℕ) → get_or (column_of late_column sheet) j 0 ≡ 0
    late_none j =
        let few : length (claims_of r.claims) ≤ claim_limit = omega (arith, shaped.claims, length-take r.claims.count r.claims.list) in
        let same : length (claims_of (sheeted r).claims) ≡ length (claims_of r.claims) = ap length (sheet_claims r.claims shaped.claims) in
        cases (ltb j (length (claims_of r.claims)))
        (λ e. let inside : j < length (claims_of (sheeted r).claims) = omega (arith, ltb-true j (length (claims_of r.claims)) e, same) in
        omega (arith, timely j inside))
        (λ e. past_none (replicate sheet_limit 0) (length-replicate {A = ℕ} sheet_limit 0) (zero_at sheet_limit) late_column (claims_of r.claims) (omega arith) few j (ltb-false j (length (claims_of r.claims)) e))

    -- and the column of what is past the last whole run of moments is that of the expiries
    pub column_natural_expiries : column_of expiry_column sheet ≡ map expiry_of (claims_in sheet)
    column_natural_expiries =
        let long : length (column_of expiry_column sheet) ≡ claim_limit = column_length sheet 7 (sheet_long r.claims) (omega arith) in
        let mapped : length (map expiry_of (claims_in sheet)) ≡ claim_limit = length-map (claims_in sheet) expiry_of ∙ claims_in_length sheet in
        ext_get_or 0 (column_of expiry_column sheet) (map expiry_of (claims_in sheet)) (long ∙ sym mapped)
        (λ j inside. sym (get_or-map expiry_of (claims_in sheet) j no_claim ∙ ap (λ c. c.expiry) (claims_in_at sheet j)
        ∙ ap (λ n. get_or (column_of expiry_column sheet) j 0 + moment_end * n) (late_none j)
        ∙ omega arith))
