-- Working: An action judged by the columns of a register. What it is in 01's words is `judged_natural` of Laws.
use Rattle.refusals.specs.declared.Refusal.{Refusal}
use Rattle.std.specs.Prelude.{◌≡◌, Bool, not, ◌&&◌, cond, List, [], ◌∷◌, map, ℕ, eqb, take, Result, Err, Ok}
use Rattle.lists.specs.Lists.{any}
use Rattle.register.specs.Limits.{machine_kind}
use Rattle.register.specs.Register.{actors_of}
use Rattle.register.specs.declared.Register.{Register}
use Rattle.soundness_rules.specs.Sound.{is_machine}
use Rattle.columns.specs.Columns.{resource_id, latest_place, beside}
use Rattle.columns.specs.Sheet.{column_of, sheet_of, holder_column, rights_column, weight_column, expiry_column}
use Rattle.refusals.specs.Refusals.{Test, outcome_of}
use Rattle.refusals.specs.declared.Refusal.TheVariants.{Unsound, Range, Absent}
use Rattle.actions.specs.Actions.{action_fits}
use Rattle.actions.specs.declared.Action.{Action}
use Rattle.actions.specs.declared.Decision.TheVariants.{Permitted, Refused, Stopped}
use Rattle.actions.specs.declared.Verdict.{Verdict}
use Rattle.gate_rules.specs.Gate.{listed, padded, gated}
use Rattle.violations.specs.Pushed.{besides, pushed_all}
use Rattle.soundness.specs.Judged.{findings_by}
use Rattle.soundness.specs.declared.Findings.{Findings}
use Rattle.coverage.specs.Laid.{laid}
use Rattle.coverage.specs.Gathering.{held_places, ends_of}
use Rattle.uses.specs.Uses.{Sight, uses_judged}
use Rattle.uses.specs.Passes.{relied_all}
use Rattle.uses.specs.declared.Uses.{Uses}
use Rattle.uses.specs.declared.UsesJudged.{UsesJudged}
use Rattle.uses.specs.Sights.{owner_at, owner_number, sight_of}
use Rattle.gate.specs.declared.Counts.{Counts}
use Rattle.gate.specs.declared.Holder.{Holder}
use Rattle.gate.specs.declared.LentRegister.{LentRegister}

-- the violations and the hop counts of an action
abbrev pub action_judged : Register → Action → UsesJudged
action_judged r a =
    uses_judged (sight_of r a.now a.actor) (map resource_id r.resources.list) r.resources.count a
    (pushed_all (listed []) (besides (is_machine (actors_of r.actors) a.actor) (owner_number r a.actor) a))

-- how many actors, resources and claims a register has
abbrev pub counts_of : Register → Counts
counts_of r = record { actors = r.actors.count; resources = r.resources.count; claims = r.claims.count }

-- the ends of the first n claims of a sheet, by the places of the parents
abbrev pub sheet_ends : List ℕ → List ℕ → ℕ → List ℕ
sheet_ends s ups n = ends_of (column_of weight_column s) (column_of expiry_column s) ups n

-- the columns that are lent, with the counts of the lists
pub record Lent : Type 0 where
  pub names : List ℕ
  pub kinds : List ℕ
  pub owners : List ℕ
  pub actors : ℕ
  pub reports : List ℕ
  pub publics : List ℕ
  pub resources : ℕ
  pub bytes : List ℕ
  pub lens : List ℕ
  pub holders : List ℕ
  pub rights : List ℕ
  pub ends : List ℕ
  pub spots : List ℕ
  pub ups : List ℕ
  pub claims : ℕ

-- those of what was found of a register, the lengths of the paths, the ends of the claims, a sheet of claims and the bytes of the paths
abbrev pub lent_of : Counts → Findings → List ℕ → List ℕ → List ℕ → List ℕ → Lent
lent_of counts found lens ends s bytes = record {
  names = found.actors.names;
  kinds = found.actors.kinds;
  owners = found.actors.owners;
  actors = counts.actors;
  reports = found.resources.reports;
  publics = found.resources.publics;
  resources = counts.resources;
  bytes = bytes;
  lens = lens;
  holders = column_of holder_column s;
  rights = column_of rights_column s;
  ends = ends;
  spots = found.spots;
  ups = found.ups;
  claims = counts.claims;
}

-- those of what is lent together
abbrev pub lent_from : LentRegister → Lent
lent_from l = lent_of l.counts l.found.now l.lens.now l.ends.now l.sheet.now l.bytes.now

-- those of a register, by a sheet and what was found of it
abbrev pub lent_by : Register → List ℕ → Findings → Lent
lent_by r s found =
    lent_of (counts_of r) found (laid r.resources).lens (sheet_ends s found.ups r.claims.count) s (laid r.resources).bytes

-- those of a register
abbrev pub lent_in : Register → Lent
lent_in r = lent_by r (sheet_of r.claims) (findings_by r.version r.actors r.resources (sheet_of r.claims) r.claims.count)

-- the owner of a machine as a holder: for an owner that is not asked no claims are looked through
abbrev pub owner_asked : Bool → ℕ → ℕ → ℕ → Holder
owner_asked owned owner n moment = record { number = owner; claims = cond owned n 0; moment = moment }

-- the claim that a holder relies on for each use, by a sheet of claims and their ends
abbrev pub relied_by : Holder → List ℕ → List ℕ → List ℕ → List ℕ → List ℕ → Uses → List ℕ
relied_by who s ends spots bytes lens uses =
    relied_all (held_places (column_of holder_column s) ends who.claims who.number who.moment) (column_of rights_column s) spots bytes lens uses

-- tests 2 and 3, over the ids of the first n actors
abbrev pub lent_tests : List ℕ → ℕ → Action → List Test
lent_tests names n a =
    record { passed = action_fits a; refusal = Range } ∷ record { passed = any (eqb a.actor) (take n names); refusal = Absent } ∷ []

module _ (l : Lent) where
  -- whether x is a machine, its owner's number, and whether it is a machine with an owner
  abbrev pub machine_by : ℕ → Bool
  machine_by x = beside (take l.actors l.names) (take l.actors l.kinds) x machine_kind

  abbrev pub owner_by : ℕ → ℕ
  owner_by x = owner_at l.owners (latest_place l.names l.actors x)

  abbrev pub owned_by : ℕ → Bool
  owned_by x = machine_by x && not (eqb (owner_by x) 0)

  -- what is seen for the actor numbered x; for an owner that is not asked no claims are gathered
  abbrev pub sight_by : ℕ → ℕ → Sight
  sight_by moment x = record {
    own = held_places l.holders l.ends l.claims x moment;
    theirs = held_places l.holders l.ends (cond (owned_by x) l.claims 0) (owner_by x) moment;
    owned = owned_by x;
    rights = l.rights;
    spots = l.spots;
    bytes = l.bytes;
    lens = l.lens;
    publics = l.publics;
    ups = l.ups;
  }

  -- an action judged by what is lent
  unfoldable pub lent_judged : Action → UsesJudged
  lent_judged a =
      uses_judged (sight_by a.now a.actor) l.reports l.resources a (pushed_all (listed []) (besides (machine_by a.actor) (owner_by a.actor) a))

-- the verdict by the outcome of the tests and what was judged: permitted means an empty list
abbrev pub verdict_told : Result Unit Refusal → UsesJudged → Verdict
verdict_told (Err why) judged = record { decision = Stopped why; violations = listed []; hops = padded [] }
verdict_told (Ok _) judged = record {
  decision = cond (eqb judged.violations.count 0) Permitted Refused;
  violations = judged.violations;
  hops = judged.hops;
}

-- the verdict on an action by a sheet and what was found of a register
unfoldable pub verdict_by : Register → List ℕ → Findings → Action → Verdict
verdict_by r s found a =
    let l = lent_by r s found in
    verdict_told (outcome_of (record { passed = found.sound; refusal = Unsound } ∷ lent_tests l.names l.actors a)) (lent_judged l a)

-- that is the gate's, where the sheet is that of the register's claims and the register was judged by it
abbrev pub AsGated : Register → List ℕ → Findings → Action → Verdict → Type 0
AsGated r s found a v = s ≡ sheet_of r.claims → found ≡ findings_by r.version r.actors r.resources s r.claims.count → v ≡ gated r a
