-- An action judged step by step is judged by what is lent. Assumes nothing.
use Rattle.std.proofs.Common.{◌≡◌, Bool, not, ◌&&◌, cond, List, [], ℕ, ◌≤◌, eqb, length, take}
use Rattle.register.specs.Limits.{resource_limit}
use Rattle.actions.specs.Actions.{use_limit}
use Rattle.actions.specs.declared.Action.{Action}
use Rattle.actions.specs.declared.Violations.{Violations}
use Rattle.gate_rules.specs.Gate.{listed}
use Rattle.columns.specs.Sheet.{column_of, holder_column, rights_column}
use Rattle.violations.specs.Pushed.{besides, pushed_all}
use Rattle.coverage.specs.Gathering.{gathered_by}
use Rattle.coverage.specs.GatheringLaws.{gathered_first, held_below}
use Rattle.coverage.specs.declared.Gathered.{Gathered}
use Rattle.uses.specs.Passes.{uses_by, relied_all, hops_all, faults_all}
use Rattle.uses.specs.PassesLaws.{passes_natural}
use Rattle.uses.specs.declared.Uses.{Uses}
use Rattle.uses.specs.declared.UsesJudged.{UsesJudged}
use Rattle.soundness.specs.declared.Findings.{Findings}
use Rattle.gate.specs.Judged.{Lent, lent_of, owner_asked, relied_by, machine_by, owner_by, owned_by, sight_by, lent_judged}
use Rattle.gate.specs.declared.Counts.{Counts}
use Rattle.gate.specs.declared.Holder.{Holder}

-- what is relied on by what was gathered is relied on by the places of those that can cover
pub relied_held : (who : Holder) (s ends spots bytes lens : List ℕ) (uses : Uses) {holders rights relied : List ℕ} {held : Gathered}
    → holders ≡ column_of holder_column s → rights ≡ column_of rights_column s
    → held ≡ gathered_by holders ends who.claims who.number who.moment
    → relied ≡ relied_all (take held.count held.places) rights spots bytes lens uses
    → relied ≡ relied_by who s ends spots bytes lens uses
relied_held who s ends spots bytes lens uses of-holders of-rights of-held of-relied =
    rw (of-relied, of-held, of-holders, of-rights, gathered_first (column_of holder_column s) ends who.claims who.number who.moment)

module _ (counts : Counts) (found : Findings) (lens ends s bytes : List ℕ) (a : Action) where
  abbrev l : Lent
  l = lent_of counts found lens ends s bytes

  module _ (few : length l.reports ≤ resource_limit) (long : length a.uses ≡ use_limit) {machine : Bool} {owner : ℕ} {vs violations : Violations}
      {relied covering hops : List ℕ} {asked : Holder} {uses : Uses} where
    -- the uses judged by what the actor and the owner rely on, behind the other violations
    pub judged_lent : machine ≡ machine_by l a.actor → owner ≡ owner_by l a.actor → vs ≡ pushed_all (listed []) (besides machine owner a)
        → uses ≡ uses_by l.reports l.resources a
        → relied ≡ relied_by (record { number = a.actor; claims = counts.claims; moment = a.now }) s ends l.spots bytes lens uses
        → asked ≡ owner_asked (machine && not (eqb owner 0)) owner counts.claims a.now
        → covering ≡ relied_by asked s ends l.spots bytes lens uses
        → hops ≡ hops_all l.ups relied uses.count
        → violations ≡ pushed_all vs (faults_all relied covering (machine && not (eqb owner 0)) l.publics uses)
        → ◌≡◌ {A = UsesJudged} (record { violations = violations; hops = hops }) (lent_judged l a)
    unfolding lent_judged
    judged_lent of-machine of_owner of-first of-uses of-relied of-asked of-covering of-hops of-violations =
        rw (of-violations, of-hops, of-relied, of-covering, of-asked, of-uses, of-first, of-machine, of_owner)
        (passes_natural (sight_by l a.now a.actor) l.reports l.resources a few long
        (held_below l.holders l.ends l.claims a.actor a.now)
        (held_below l.holders l.ends (cond (owned_by l a.actor) l.claims 0) (owner_by l a.actor) a.now)
        (pushed_all (listed []) (besides (machine_by l a.actor) (owner_by l a.actor) a)))
