-- An action judged step by step has the violations and the hop counts of the definition. Assumes nothing.
use Rattle.std.proofs.Common.{◌≡◌, sym, ap, ◌∙◌, Bool, not, ◌&&◌, List, [], map, ℕ, eqb, length, take}
use Rattle.register.specs.Limits.{machine_kind, resource_limit}
use Rattle.register.specs.Register.{actors_of}
use Rattle.register.specs.declared.Register.{Register}
use Rattle.soundness_rules.specs.Sound.{is_machine}
use Rattle.columns.specs.Columns.{resource_id, resources_to, latest_place, beside}
use Rattle.soundness.specs.declared.Findings.{Findings}
use Rattle.uses.specs.Sights.{owner_at}
use Rattle.actions.specs.Actions.{use_limit}
use Rattle.actions.specs.declared.Action.{Action}
use Rattle.actions.specs.declared.Violations.{Violations}
use Rattle.gate_rules.specs.Gate.{listed, padded}
use Rattle.gate_rules.specs.Fitting.{Fit}
use Rattle.violations.specs.Pushed.{besides, pushed_all}
use Rattle.coverage_table.specs.Table.{plain_violations, plain_hops}
use Rattle.paper.specs.Paper.{Walkable, Written}
use Rattle.paper.specs.declared.Page.{Page}
use Rattle.plain_gate.specs.Cells.{cells_of, cell_hops, faults_in}
use Rattle.plain_gate.specs.Known.{Known}
use Rattle.plain_gate.specs.declared.PlainlyJudged.{PlainlyJudged}
use Rattle.plain_gate.proofs.Owners.{owner_standing, machine_standing}
use Rattle.plain_gate.proofs.Uses.{violations_natural, hops_natural}

-- what is known of a register can be walked
pub walkable : (r : Register) {sheet : List ℕ} (found : Findings) → Known r sheet found → Walkable r sheet found.ups found.resources.reports
walkable r found known = record { soundly = known.soundly; claims = known.claims; parents = known.parents; ids = ap (λ w. w.reports) known.resources }

-- what is judged is its violations and its hop counts
judged_both : {vs ws : Violations} {hs ks : List ℕ} → vs ≡ ws → hs ≡ ks
    → ◌≡◌ {A = PlainlyJudged} (record { violations = vs; hops = hs }) (record { violations = ws; hops = ks })
judged_both p q = rw (p, q)

module _ (r : Register) {sheet : List ℕ} (found : Findings) (known : Known r sheet found) (a : Action) (fit : Fit r a) (room : length r.resources.list ≡ resource_limit)
    (long : length a.uses ≡ use_limit) {machine : Bool} {owner : ℕ} {first violations : Violations} {page : Page} {own theirs hops : List ℕ} where
  pub judged_plain : machine ≡ beside (take r.actors.count found.actors.names) (take r.actors.count found.actors.kinds) a.actor machine_kind
      → owner ≡ owner_at found.actors.owners (latest_place found.actors.names r.actors.count a.actor)
      → first ≡ pushed_all (listed []) (besides machine owner a)
      → Written r a.now a.actor owner page
      → own ≡ cells_of page.own found.resources.reports r.resources.count a
      → theirs ≡ cells_of page.theirs found.resources.reports r.resources.count a
      → violations ≡ pushed_all first (faults_in own theirs (machine && not (eqb owner 0)) a.used)
      → hops ≡ cell_hops page.hops own a.used
      → ◌≡◌ {A = PlainlyJudged} (record { violations = violations; hops = hops })
      (record { violations = listed (plain_violations r a); hops = padded (plain_hops r a) })
  judged_plain of-machine of_owner of-first written of-own of-theirs of-violations of-hops =
      let machine_is_lem : machine ≡ is_machine (actors_of r.actors) a.actor =
      of-machine
      ∙ ap (λ w. beside (take r.actors.count w.names) (take r.actors.count w.kinds) a.actor machine_kind) known.actors
      ∙ machine_standing r a.actor in
      let owner_is : owner ≡ owner_standing r a.actor =
      of_owner ∙ ap (λ w. owner_at w.owners (latest_place w.names r.actors.count a.actor)) known.actors in
      let reports_are : found.resources.reports ≡ map resource_id (resources_to r.resources).list = ap (λ w. w.reports) known.resources in
      let put : Written r a.now a.actor (owner_standing r a.actor) page = rw owner_is at written in
      judged_both
      (rw (of-violations, of-first, of-own, of-theirs, machine_is_lem, owner_is, reports_are)
      (violations_natural r known.soundly room a page put long fit.fits))
      (rw (of-hops, of-own, reports_are) (sym (hops_natural r known.soundly room a page put long fit.fits)))
