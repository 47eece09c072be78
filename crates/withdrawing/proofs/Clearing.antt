-- What a withdrawal asks of the columns of actors and resources that were found, and the tests of the two clearings. Assumes nothing.
use Rattle.std.proofs.Common.{◌≡◌, ap, ◌∙◌, Bool, List, ℕ, eqb, ltb, length, take}
use Rattle.lists.specs.Lists.{any}
use Rattle.register.specs.Limits.{human_kind, claim_limit, moment_end}
use Rattle.register.specs.Register.{actors_of, no_actor}
use Rattle.register.specs.declared.Register.{Register}
use Rattle.columns.specs.Columns.{actor_id, actor_kind, beside, actors_to}
use Rattle.columns.specs.Laws.{beside_natural, up_to_first}
use Rattle.soundness.specs.Laws.{judged_sound, judged_actors, judged_resources}
use Rattle.soundness.specs.Opened.{Opened}
use Rattle.soundness.specs.declared.Findings.{Findings}
use Rattle.soundness_rules.specs.Sound.{human as isHuman}
use Rattle.claim_judging.specs.Alone.{world_by}
use Rattle.claim_judging.specs.AloneLaws.{world_natural}
use Rattle.refusals.specs.Refusals.{outcome_of}
use Rattle.change_rules.specs.Changes.{world_in, clear_resource_tests, clear_expired_tests}
use Rattle.refusals.specs.declared.Refusal.TheVariants.{Range, Absent}
use Rattle.withdrawing.specs.Struck.{asked_tests}

-- what the columns that were found are asked is what the register is asked
module _ (r : Register) {s : List ℕ} {found : Findings} (opened : Opened r s found) where
  world : world_by r.version found.actors.names found.actors.kinds found.actors.owners r.actors.count found.resources.reports found.resources.keepers r.resources.count ≡ world_in r
  world = world_natural r.version r.actors r.resources (judged_actors r opened) (judged_resources r opened)

  module _ (who : ℕ) {known : Bool} (knows : known ≡ any (eqb who) (take r.actors.count found.actors.names)) where
    pub known_told : known ≡ (world_in r).known who
    known_told = knows ∙ ap (λ w. w.known who) world

    -- the tests of the two clearings, told one by one
    module _ (places : length r.claims.list ≡ claim_limit) where
      pub resource_told : (o : ℕ) {listed keeps : Bool} → listed ≡ any (eqb o) (take r.resources.count found.resources.reports)
          → keeps ≡ beside (take r.resources.count found.resources.reports) (take r.resources.count found.resources.keepers) o who
          → outcome_of (asked_tests found.sound known Absent listed Absent keeps) ≡ outcome_of (clear_resource_tests r who o)
      unfolding clear_resource_tests
      resource_told o lists kept =
          rw (judged_sound r opened places, known_told, lists ∙ ap (λ w. w.listed o) world, kept ∙ ap (λ w. w.keeps who o) world)

      pub expired_told : (moment : ℕ) {timely human : Bool} → timely ≡ ltb moment moment_end
          → human ≡ beside (take r.actors.count found.actors.names) (take r.actors.count found.actors.kinds) who human_kind
          → outcome_of (asked_tests found.sound timely Range known Absent human) ≡ outcome_of (clear_expired_tests r who moment)
      unfolding clear_expired_tests
      expired_told moment {timely} {human} times asked =
          let humane : human ≡ isHuman (actors_of r.actors) who =
          asked
          ∙ rw (judged_actors r opened) (beside_natural actor_id actor_kind who human_kind r.actors.count (actors_to r.actors).list)
          ∙ ap (λ l. isHuman l who) (up_to_first no_actor r.actors.count r.actors.list) in
          rw (judged_sound r opened places, times, known_told, humane)
