-- The tests of a register that was examined, and what is shown by their outcome. Assumes nothing.
use Rattle.std.proofs.Common.{Result, Err, Ok, ◌≡◌, sym, ap, ◌∙◌, List, ℕ, length}
use Rattle.register.specs.Limits.{claim_limit}
use Rattle.register.specs.Register.{no_actor}
use Rattle.register.specs.declared.Register.{Register}
use Rattle.refusals.specs.Refusals.{outcome_of}
use Rattle.refusals.proofs.Laws.{outcome_accepted}
use Rattle.refusals.specs.declared.Refusal.{Refusal}
use Rattle.columns.specs.Columns.{actor_id, actors_to}
use Rattle.columns.specs.Laws.{up_to_first, among_natural}
use Rattle.soundness.specs.Opened.{Opened}
use Rattle.soundness.specs.Laws.{judged_sound, judged_ups, judged_actors, judged_resources}
use Rattle.soundness.specs.declared.Findings.{Findings}
use Rattle.paper.specs.Paper.{Walkable}
use Rattle.table_showing.specs.Shown.{table_tests, table_held, table_none, table_shown}
use Rattle.table_showing.specs.Columns.{tests_by}

module _ (r : Register) (room : length r.claims.list ≡ claim_limit) {s : List ℕ} {found : Findings} (opened : Opened r s found) (actor moment : ℕ) where
  -- the tests by what was found are those of the register
  tests_natural : tests_by found.sound found.actors.names r.actors.count actor moment ≡ table_tests r actor moment
  unfolding table_tests
  tests_natural =
      rw (judged_sound r opened room, judged_actors r opened, among_natural actor_id actor r.actors.count (actors_to r.actors).list, up_to_first no_actor r.actors.count r.actors.list)

  module _ {outcome : Result Unit Refusal} (told : outcome ≡ outcome_of (tests_by found.sound found.actors.names r.actors.count actor moment)) where
    outcome_natural : outcome ≡ outcome_of (table_tests r actor moment)
    outcome_natural = told ∙ ap outcome_of tests_natural

    -- where they are passed the register may be walked through
    pub walkable_accepted : outcome ≡ Ok tt → Walkable r s found.ups found.resources.reports
    unfolding table_tests
    walkable_accepted e = record {
      soundly = outcome_accepted _ _ (sym outcome_natural ∙ e);
      claims = opened.put;
      parents = judged_ups r opened;
      ids = ap (λ w. w.reports) (judged_resources r opened);
    }

    pub shown_accepted : outcome ≡ Ok tt → table_held r actor moment ≡ table_shown r actor moment
    unfolding table_shown
    shown_accepted e = rw (← outcome_natural, e)

    pub shown_refused : (why : Refusal) → outcome ≡ Err why → table_none (Err why) ≡ table_shown r actor moment
    unfolding table_shown
    shown_refused why e = rw (← outcome_natural, e)
