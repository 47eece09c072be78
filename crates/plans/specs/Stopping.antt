-- Laws: What stops a plan: a loop over its actions, and the answer by it and by the tests before it. Assumes nothing.
use Rattle.std.specs.Prelude.{◌≡◌, true, false, List, ℕ, ◌+◌, ◌≤◌, ◌<◌, drop, get_or, Result, Err, Ok}
use Rattle.std.proofs.Common.{sym, ap, ◌∙◌, add-one}
use Rattle.lists.specs.Loops.{Loop, turn, next, done}
use Rattle.register.specs.declared.Register.{Register}
use Rattle.soundness_rules.specs.Sound.{sound}
use Rattle.refusals.specs.Refusals.{outcome_of}
use Rattle.refusals.specs.declared.Refusal.{Refusal}
use Rattle.refusals.specs.declared.Refusal.TheVariants.{Unsound, Range}
use Rattle.actions.specs.Actions.{action_limit}
use Rattle.actions.specs.declared.Action.{Action}
use Rattle.actions.specs.declared.Plan.{Plan}
use Rattle.gate_rules.specs.Plans.{actions_of, halt_of, stopped, planned}
use Rattle.gate_rules.proofs.Cancelling.{planned_stopped}
use Rattle.gate.specs.Judged.{Lent, lent_in, lent_tests}
use Rattle.gate.specs.Sheets.{sheeted}
use Rattle.plans.specs.Stops.{stop_of, halt_by}
use Rattle.plans.specs.StopsLaws.{halt_unsound, halt_many, halt_actions, told_halts}
use Rattle.plans.specs.Laws.{halt_by_nil, halt_by_pass, halt_by_fail, halt_natural}
use Rattle.plans.specs.declared.Stop.{Stop}

-- of the actions, of which there are top, the loop has come to place i: none before it stops the plan
pub record Stopping (names : List ℕ) (n : ℕ) (p : Plan) (top i : ℕ) : Type 0 where
  pub come : Loop (halt_by names n) p.count p.actions top i (halt_by names n 0 (actions_of p))

module _ {names : List ℕ} {n : ℕ} {p : Plan} {top : ℕ} where
  module _ {i : ℕ} (s : Stopping names n p top i) where
    module _ (d : Action) (h : i < top) {outcome : Result Unit Refusal} (asked : outcome ≡ outcome_of (lent_tests names n (get_or p.actions i d))) where
      -- the action there stops the plan
      pub stopping_here : {why : Refusal} → outcome ≡ Err why
          → ◌≡◌ {A = Stop} (record { outcome = Err why; position = i }) (stop_of (halt_by names n 0 (actions_of p)))
      stopping_here {why = why} e =
          sym (ap stop_of (turn s.come d h ∙ halt_by_fail names n i (get_or p.actions i d) (drop (i + 1) (actions_of p)) why (sym asked ∙ e)))

      pub stopping_next : outcome ≡ Ok tt → Stopping names n p top (i + 1)
      stopping_next e =
          record {
            come = next s.come h
                (turn s.come d h ∙ halt_by_pass names n i (get_or p.actions i d) (drop (i + 1) (actions_of p)) (sym asked ∙ e) ∙ rw add-one);
          }

    -- after the loop none stops it
    pub stopping_done : top ≤ i → ◌≡◌ {A = Stop} (record { outcome = Ok tt; position = 0 }) (stop_of (halt_by names n 0 (actions_of p)))
    stopping_done h = sym (ap stop_of (done s.come h ∙ halt_by_nil names n i))

-- a plan that test 1 or the count stops
module _ (r : Register) (p : Plan) where
  pub stop_unsound : sound r ≡ false → stopped Unsound 0 ≡ planned r p
  stop_unsound fails = sym (planned_stopped r p Unsound 0 (halt_unsound r p fails))

  pub stop_many : sound r ≡ true → action_limit < p.count → stopped Range 0 ≡ planned r p
  stop_many h many = sym (planned_stopped r p Range 0 (halt_many r p h many))

-- what is found by what is lent of the register stops the plan
pub stop_found : (r : Register) (p : Plan) → sound (sheeted r) ≡ true → p.count ≤ action_limit → {l : Lent} → l ≡ lent_in r → {stop : Stop}
    → stop ≡ stop_of (halt_by l.names l.actors 0 (actions_of p)) → stop ≡ stop_of (halt_of (sheeted r) p)
stop_found r p h few same found =
    found ∙ ap (λ w. stop_of (halt_by w.names w.actors 0 (actions_of p))) same
    ∙ ap stop_of (halt_natural r 0 (actions_of p) ∙ sym (halt_actions (sheeted r) p h few))

-- so it is answered
pub found_halts : (r : Register) (p : Plan) {stop : Stop} → stop ≡ stop_of (halt_of r p) → (why : Refusal) → stop.outcome ≡ Err why
    → stopped why stop.position ≡ planned r p
found_halts r p {stop = stop} found why e = sym (planned_stopped r p why stop.position (told_halts (halt_of r p) found why e))
