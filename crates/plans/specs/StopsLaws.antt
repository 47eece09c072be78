-- Laws: What stops a plan: test 1, then 2 on the count, then its actions; and what the code holds tells it. Assumes nothing.
use Rattle.std.specs.Prelude.{◌≡◌, refl, true, false, ◌≤◌, ◌<◌, Err, Ok}
use Rattle.std.proofs.Common.{sym, ap, ◌∙◌, le-leb}
use borrow.Author.Tests.{lt-leb}
use Rattle.register.specs.declared.Register.{Register}
use Rattle.soundness_rules.specs.Sound.{sound}
use Rattle.refusals.proofs.Laws.{outcome_clash}
use Rattle.refusals.specs.declared.Refusal.{Refusal}
use Rattle.refusals.specs.declared.Refusal.TheVariants.{Unsound, Range}
use Rattle.actions.specs.Actions.{action_limit}
use Rattle.actions.specs.declared.Plan.{Plan}
use Rattle.gate_rules.specs.Plans.{actions_of, Halt, runs, halts, first_halt, halt_of}
use Rattle.plans.specs.Stops.{stop_of}
use Rattle.plans.specs.declared.Stop.{Stop}

-- test 1, then 2 on the count, then the actions
module _ (r : Register) (p : Plan) where
  pub halt_unsound : sound r ≡ false → halt_of r p ≡ halts Unsound 0
  unfolding halt_of
  halt_unsound fails = rw fails

  module _ (h : sound r ≡ true) where
    pub halt_many : action_limit < p.count → halt_of r p ≡ halts Range 0
    unfolding halt_of
    halt_many many = rw (h, lt-leb p.count action_limit many)

    pub halt_actions : p.count ≤ action_limit → halt_of r p ≡ first_halt r 0 (actions_of p)
    unfolding halt_of
    halt_actions few = rw (h, le-leb p.count action_limit few)

-- what the code holds tells what stops a plan
stop_runs : (h : Halt) → (stop_of h).outcome ≡ Ok tt → h ≡ runs
stop_runs runs e = refl
stop_runs (halts why n) e = outcome_clash e

stop_halts : (h : Halt) (why : Refusal) → (stop_of h).outcome ≡ Err why → h ≡ halts why (stop_of h).position
stop_halts runs why e = outcome_clash (sym e)
stop_halts (halts other n) why e = cc

module _ (h : Halt) {stop : Stop} (found : stop ≡ stop_of h) where
  pub told_runs : stop.outcome ≡ Ok tt → h ≡ runs
  told_runs e = stop_runs h (sym (ap (λ s. s.outcome) found) ∙ e)

  pub told_halts : (why : Refusal) → stop.outcome ≡ Err why → h ≡ halts why stop.position
  told_halts why e =
      stop_halts h why (sym (ap (λ s. s.outcome) found) ∙ e) ∙ ap (λ s. halts why s.position) (sym found)
