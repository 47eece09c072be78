use Rattle.std.proofs.Common.{◌≡◌, ◌∙◌, refl, Result, Err, Ok, rules}
use Rattle.lists.specs.Loops.{length_mapped}
use Rattle.nested_plans.proofs.Judging.{judging_start, judging_stop, judging_next, judging_done}
use Rattle.refusals.specs.declared.Refusal.{Refusal}
use Rattle.nested_plans.proofs.judge_places.Goals as goal

pub loop-i-init : goal.loop-i-init
loop-i-init c = judging_start c.requires (search (rules, length_mapped)) c.no_verdicts-list.ensures

pub returns-in-Err : goal.returns-in-Err
returns-in-Err c =
    c.stopped.ensures
    ∙ judging_stop c.loop-i.invariant c.loop-i-test.true c.action_at-a.ensures c.action_outcome.ensures c.in-Err.is

-- an outcome that is no refusal
not_refused : (o : Result Unit Refusal) → ((why : Refusal) → o ≡ Err why → ⊥) → o ≡ Ok tt
not_refused (Ok _) h = refl
not_refused (Err why) h = absurd (h why refl)

pub loop-i-preserved : goal.loop-i-preserved
loop-i-preserved c =
    judging_next c.loop-i.invariant c.loop-i-test.true c.action_at-a.ensures c.action_outcome.ensures
    (not_refused _ c.in_default.not-Err) c.judge-what.ensures

pub returns : goal.returns
returns c = judging_done c.loop-i.invariant c.loop-i-test.false
