-- A plan from the first line on, with all levels and all room, and nothing behind it.
use Rattle.std.proofs.Common.{refl, sym, subst, replicate}
use Rattle.register_reading.specs.Runs.{run_start}
use Rattle.steps.specs.Steps.{text_action_limit}
use Rattle.steps.specs.Nesting.{plan_of}
use Rattle.step_reading.specs.Finding.{TextFound}
use Rattle.step_reading.proofs.Walking.{found_whole}
use Rattle.step_reading.proofs.read_text.Goals as goal

pub returns : goal.returns
returns c =
    let s = c.args.text.now in
    let begun = c.start in
    let read = c.read_plan-read in
    subst (λ r. TextFound s r (plan_of s)) (sym c.moved.ensures)
    (found_whole s (record { list = replicate text_action_limit 0; count = 0; cursor = begun.result }) read.result c.finish.result refl
    (run_start s begun.result begun.ensures) read.ensures c.finish.ensures)
