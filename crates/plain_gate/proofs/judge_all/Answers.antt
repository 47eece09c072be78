-- `plain_gate::judge_all`: the answers to the goals that the check leaves open. Assumes nothing.
use Rattle.std.proofs.Common.{◌≡◌, arith, rules, length}
use Rattle.lists.specs.Loops.{length_mapped}
use Rattle.actions.specs.Actions.{action_limit}
use Rattle.gate_rules.proofs.Cancelling.{halt_runs}
use Rattle.plans.specs.Holding.{holding_start}
use Rattle.plain_gate.proofs.Answering.{fit_at, plainly_next}
use Rattle.plain_gate.proofs.judge_all.Goals as goal

pub loop-i-init : goal.loop-i-init
loop-i-init c =
    -- the array of the actions has its length, by its type
    let long : length c.args.p.actions ≡ action_limit = search (rules, length_mapped) in
    holding_start long (omega (arith, (halt_runs c.args.r c.args.p c.requires.1).most))

pub judge_one-what-requires : goal.judge_one-what-requires
judge_one-what-requires c =
    let long : length c.args.p.actions ≡ action_limit = search (rules, length_mapped) in
    (c.requires.0, fit_at c.args.r c.args.p c.requires.1 long _ c.loop-i.i c.loop-i-test.true)

pub loop-i-preserved : goal.loop-i-preserved
loop-i-preserved c = plainly_next c.args.r c.loop-i.invariant _ c.loop-i-test.true c.judge_one-what.ensures
