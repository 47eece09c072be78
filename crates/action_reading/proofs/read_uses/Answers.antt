use Rattle.std.proofs.Common.{refl, arith}
use Rattle.actions.specs.Actions.{use_limit}
use Rattle.refusals.specs.declared.Refusal.TheVariants.{Count}
use Rattle.lines.specs.Answers.{state_of}
use Rattle.text_rules.specs.Keys.{uses_key}
use Rattle.text_rules.specs.Actions.{read_uses}
use Rattle.register_reading.specs.Runs.{field_bound}
use Rattle.register_reading.specs.Filling.{listing_start, listing_next, listing_done}
use Rattle.action_reading.proofs.read_uses.Goals as goal

pub loop-i-init : goal.loop-i-init
loop-i-init c = listing_start _ _ refl refl

-- no more than the array has places
pub bounds-uses-i : goal.bounds-uses-i
bounds-uses-i c = omega (arith, field_bound c.args.s.now uses_key 0 use_limit Count (state_of c.args.s.now c.args.c) c.read_count-counted.result c.read_count-counted.ensures)

pub loop-i-preserved : goal.loop-i-preserved
loop-i-preserved c =
    let before = c.loop-i in
    let one = c.read_use-one in
    let room = field_bound c.args.s.now uses_key 0 use_limit Count (state_of c.args.s.now c.args.c) c.read_count-counted.result c.read_count-counted.ensures in
    listing_next before.uses before.cursor before.i one.result.usage one.result.cursor before.invariant c.loop-i-test.true room one.ensures

pub returns : goal.returns
unfolding read_uses
returns c =
    let end = c.loop-i in
    let counted = c.read_count-counted in
    let all = listing_done end.uses end.cursor end.i end.invariant c.loop-i-test.false in
    rw (← counted.ensures.value, ← counted.ensures.state) (record { uses = all.0; used = all.1; state = all.2 })
