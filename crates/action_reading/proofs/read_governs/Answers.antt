use Rattle.std.proofs.Common.{refl, arith}
use Rattle.actions.specs.Actions.{govern_limit}
use Rattle.refusals.specs.declared.Refusal.TheVariants.{Count}
use Rattle.lines.specs.Answers.{state_of}
use Rattle.text_rules.specs.Keys.{governs_key}
use Rattle.text_rules.specs.Actions.{read_governs}
use Rattle.register_reading.specs.Runs.{field_bound}
use Rattle.register_reading.specs.Filling.{listing_start, listing_next, listing_done}
use Rattle.action_reading.proofs.read_governs.Goals as goal

pub loop-i-init : goal.loop-i-init
loop-i-init c = listing_start _ _ refl refl

-- no more than the array has places
pub bounds-governs-i : goal.bounds-governs-i
bounds-governs-i c = omega (arith, field_bound c.args.s.now governs_key 0 govern_limit Count (state_of c.args.s.now c.args.c) c.read_count-counted.result c.read_count-counted.ensures)

pub loop-i-preserved : goal.loop-i-preserved
loop-i-preserved c =
    let before = c.loop-i in
    let one = c.read_number-one in
    let room = field_bound c.args.s.now governs_key 0 govern_limit Count (state_of c.args.s.now c.args.c) c.read_count-counted.result c.read_count-counted.ensures in
    listing_next before.governs before.cursor before.i one.result.value one.result.cursor before.invariant c.loop-i-test.true room (record { got = one.ensures.value; stands = one.ensures.state })

pub returns : goal.returns
unfolding read_governs
returns c =
    let end = c.loop-i in
    let counted = c.read_count-counted in
    let all = listing_done end.governs end.cursor end.i end.invariant c.loop-i-test.false in
    rw (← counted.ensures.value, ← counted.ensures.state) (record { governs = all.0; governed = all.1; state = all.2 })
