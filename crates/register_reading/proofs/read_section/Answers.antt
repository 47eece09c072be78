-- The list has its places throughout, and takes what was read at the next of them.
use Rattle.std.proofs.Common.{◌≡◌, ◌-◌, ◌∙◌, refl, ap, arith, length, replicate, length-set}
use Rattle.std.proofs.lemmas.List.{length-replicate}
use Rattle.lines.specs.Answers.{state_of}
use Rattle.refusals.specs.declared.Refusal.TheVariants.{Count}
use Rattle.register_reading.specs.Runs.{field_bound}
use Rattle.register_reading.specs.Filling.{listing_start, listing_next, listing_done}
use Rattle.register_reading.proofs.read_section.Goals as goal

-- no more than the list has places
pub loop-i-init : goal.loop-i-init
loop-i-init g c =
    let s = c.args.s.now in
    let counted = c.read_count-counted in
    let whole : g.row.N ≡ g.row.N - 0 = omega arith in (
      ap length c.requires.empty ∙ length-replicate g.row.N g.T.Record.absent,
      field_bound s c.args.key.now 0 g.row.N Count (state_of s c.args.c) counted.result counted.ensures,
      listing_start _ _ (c.requires.empty ∙ ap (λ n. replicate n g.T.Record.absent) whole) refl,
    )

pub loop-i-preserved : goal.loop-i-preserved
loop-i-preserved g c =
    let before = c.loop-i in
    let inv = before.invariant in
    let one = c.read-one in (
      length-set before.list before.i one.result.value ∙ inv.0,
      inv.1,
      listing_next {st = state_of c.args.s.now c.read_count-counted.result.cursor} before.list before.cursor before.i one.result.value one.result.cursor
          inv.2 c.loop-i-test.true inv.1 one.ensures,
    )

pub returns : goal.returns
returns g c =
    let end = c.loop-i in
    let counted = c.read_count-counted in
    let all =
    listing_done {st = state_of c.args.s.now c.read_count-counted.result.cursor} end.list end.cursor end.i end.invariant.2 c.loop-i-test.false in
    rw (← counted.ensures.value, ← counted.ensures.state)
    (record { few = end.invariant.1; counted = all.1; filled = all.0; stands = all.2 })
