-- Each turn takes one record more into the sheet, and what is found of the sheet with all of them is what is found of the table.
use Rattle.std.proofs.Common.{◌≡◌, refl, ◌∙◌, arith, length}
use Rattle.portal.proofs.Taking.{taken_none, taken_next, taken_all, too_many}
use Rattle.portal.proofs.guvrendik_sound_table.Goals as goal

pub returns-then-claims-gt-CLAIMS : goal.returns-then-claims-gt-CLAIMS
returns-then-claims-gt-CLAIMS c = too_many c.args.version c.args.actors c.args.resources c.args.claims.now c.if-claims-gt-CLAIMS.true

pub loop-i-init : goal.loop-i-init
loop-i-init c = record { long = refl; taken = taken_none c.args.claims.now }

pub loop-i-preserved : goal.loop-i-preserved
loop-i-preserved c = record {
  long = c.take_apart.auto.sheet ∙ c.loop-i.invariant.long;
  taken =
      taken_next c.loop-i.invariant.taken c.if-claims-gt-CLAIMS.false c.loop-i-test.true c.loop-i.invariant.long c.take_apart.ensures;
}

pub returns : goal.returns
returns c =
    let whole : c.loop-i.i ≡ length c.args.claims.now = omega arith in
    taken_all c.loop-i.invariant.taken c.if-claims-gt-CLAIMS.false c.args.version c.args.actors c.args.resources c.loop-i-test.false
    (rw (← whole) at c.sheet_answer.ensures)
