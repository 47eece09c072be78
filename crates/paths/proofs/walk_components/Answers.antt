-- `paths::walk_components` meets its contract: a slash ends the component, any other byte goes into the dots. Assumes nothing.
use Rattle.std.proofs.Common.{sym, ◌∙◌, arith, get_or, eq-eqb, ne_eqb}
use Rattle.paths.proofs.Dots.{dots_most}
use Rattle.paths.proofs.Walks.{climbing_end, climbing_slash, climbing_byte}
use Rattle.paths.proofs.walk_components.Goals as goal
use Rattle.paths.proofs.walk_components.Goals.{then-b-eq-SLASH+else-dots-eq2, else-b-eq-SLASH}

pub returns-then-dots-eq2 : goal.returns-then-dots-eq2
returns-then-dots-eq2 c =
    let inv = c.loop-b.invariant in
    sym
    (inv.1 ∙ climbing_slash c.args.p.now c.loop-b.dots c.loop-b.b-index inv.0 (omega arith) c.if-b-eq-SLASH.true
    ∙ rw (eq-eqb c.loop-b.dots 2 c.if-dots-eq2.true))

pub loop-b-preserved : goal.loop-b-preserved
loop-b-preserved c =
    let p = c.args.p.now in
    let inv = c.loop-b.invariant in
    let i = c.loop-b.b-index in
    elim c.if-b-eq-SLASH.branch [
      | then-b-eq-SLASH+else-dots-eq2 w ↦ rw w.dots-is (
        omega arith,
        inv.1
            ∙ climbing_slash p c.loop-b.dots i inv.0 (omega arith) w.if-b-eq-SLASH.true
            ∙ rw (ne_eqb c.loop-b.dots 2 w.if-dots-eq2.false),
      )
      | else-b-eq-SLASH w ↦ rw (w.dots-is, w.dots_with-dots.ensures) (
        dots_most c.loop-b.dots (get_or p i 0),
        inv.1 ∙ climbing_byte p c.loop-b.dots i inv.0 (omega arith) w.if-b-eq-SLASH.false,
      )
    ]

pub returns : goal.returns
returns c =
    let inv = c.loop-b.invariant in
    sym (inv.1 ∙ climbing_end c.args.p.now c.loop-b.dots c.loop-b.b-index inv.0 (omega arith))
