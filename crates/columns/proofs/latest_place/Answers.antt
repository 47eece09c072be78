-- `columns::latest_place` meets its contract. Assumes nothing.
use Rattle.std.proofs.Common.{◌≡◌, sym, ap, ◌∙◌, suc, ◌-◌, arith}
use Rattle.columns.specs.Columns.{latest_place}
use Rattle.columns.specs.Laws.{place_none, place_hit, place_miss, place_within}
use Rattle.columns.proofs.latest_place.Goals as goal

pub loop-i-init : goal.loop-i-init
loop-i-init c =
    let entry = c.args in
    (omega arith, rw c.min-i.ensures (place_within entry.column.now entry.x entry.n))

pub returns-then-column-i : goal.returns-then-column-i
returns-then-column-i c =
    let entry = c.args in
    let below : c.loop-i.i ≡ suc (c.loop-i.i - 1) = omega arith in
    sym
    (c.loop-i.invariant.1 ∙ ap (λ i. latest_place entry.column.now i entry.x) below
    ∙ place_hit entry.column.now entry.x (c.loop-i.i - 1) (omega arith) c.if-column-i.true)

pub loop-i-preserved : goal.loop-i-preserved
loop-i-preserved c =
    let entry = c.args in
    let below : c.loop-i.i ≡ suc (c.loop-i.i - 1) = omega arith in (
      omega arith,
      c.loop-i.invariant.1 ∙ ap (λ i. latest_place entry.column.now i entry.x) below
          ∙ place_miss entry.column.now entry.x (c.loop-i.i - 1) (omega arith) c.if-column-i.false,
    )

pub returns : goal.returns
returns c =
    let entry = c.args in
    let none : c.loop-i.i ≡ 0 = omega arith in
    sym (c.loop-i.invariant.1 ∙ rw none (place_none entry.column.now entry.x))
