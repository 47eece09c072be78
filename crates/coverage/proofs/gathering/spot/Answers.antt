-- `coverage::gathering::spot` meets its contract: where the number stands the place is the later one, elsewhere it stays. Assumes nothing.
use Rattle.std.proofs.Common.{◌≡◌, sym, ap, ◌∙◌, add-one, arith}
use Rattle.columns.specs.Laws.{place_none, place_hit, place_miss, place_within}
use Rattle.coverage.specs.Gathering.{spot_of, spot_in}
use Rattle.coverage.proofs.gathering.spot.Goals as goal
use Rattle.coverage.proofs.gathering.spot.Goals.{then-reports-i, else-reports-i}

pub loop-i-init : goal.loop-i-init
loop-i-init c =
    let entry = c.args in
    (omega arith, sym (ap spot_of (place_none entry.reports.now entry.x)))

pub loop-i-preserved : goal.loop-i-preserved
loop-i-preserved c =
    let entry = c.args in
    let reports = entry.reports.now in (
      omega arith,
      rw (add-one c.loop-i.i) (elim c.if-reports-i.branch [
        | then-reports-i w ↦ w.at-is ∙ sym (ap spot_of (place_hit reports entry.x c.loop-i.i (omega arith) w.if-reports-i.true))
        | else-reports-i w ↦ w.at-is ∙ c.loop-i.invariant.1 ∙ sym (ap spot_of (place_miss reports entry.x c.loop-i.i (omega arith) w.if-reports-i.false))
      ]),
    )

pub returns : goal.returns
returns c =
    let entry = c.args in
    let ended : c.loop-i.i ≡ c.min-i-end.result = omega arith in
    c.loop-i.invariant.1
    ∙ ap (λ i. spot_in entry.reports.now i entry.x) (ended ∙ c.min-i-end.ensures)
    ∙ sym (ap spot_of (place_within entry.reports.now entry.x entry.m))
