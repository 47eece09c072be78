-- `withdrawing::strike` meets its contract: no more claims are left than were looked at (Packing). Assumes nothing.
use Rattle.std.proofs.Common.{◌≡◌, ap, ◌∙◌, ◌≤◌, arith, rules, length}
use Rattle.withdrawing.specs.Struck.{spared}
use Rattle.withdrawing.proofs.Laws.{spared_length}
use Rattle.withdrawing.proofs.Packing.{packed_count, struck_accepted, struck_refused}
use Rattle.withdrawing.proofs.strike.Goals as goal

pub overflow_sub-result : goal.overflow_sub-result
overflow_sub-result c =
    let a = c.args in
    let left : c.packed-claims.result.count ≡ length (spared a.sheet.now a.k.count a.gone.now) = ap (λ k. k.count) c.packed-claims.ensures ∙ packed_count _ _ _ in
    let few : c.packed-claims.result.count ≤ c.min.result = omega (arith, left, spared_length a.sheet.now a.k.count a.gone.now) in
    search rules

pub returns-in-Ok : goal.returns-in-Ok
returns-in-Ok c =
    let a = c.args in
    let left : c.packed-claims.result.count ≡ length (spared a.sheet.now a.k.count a.gone.now) = ap (λ k. k.count) c.packed-claims.ensures ∙ packed_count _ _ _ in
    struck_accepted _ _ _ c.in-Ok.is c.packed-claims.ensures (omega (arith, left))

pub returns-in-Err : goal.returns-in-Err
returns-in-Err c = struck_refused _ _ _ c.in-Err.is
