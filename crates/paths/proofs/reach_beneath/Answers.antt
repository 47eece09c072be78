-- `paths::reach_beneath` meets its contract. Each answer is that of the tests that led to it (`Verdicts`). The inner path's tail is a part of
-- it, since its length is tested before. Assumes nothing.
use Rattle.std.proofs.Common.{sym}
use Rattle.paths.proofs.Verdicts.{outer_empty, too_short}
use Rattle.paths.proofs.reach_beneath.Goals as goal

pub returns-then-outer-eq0 : goal.returns-then-outer-eq0
returns-then-outer-eq0 c =
    let a = c.args in
    sym (outer_empty a.outer.now a.inner.now c.if-outer-eq0.true)

pub returns-then-inner-n : goal.returns-then-inner-n
returns-then-inner-n c =
    let trim = c.trimmed_len-n in
    let a = c.args in
    sym
    (too_short a.outer.now a.inner.now trim.result c.if-outer-eq0.false trim.ensures.0 trim.ensures.1
    c.if-inner-n.true)
