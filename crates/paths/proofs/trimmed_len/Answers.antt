-- `paths::trimmed_len` meets its contract: a slash at the end goes; at any other byte, or at none, the bytes are trimmed already. Assumes nothing.
use Rattle.std.proofs.Common.{◌≡◌, ◌+◌, ◌-◌, take, refl, sym, ap, ◌∙◌, arith}
use Rattle.paths.specs.Containment.{trimmed}
use Rattle.paths.proofs.Walks.{trimmed_none, trimmed_last_slash, trimmed_last_other}
use Rattle.paths.proofs.trimmed_len.Goals as goal

pub returns-then-p-last-ne-SLASH : goal.returns-then-p-last-ne-SLASH
returns-then-p-last-ne-SLASH c =
    let n = c.loop-last.last in
    let one : n - 1 + 1 ≡ n = omega arith in
    rw one (sym (c.loop-last.invariant.1 ∙ trimmed_last_other c.args.p.now n (omega arith) (omega arith) c.if-p-last-ne-SLASH.true), omega arith)

pub loop-last-preserved : goal.loop-last-preserved
loop-last-preserved c =
    let p = c.args.p.now in
    (omega arith, c.loop-last.invariant.1 ∙ trimmed_last_slash p c.loop-last.last (omega arith) (omega arith) c.if-p-last-ne-SLASH.false)

pub returns : goal.returns
returns c =
    let p = c.args.p.now in
    let none : c.loop-last.last ≡ 0 = omega arith in
    (sym (c.loop-last.invariant.1 ∙ ap (λ n. trimmed (take n p)) none ∙ trimmed_none p 0 refl), omega arith)
