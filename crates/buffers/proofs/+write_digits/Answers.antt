-- One digit is written, or all but the last by the call on a tenth of the number, and the last behind them.
use Rattle.std.proofs.Common.{◌≡◌, ◌+◌, ◌/◌, ◌%◌, arith}
use Rattle.lists.specs.Splices.{splice_set, splice_snoc}
use Rattle.decimals.specs.Decimals.{digits}
use Rattle.decimals.specs.Laws.{digits_small, digits_step}
use Rattle.decimals.specs.Walk.{length_small, length_step}
use Rattle.buffers.proofs.+write_digits.Goals as goal

pub bounds-buf-at : goal.bounds-buf-at
bounds-buf-at t c = omega (arith, length_small c.args.n c.if-n-lt10.true)

pub returns-then-n-lt10 : goal.returns-then-n-lt10
returns-then-n-lt10 t c =
    let a = c.args in
    let e : a.n % 10 ≡ a.n = omega arith in
    let one = length_small a.n c.if-n-lt10.true in
    record {
      behind = omega arith;
      written = rw (digits_small a.n c.if-n-lt10.true, e) (splice_set a.at (48 + a.n) a.buf.now (omega arith));
    }

pub write_digits-e-requires : goal.write_digits-e-requires
write_digits-e-requires t c = let more = length_step c.args.n c.if-n-lt10.false in (omega arith, omega arith)

pub bounds-buf-e : goal.bounds-buf-e
bounds-buf-e t c = omega (arith, length_step c.args.n c.if-n-lt10.false, c.write_digits-e.auto.buf)

pub overflow_add-result-2 : goal.overflow_add-result-2
overflow_add-result-2 t c = omega (arith, length_step c.args.n c.if-n-lt10.false)

pub returns : goal.returns
returns t c =
    let a = c.args in
    let more = length_step a.n c.if-n-lt10.false in
    let call = c.write_digits-e in
    record {
      behind = omega arith;
      written = rw (digits_step a.n c.if-n-lt10.false) (splice_snoc a.at (digits (a.n / 10)) (48 + a.n % 10) a.buf.now call.new.buf call.result (omega arith) call.ensures.behind call.ensures.written);
    }
