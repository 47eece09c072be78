-- The numbers of a list stand in its own places, and the array is as it was for every other key.
use Rattle.std.proofs.Common.{arith}
use Rattle.json_reading.proofs.Keys.{list_key}
use Rattle.json_reading.proofs.Values.{kept_same, list_held, list_apart, list_missed}
use Rattle.json_reading.proofs.held.read_value.Goals as goal

pub returns-then-key : goal.returns-then-key
returns-then-key c =
    let a = c.args in
    let inside = list_key a.key c.if-key.true in
    let t = c.in_ok-len.ensures in
    record {
      held = list_held a.s.now a.numbers.now _ a.at a.key inside.0 inside.1 c.requires.1 t.0 _ _ t.1 t.2 t.3 t.4 t.5;
      kept = list_apart a.s.now a.numbers.now _ a.at a.key inside.0 inside.1 c.requires.1 t.0 (omega (arith, t.2, t.3)) t.4;
    }

pub returns-in_err-len : goal.returns-in_err-len
returns-in_err-len c =
    let a = c.args in
    let inside = list_key a.key c.if-key.true in
    record {
      held = rw c.from_residual.ensures (list_missed a.s.now a.numbers.now c.read_numbers.new.numbers a.at a.key inside.0 inside.1 c.requires.1 c.in_err-len.ensures);
      kept = rw c.from_residual.ensures tt;
    }

pub returns-then-key-2 : goal.returns-then-key-2
returns-then-key-2 c = record { held = c.read_text.ensures _; kept = kept_same c.read_text.result c.args.key c.args.numbers.now }

pub returns : goal.returns
returns c = record { held = c.read_figure.ensures _; kept = kept_same c.read_figure.result c.args.key c.args.numbers.now }
