-- No key, a name that is no key's, or a key with what was read of its value.
use Rattle.json_reading.proofs.Turns.{member_unkeyed, member_beyond, member_missed, member_held}
use Rattle.json_reading.proofs.members.read_member.Goals as goal

pub returns-in_err-key : goal.returns-in_err-key
returns-in_err-key c =
    let a = c.args in
    record {
      member = rw c.from_residual.ensures (member_unkeyed a.s.now a.at a.numbers.now c.in_err-key.ensures);
      kept = rw c.from_residual.ensures tt;
    }

pub returns-then-key-ge-KEYS : goal.returns-then-key-ge-KEYS
returns-then-key-ge-KEYS c =
    let a = c.args in
    record { member = member_beyond a.s.now a.at a.numbers.now _ _ c.in_ok-key.ensures.0 c.if-key-ge-KEYS.true; kept = tt }

pub returns-in_err-held : goal.returns-in_err-held
returns-in_err-held c =
    let a = c.args in
    record {
      member = rw c.from_residual-in_err-held.ensures (member_missed a.s.now a.at a.numbers.now _ _ c.in_ok-key.ensures.0 c.in_err-held.ensures.held);
      kept = rw c.from_residual-in_err-held.ensures tt;
    }

pub returns : goal.returns
returns c =
    record {
      member = member_held _ _ _ _ _ c.in_ok-key.ensures.0 _ c.if-key-ge-KEYS.false c.in_ok-key.ensures.1 c.in_ok-held.ensures.held;
      kept = c.in_ok-held.ensures.kept;
    }
