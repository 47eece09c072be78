-- `lending::is_sound` meets its contract: bytes of another length hold a register that is not sound, and what is found of the others is found of the
-- register that they hold (Opening). Assumes nothing.
use Rattle.std.proofs.Common.{sym}
use Rattle.lending.proofs.Opening.{other_unsound, held_sound}
use Rattle.lending.proofs.is_sound.Goals as goal

pub returns-then-bytes-ne-REGISTER : goal.returns-then-bytes-ne-REGISTER
returns-then-bytes-ne-REGISTER c = sym (other_unsound c.args.bytes.now c.if-bytes-ne-REGISTER.true)

pub returns : goal.returns
returns c =
    held_sound c.args.bytes.now c.if-bytes-ne-REGISTER.false c.examine-found.ensures
