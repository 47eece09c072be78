-- The answer is that of the bytes left.
use Rattle.std.proofs.Common.{◌≡◌, drop}
use Rattle.lists.specs.Lists.{every}
use Rattle.json_rules.specs.Members.{is_id_byte, is_id_text}
use Rattle.json_rules.proofs.is_id.Given as goal

abbrev pub invariant-loop-b : goal.invariant-loop-b
invariant-loop-b l = is_id_text l.id ≡ every is_id_byte (drop l.b-index l.id)
