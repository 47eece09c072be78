-- The ten flags are written one behind the other: each fits, since all of them do.
use Rattle.std.proofs.Common.{arith}
use Rattle.json_writing.proofs.Joining.{flags_length, flagging_start, flagging_next, flagging_done}
use Rattle.json_writing.proofs.put_flags.Goals as goal

pub put_setting-resists-requires : goal.put_setting-resists-requires
put_setting-resists-requires c = (omega (arith, flags_length c.args.flags), omega arith)

pub put_setting-bypasses-requires : goal.put_setting-bypasses-requires
put_setting-bypasses-requires c = (omega (arith, flags_length c.args.flags), omega arith)

pub put_setting-weakens-requires : goal.put_setting-weakens-requires
put_setting-weakens-requires c = (omega (arith, flags_length c.args.flags), omega arith)

pub put_setting-disables-requires : goal.put_setting-disables-requires
put_setting-disables-requires c = (omega (arith, flags_length c.args.flags), omega arith)

pub put_setting-dominion-requires : goal.put_setting-dominion-requires
put_setting-dominion-requires c = (omega (arith, flags_length c.args.flags), omega arith)

pub put_setting-coerces-requires : goal.put_setting-coerces-requires
put_setting-coerces-requires c = (omega (arith, flags_length c.args.flags), omega arith)

pub put_setting-deceives-requires : goal.put_setting-deceives-requires
put_setting-deceives-requires c = (omega (arith, flags_length c.args.flags), omega arith)

pub put_setting-modification-requires : goal.put_setting-modification-requires
put_setting-modification-requires c = (omega (arith, flags_length c.args.flags), omega arith)

pub put_setting-reduces-requires : goal.put_setting-reduces-requires
put_setting-reduces-requires c = (omega (arith, flags_length c.args.flags), omega arith)

pub put_setting-requires : goal.put_setting-requires
put_setting-requires c = (omega (arith, flags_length c.args.flags), omega arith)

pub returns : goal.returns
returns c =
    let a = c.args in
    let start = flagging_start a.flags a.at a.buf.now in
    let first = flagging_next a.flags 0 9 c.requires start c.put_setting-resists.ensures.behind c.put_setting-resists.ensures.written in
    let second = flagging_next a.flags 1 8 c.requires first c.put_setting-bypasses.ensures.behind c.put_setting-bypasses.ensures.written in
    let third = flagging_next a.flags 2 7 c.requires second c.put_setting-weakens.ensures.behind c.put_setting-weakens.ensures.written in
    let fourth = flagging_next a.flags 3 6 c.requires third c.put_setting-disables.ensures.behind c.put_setting-disables.ensures.written in
    let fifth = flagging_next a.flags 4 5 c.requires fourth c.put_setting-dominion.ensures.behind c.put_setting-dominion.ensures.written in
    let sixth = flagging_next a.flags 5 4 c.requires fifth c.put_setting-coerces.ensures.behind c.put_setting-coerces.ensures.written in
    let seventh = flagging_next a.flags 6 3 c.requires sixth c.put_setting-deceives.ensures.behind c.put_setting-deceives.ensures.written in
    let eighth = flagging_next a.flags 7 2 c.requires seventh c.put_setting-modification.ensures.behind c.put_setting-modification.ensures.written in
    let ninth = flagging_next a.flags 8 1 c.requires eighth c.put_setting-reduces.ensures.behind c.put_setting-reduces.ensures.written in
    let tenth = flagging_next a.flags 9 0 c.requires ninth c.put_setting.ensures.behind c.put_setting.ensures.written in
    let all = flagging_done a.flags 10 tenth in
    record { behind = all.0; written = all.1 }
