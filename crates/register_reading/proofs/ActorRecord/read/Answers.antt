-- Three lines one behind the other.
use Rattle.std.proofs.Common.{[], sym}
use Rattle.register.specs.Limits.{id_limit}
use Rattle.lines.specs.Reading.{number, kind}
use Rattle.lines.specs.Answers.{state_of}
use Rattle.text_rules.specs.Keys.{actor_key, owner_key}
use Rattle.register_reading.specs.Runs.{run_none, run_next}
use Rattle.register_reading.proofs.ActorRecord.read.Goals as goal

pub returns : goal.returns
returns c =
    let args = c.args in
    let s = args.s.now in
    let id = c.read_number-id in
    let sort = c.read_kind-kind in
    let owner = c.read_number-owner in
    let end = state_of s owner.result.cursor in
    let run =
    run_next s (number actor_key 1 id_limit) _ (state_of s args.c) id.result _ end id.ensures
    (run_next s kind _ (state_of s id.result.cursor) sort.result _ end sort.ensures
    (run_next s (number owner_key 0 id_limit) [] (state_of s sort.result.cursor) owner.result [] end owner.ensures (run_none s end))) in
    record { got = rw run.got; stands = sym run.stands }
