-- Three lines one behind the other, then the path.
use Rattle.std.proofs.Common.{[]}
use Rattle.register.specs.Limits.{id_limit}
use Rattle.lines.specs.Reading.{number}
use Rattle.lines.specs.Answers.{state_of}
use Rattle.text_rules.specs.Keys.{resource_key, public_key, keeper_key}
use Rattle.register_reading.specs.Runs.{run_none, run_next}
use Rattle.register_reading.proofs.ResourceRecord.read.Goals as goal

pub returns : goal.returns
returns c =
    let args = c.args in
    let s = args.s.now in
    let id = c.read_number-id in
    let public = c.read_number-public in
    let keeper = c.read_number-keeper in
    let scope = c.read_scope-scope in
    let end = state_of s keeper.result.cursor in
    let read =
    run_next s (number resource_key 1 id_limit) _ (state_of s args.c) id.result _ end id.ensures
    (run_next s (number public_key 0 1) _ (state_of s id.result.cursor) public.result _ end public.ensures
    (run_next s (number keeper_key 1 id_limit) [] (state_of s public.result.cursor) keeper.result [] end keeper.ensures (run_none s end))) in
    record {
      got = rw (read.got, read.stands, ← scope.ensures.path, ← scope.ensures.len);
      stands = rw read.stands scope.ensures.state;
    }
