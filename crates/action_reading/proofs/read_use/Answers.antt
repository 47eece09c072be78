-- Two lines one behind the other.
use Rattle.std.proofs.Common.{◌-◌, [], sym}
use Rattle.rights.specs.Rights.{right_count}
use Rattle.register.specs.Limits.{id_limit}
use Rattle.lines.specs.Reading.{number}
use Rattle.lines.specs.Answers.{state_of}
use Rattle.text_rules.specs.Keys.{use_key, right_key}
use Rattle.register_reading.specs.Runs.{run_none, run_next}
use Rattle.action_reading.proofs.read_use.Goals as goal

pub returns : goal.returns
returns c =
    let args = c.args in
    let s = args.s.now in
    let resource = c.read_number-resource in
    let right = c.read_number-right in
    let end = state_of s right.result.cursor in
    let run =
    run_next s (number use_key 0 id_limit) _ (state_of s args.c) resource.result _ end resource.ensures
    (run_next s (number right_key 0 (right_count - 1)) [] (state_of s resource.result.cursor) right.result [] end right.ensures (run_none s end)) in
    record { got = rw run.got; stands = sym run.stands }
