-- Its lines one behind the other, in version 2 one more.
use Rattle.std.proofs.Common.{◌-◌, ◌^◌, sym}
use Rattle.rights.specs.Rights.{right_count}
use Rattle.register.specs.Limits.{id_limit, weight_limit}
use Rattle.lines.specs.Reading.{number}
use Rattle.lines.specs.Answers.{state_of}
use Rattle.text_rules.specs.Keys.{claim_key, parent_key, grantor_key, holder_key, resource_key, rights_key, weight_key}
use Rattle.register_reading.specs.Runs.{run_next, run_left, claim_told}
use Rattle.register_reading.proofs.ClaimRecord.read.Goals as goal

pub returns : goal.returns
returns c =
    let args = c.args in
    let s = args.s.now in
    let id = c.read_number-id in
    let parent = c.read_number-parent in
    let grantor = c.read_number-grantor in
    let holder = c.read_number-holder in
    let resource = c.read_number-resource in
    let rights = c.read_number-rights in
    let weight = c.read_number-weight in
    let left = c.read_left-left in
    let expiry = c.read_number-expiry in
    let end = state_of s expiry.result.cursor in
    let read =
    run_next s (number claim_key 1 id_limit) _ (state_of s args.c) id.result _ end id.ensures
    (run_next s (number parent_key 0 id_limit) _ (state_of s id.result.cursor) parent.result _ end parent.ensures
    (run_next s (number grantor_key 1 id_limit) _ (state_of s parent.result.cursor) grantor.result _ end grantor.ensures
    (run_next s (number holder_key 1 id_limit) _ (state_of s grantor.result.cursor) holder.result _ end holder.ensures
    (run_next s (number resource_key 1 id_limit) _ (state_of s holder.result.cursor) resource.result _ end resource.ensures
    (run_next s (number rights_key 1 (2 ^ right_count - 1)) _ (state_of s resource.result.cursor) rights.result _ end rights.ensures
    (run_next s (number weight_key 0 weight_limit) _ (state_of s rights.result.cursor) weight.result _ end weight.ensures
    (run_left args.version s (state_of s weight.result.cursor) left.result left.ensures expiry.result expiry.ensures))))))) in
    record {
      got = rw read.got (sym (claim_told args.version s (state_of s weight.result.cursor) left.result left.ensures
          id.result.value parent.result.value grantor.result.value holder.result.value resource.result.value rights.result.value weight.result.value
          expiry.result.value));
      stands = sym read.stands;
    }
