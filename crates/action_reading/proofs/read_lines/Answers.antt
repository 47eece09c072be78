-- The parts one behind the other, each from where the one before it ended.
use Rattle.std.proofs.Common.{ℕ, ◌-◌, ◌^◌, ◌≡◌, List, [], ◌∷◌, ◌++◌, length, replicate}
use Rattle.register.specs.Limits.{id_limit, moment_end}
use Rattle.actions.specs.Actions.{no_use, use_limit, govern_limit, flag_count}
use Rattle.actions.specs.declared.Usage.{Usage}
use Rattle.lines.specs.Reading.{State, number}
use Rattle.lines.specs.Answers.{state_of}
use Rattle.lines.specs.declared.Cursor.{Cursor}
use Rattle.text_rules.specs.Keys.{now_key, actor_key, flags_key}
use Rattle.text_rules.specs.Actions.{head_forms, read_uses, read_governs, read_action}
use Rattle.register_reading.specs.Reads.{Reads}
use Rattle.register_reading.specs.Runs.{Run, run_none, run_next}
use Rattle.action_reading.proofs.read_lines.Goals as goal

-- the parts, each from where the one before it ended
joined : (s : List ℕ) (st : State) (moment actor flags used governed : ℕ) (head usesEnd : State) (cursor : Cursor) (uses : List Usage) (governs : List ℕ) →
    Run s head_forms st (moment ∷ actor ∷ flags ∷ []) head →
    uses ≡ (read_uses head).value ++ replicate (use_limit - length (read_uses head).value) no_use → used ≡ length (read_uses head).value → usesEnd ≡ (read_uses head).state →
    governs ≡ (read_governs usesEnd).value ++ replicate (govern_limit - length (read_governs usesEnd).value) 0 → governed ≡ length (read_governs usesEnd).value →
    state_of s cursor ≡ (read_governs usesEnd).state →
    Reads s (record { actor = actor; flags = flags; now = moment; uses = uses; used = used; governs = governs; governed = governed }) cursor (read_action st)
unfolding read_action
joined s st moment actor flags used governed head usesEnd cursor uses governs run u n ue g m ge = record {
  got = rw (run.got, run.stands, g, m, ue, u, n);
  stands = rw (run.stands, ge, ue);
}

pub returns : goal.returns
returns c =
    let args = c.args in
    let s = args.s.now in
    let moment = c.read_number-moment in
    let actor = c.read_number-actor in
    let flags = c.read_number-flags in
    let uses = c.read_uses-first in
    let governs = c.read_governs-second in
    let end = state_of s flags.result.cursor in
    let run =
    run_next s (number now_key 0 (moment_end - 1)) _ (state_of s args.c) moment.result _ end moment.ensures
    (run_next s (number actor_key 0 id_limit) _ (state_of s moment.result.cursor) actor.result _ end actor.ensures
    (run_next s (number flags_key 0 (2 ^ flag_count - 1)) [] (state_of s actor.result.cursor) flags.result [] end flags.ensures (run_none s end))) in
    joined s (state_of s args.c) moment.result.value actor.result.value flags.result.value uses.result.used governs.result.governed end
    (state_of s uses.result.cursor) governs.result.cursor uses.result.uses governs.result.governs
    run uses.ensures.uses uses.ensures.used uses.ensures.state governs.ensures.governs governs.ensures.governed governs.ensures.state
