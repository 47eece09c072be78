-- The lines of an action from the first line on, and nothing behind them.
use Rattle.std.proofs.Common.{ℕ, ◌≡◌, ◌∙◌, List}
use Rattle.actions.specs.declared.Action.{Action}
use Rattle.lines.specs.Reading.{State, going, closed}
use Rattle.lines.specs.Answers.{state_of}
use Rattle.lines.specs.declared.Cursor.{Cursor}
use Rattle.text_rules.specs.Actions.{read_action, action_of, action_read, action_ending}
use Rattle.text_rules.specs.declared.ActionRead.{ActionRead}
use Rattle.register_reading.specs.Reads.{Reads}
use Rattle.register_reading.specs.Runs.{run_start}
use Rattle.action_reading.proofs.read_action.Goals as goal

closing : (t : List ℕ) (st end : State) (a : Action) (behind : Cursor) (answer : ActionRead) → st ≡ going t 1 → Reads t a behind (read_action st) →
    end ≡ closed (state_of t behind) → answer ≡ action_ending a end → answer ≡ action_read t
unfolding action_read action_of
closing t st end a behind answer first reads e answered = answered ∙ rw (e, reads.stands, reads.got, first)

pub returns : goal.returns
returns c =
    let s = c.args.text.now in
    let begun = c.start in
    let form = c.read_lines-form in
    let finished = c.finish-end in
    closing s (state_of s begun.result) (state_of s finished.result) form.result.action form.result.cursor c.answer.result
    (run_start s begun.result begun.ensures) form.ensures finished.ensures c.answer.ensures
