-- What is proved of the line at which a text is refused. Assumes nothing.
use Rattle.std.proofs.Common.{ℕ, ◌≤◌, ◌≡◌, List}
use Rattle.text_rules.specs.FirstLines.{first_lines}
use Rattle.text_rules.specs.Registers.{register_read}
use Rattle.text_rules.specs.Actions.{action_read}
use Rattle.text_rules.proofs.Failing as failing

-- 1a. The failing line decides: a text that is the same up to and with that line gets the same answer.
pub line_decides : (t u : List ℕ) → 1 ≤ (register_read t).line → first_lines (register_read t).line t ≡ first_lines (register_read t).line u
    → register_read u ≡ register_read t
line_decides = failing.line_decides

-- 1b. So with an action.
pub action_line_decides : (t u : List ℕ) → 1 ≤ (action_read t).line → first_lines (action_read t).line t ≡ first_lines (action_read t).line u
    → action_read u ≡ action_read t
action_line_decides = failing.action_line_decides
