-- Working: What the code puts for the two programs, by whether the action's text is JSON; the contract of `compose` ties it to `printed` and
-- `json_printed`.
use Rattle.std.specs.Prelude.{ℕ, Bool, cond, List}
use Rattle.register.specs.declared.Register.{Register}
use Rattle.gate_rules.specs.Gate.{gated}
use Rattle.lines.specs.Reading.{closed}
use Rattle.text_rules.specs.Actions.{action_read}
use Rattle.verdict_printing.specs.Printed.{stopped_text, verdict_text, unless_refused, printed, clock_read, clock_lines, json_printed}

-- of the texts behind a register that was read
abbrev pub lines_by : Bool → Register → List ℕ → List ℕ → List ℕ
lines_by json r clock action =
    cond json (clock_lines r (closed (clock_read clock).state) (clock_read clock).value action)
    (unless_refused stopped_text (action_read action).outcome (verdict_text (gated r (action_read action).action)))

-- of all texts
abbrev pub printed_by : Bool → List ℕ → List ℕ → List ℕ → List ℕ
printed_by json register clock action = cond json (json_printed register clock action) (printed register action)
