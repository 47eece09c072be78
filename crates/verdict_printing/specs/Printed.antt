-- Believed: The lines that 01's program prints, of the two texts that it reads, and those of the JSON program, of three.
use Rattle.std.specs.Prelude.{ℕ, ◌-◌, List, ◌++◌, map, take, ◌≡◌, Result, Err, Ok}
use Rattle.lists.specs.Bytes.{bytes}
use Rattle.register.specs.Limits.{moment_end}
use Rattle.register.specs.declared.Register.{Register}
use Rattle.refusals.specs.Refusals.{number_of}
use Rattle.refusals.specs.declared.Refusal.{Refusal}
use Rattle.refusals.specs.declared.Refusal.TheVariants.{Range}
use Rattle.actions.specs.Actions.{kind_of, value_of}
use Rattle.actions.specs.declared.Violation.{Violation}
use Rattle.actions.specs.declared.Violations.{Violations}
use Rattle.actions.specs.declared.Decision.{Decision}
use Rattle.actions.specs.declared.Decision.TheVariants.{Permitted, Refused, Stopped}
use Rattle.actions.specs.declared.Verdict.{Verdict}
use Rattle.gate_rules.specs.Gate.{gated}
use Rattle.lines.specs.Lines.{decimal_line}
use Rattle.lines.specs.Reading.{State, going, failed, Read, decimal, read_form, closed}
use Rattle.text_rules.specs.Keys.{now_key}
use Rattle.text_rules.specs.Records.{texts}
use Rattle.text_rules.specs.Registers.{register_read}
use Rattle.text_rules.specs.Actions.{action_read}
use Rattle.json_rules.specs.Actions.{json_read}

-- the fixed lines, and the keys of the others
abbrev pub permitted_line : List ℕ
permitted_line = bytes "verdict=permitted\n"

abbrev pub refused_line : List ℕ
refused_line = bytes "verdict=refused\n"

abbrev pub stopped_line : List ℕ
stopped_line = bytes "verdict=stopped\n"

abbrev pub violations_key : List ℕ
violations_key = bytes "violations="

abbrev pub violation_key : List ℕ
violation_key = bytes "violation="

abbrev pub at_key : List ℕ
at_key = bytes "at="

abbrev pub refusal_key : List ℕ
refusal_key = bytes "refusal="

-- the violations of a verdict
abbrev pub violations_in : Violations → List Violation
violations_in vs = map (λ v. v.what) (take vs.count vs.list)

-- each violation has its pair `violation=` and `at=`, the latter the flag, actor or position named
unfoldable pub pair_text : Violation → List ℕ
pair_text v = decimal_line violation_key (kind_of v) ++ decimal_line at_key (value_of v)

-- the number of violations, and the pair of each
unfoldable pub list_text : Violations → List ℕ
list_text vs = decimal_line violations_key vs.count ++ texts pair_text (violations_in vs)

-- a refusal prints `verdict=stopped` and `refusal=` with its number
unfoldable pub stopped_text : Refusal → List ℕ
stopped_text why = stopped_line ++ decimal_line refusal_key (number_of why)

-- permitted prints `verdict=permitted` and `violations=0`
abbrev pub verdict_lines : Decision → Violations → List ℕ
verdict_lines Permitted vs = permitted_line ++ list_text vs
verdict_lines Refused vs = refused_line ++ list_text vs
verdict_lines (Stopped why) vs = stopped_text why

unfoldable pub verdict_text : Verdict → List ℕ
verdict_text v = verdict_lines v.decision v.violations

-- the lines that are said of a text, or those of its refusal
abbrev pub unless_refused : (Refusal → List ℕ) → Result Unit Refusal → List ℕ → List ℕ
unless_refused stopped (Ok _) lines = lines
unless_refused stopped (Err why) lines = stopped why

-- what the program prints of a register's text, then an action's; the first refusal stops
unfoldable pub printed : List ℕ → List ℕ → List ℕ
printed register action =
    unless_refused stopped_text (register_read register).outcome
    (unless_refused stopped_text (action_read action).outcome (verdict_text (gated (register_read register).register (action_read action).action)))

-- a clock that is no line `now=`, or not that line alone, is 19; a moment above its limit is the 2 of reading at it
abbrev pub clock_read : List ℕ → Read ℕ
clock_read clock = read_form (decimal now_key 0 (moment_end - 1) Range) (going clock 1)

-- the clock's text, then the JSON action's, judged by a register that was read
abbrev pub clock_lines : Register → State → ℕ → List ℕ → List ℕ
clock_lines r (going t l) moment action = unless_refused stopped_text (json_read action moment).outcome (verdict_text (gated r (json_read action moment).action))
clock_lines r (failed why l) moment action = stopped_text why

-- what the JSON program prints of a register's text, then a clock's, then a JSON action's; the first refusal stops
unfoldable pub json_printed : List ℕ → List ℕ → List ℕ → List ℕ
json_printed register clock action =
    unless_refused stopped_text (register_read register).outcome
    (clock_lines (register_read register).register (closed (clock_read clock).state) (clock_read clock).value action)

-- no verdict's text is longer: the verdict, the number of violations, and 51 pairs that each name a number of 16 bits
abbrev pub printed_limit : ℕ
printed_limit = 1103

-- both texts are read
pub record Heard (register action : List ℕ) : Type 0 where
  pub registered : (register_read register).outcome ≡ Ok tt
  pub posed : (action_read action).outcome ≡ Ok tt
