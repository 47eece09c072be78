-- Working: How many bytes a printed answer has at the most; the contract of putting it together ties it to `plan_printed`.
use Rattle.std.specs.Prelude.{ℕ}

-- no text is longer: the plan's line, the number of verdicts, and 64 that each name at most 51 violations
abbrev pub plan_printed_limit : ℕ
plan_printed_limit = 1944
