-- Without the blanks at its front, the text from `i` on is the text from `at` on.
use Rattle.std.proofs.Common.{◌≡◌, drop}
use Rattle.json_tokens.specs.Tokens.{unblanked}
use Rattle.json_tokens.proofs.blanks_end.Given as goal

abbrev pub invariant-loop-i : goal.invariant-loop-i
invariant-loop-i l = unblanked (drop l.at l.s) ≡ unblanked (drop l.i l.s)
