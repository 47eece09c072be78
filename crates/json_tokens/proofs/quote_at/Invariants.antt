-- From `at` up to `i` there is no quote, and what the quotes close behind that is found from `i` on.
use Rattle.std.proofs.Common.{◌≡◌, ◌++◌, drop}
use Rattle.json_tokens.specs.Tokens.{quoted, closing}
use Rattle.json_tokens.specs.Answers.{part}
use Rattle.json_tokens.proofs.quote_at.Given as goal

abbrev pub invariant-loop-i : goal.invariant-loop-i
invariant-loop-i l =
    (quoted (drop l.at l.s) ≡ part l.at l.i l.s ++ quoted (drop l.i l.s)) × (closing (drop l.at l.s) ≡ closing (drop l.i l.s))
