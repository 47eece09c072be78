-- The part of the text from `at` on is taken whole.
use Rattle.std.proofs.Common.{◌≤◌, ◌-◌, ◌∙◌, length, drop, arith, length-drop, take_all}
use Rattle.lines.proofs.Walks.{begins_starts}
use Rattle.lines.proofs.has_key.Goals as goal

pub returns : goal.returns
returns c =
    let rest = drop c.args.at c.args.s.now in
    let within : length rest ≤ length c.args.s.now - c.args.at = omega (arith, length-drop c.args.at c.args.s.now) in
    rw (take_all _ rest within) at (c.starts_with.ensures.value ∙ begins_starts c.args.key.now _)
