-- Each use is that of its list's number, with that list's right.
use Rattle.std.proofs.Common.{◌+◌, ◌-◌, ◌≡◌, ◌∙◌, ◌++◌, arith, take, get_or, set, replicate}
use Rattle.actions.specs.Actions.{no_use, use_limit}
use Rattle.actions.specs.declared.Usage.{Usage}
use Rattle.json_reading.specs.Answers.{uses_taken, uses_from}
use Rattle.json_reading.proofs.Fillings.{filled_next, filled_whole, uses_length, read_at, write_at, execute_at}
use Rattle.json_reading.proofs.uses_of.Lts.{then-i-reads, else-i-reads+then-i-reads-2, else-i-reads+else-i-reads-2}
use Rattle.json_reading.proofs.uses_of.Goals as goal

pub loop-i-preserved : goal.loop-i-preserved
loop-i-preserved c =
    let a = c.args in
    let xs = uses_taken a.numbers.now a.reads a.writes a.executes in
    let long = uses_length a.numbers.now a.reads a.writes a.executes c.requires.0 c.requires.1 in
    let next : (x : Usage) → x ≡ get_or xs c.loop-i.i no_use →
    set c.loop-i.uses c.loop-i.i x ≡ take (c.loop-i.i + 1) xs ++ replicate (use_limit - (c.loop-i.i + 1)) no_use =
    λ x e. filled_next xs use_limit c.loop-i.i no_use x c.loop-i.uses (omega arith) (omega arith) c.loop-i.invariant.1 e in (
      omega arith,
      elim c.if-i-reads.branch [
        | then-i-reads w ↦
            w.uses-is ∙ next _ (read_at a.numbers.now a.reads a.writes a.executes c.requires.0 c.requires.1 c.loop-i.i w.if-i-reads.true)
        | else-i-reads+then-i-reads-2 w ↦
            w.uses-is ∙ next _ (write_at a.numbers.now a.reads a.writes a.executes c.requires.0 c.requires.1 c.loop-i.i w.if-i-reads.false w.if-i-reads-2.true)
        | else-i-reads+else-i-reads-2 w ↦
            w.uses-is ∙ next _ (execute_at a.numbers.now a.reads a.writes a.executes c.requires.0 c.requires.1 c.loop-i.i w.if-i-reads-2.false (omega arith))
      ],
    )

pub returns : goal.returns
unfolding uses_from
returns c =
    let a = c.args in
    let long = uses_length a.numbers.now a.reads a.writes a.executes c.requires.0 c.requires.1 in
    filled_whole (uses_taken a.numbers.now a.reads a.writes a.executes) use_limit c.loop-i.i no_use c.loop-i.uses
    (omega arith) (omega arith) c.loop-i.invariant.1
