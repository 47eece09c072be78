-- Without the key, or without a path behind it, the reading fails; else the path that was read is the line's.
use Rattle.std.proofs.Common.{◌+◌, sym, ◌∙◌, arith}
use Rattle.lines.specs.Lines.{scope_key}
use Rattle.lines.proofs.Walks.{begins_within, scope_none, scope_on}
use Rattle.lines.proofs.Cursors.{on_within, scope_fault, scope_behind, path_unread}
use Rattle.lines.proofs.read_scope.Goals as goal

pub returns-then-not-has_key : goal.returns-then-not-has_key
returns-then-not-has_key c =
    let a = c.args in
    scope_fault a.s.now a.c (sym c.goes_on.ensures ∙ c.if-not-goes_on.false) _ _
    (scope_none a.s.now a.c.at (sym c.has_key.ensures ∙ c.if-not-has_key.true)) c.failing.ensures c.no_scope-then-not-has_key.ensures

pub read_path-requires : goal.read_path-requires
read_path-requires c =
    let a = c.args in
    begins_within scope_key a.s.now a.c.at (on_within a.s.now a.c (sym c.goes_on.ensures ∙ c.if-not-goes_on.false))
    (sym c.has_key.ensures ∙ c.if-not-has_key.false)

pub returns-in-Some : goal.returns-in-Some
returns-in-Some c =
    let a = c.args in
    scope_behind a.s.now a.c (sym c.goes_on.ensures ∙ c.if-not-goes_on.false) (a.c.at + 6) c.in-Some.read _ _
    (scope_on a.s.now a.c.at (sym c.has_key.ensures ∙ c.if-not-has_key.false)) c.in-Some.ensures (omega arith) c.behind.ensures

pub returns-in-None : goal.returns-in-None
returns-in-None c =
    let a = c.args in
    scope_fault a.s.now a.c (sym c.goes_on.ensures ∙ c.if-not-goes_on.false) _ _
    (scope_on a.s.now a.c.at (sym c.has_key.ensures ∙ c.if-not-has_key.false) ∙ path_unread a.s.now (a.c.at + 6) _ c.in-None.ensures)
    c.failing-in-None.ensures c.no_scope-in-None.ensures
