-- The lines of the numbers are put one behind the other, then that of the path.
use Rattle.std.proofs.Common.{◌+◌, ◌≤◌, arith, length, length-append}
use Rattle.register.specs.Register.{path_of}
use Rattle.lines.specs.Lines.{scope_line}
use Rattle.text_rules.specs.Records.{lines_text}
use Rattle.text_rules.specs.Registers.{resource_forms, resource_numbers, resource_text}
use Rattle.buffers.specs.Laws.{writing_start, writing_next, writing_left, writing_last}
use Rattle.register_writing.proofs.Lining.{lining_start, lining_next, lining_done}
use Rattle.register_writing.proofs.put_resource.Goals as goal

pub put_scope-requires : goal.put_scope-requires
put_scope-requires c =
    let a = c.args in
    let lines = lines_text resource_forms (resource_numbers a.o) in
    let scope = scope_line (path_of a.o) in
    let room : a.at + length lines ≤ length a.buf.now = omega (arith, c.requires.0, length-append lines scope) in
    let start = lining_start resource_forms (resource_numbers a.o) a.at a.buf.now in
    let first = lining_next room start c.put_line-public_at.ensures.behind c.put_line-public_at.ensures.written in
    let second = lining_next room first c.put_line-keeper_at.ensures.behind c.put_line-keeper_at.ensures.written in
    let all = lining_done (lining_next room second c.put_line-scope_at.ensures.behind c.put_line-scope_at.ensures.written) in
    let numbered = writing_next lines scope c.requires.0 (writing_start a.at (resource_text a.o) a.buf.now) all.0 all.1 in
    (writing_left c.requires.0 numbered, c.requires.1)

pub returns : goal.returns
returns c =
    let a = c.args in
    let lines = lines_text resource_forms (resource_numbers a.o) in
    let scope = scope_line (path_of a.o) in
    let room : a.at + length lines ≤ length a.buf.now = omega (arith, c.requires.0, length-append lines scope) in
    let start = lining_start resource_forms (resource_numbers a.o) a.at a.buf.now in
    let first = lining_next room start c.put_line-public_at.ensures.behind c.put_line-public_at.ensures.written in
    let second = lining_next room first c.put_line-keeper_at.ensures.behind c.put_line-keeper_at.ensures.written in
    let all = lining_done (lining_next room second c.put_line-scope_at.ensures.behind c.put_line-scope_at.ensures.written) in
    let numbered = writing_next lines scope c.requires.0 (writing_start a.at (resource_text a.o) a.buf.now) all.0 all.1 in
    let text = writing_last c.requires.0 numbered c.put_scope.ensures.behind c.put_scope.ensures.written in
    record { behind = text.0; written = text.1 }
