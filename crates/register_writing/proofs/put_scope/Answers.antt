-- The key, the path's bytes and LF are put one behind the other.
use Rattle.std.proofs.Common.{[], ◌∷◌, ◌++◌}
use Rattle.register.specs.Register.{path_of}
use Rattle.lines.specs.Lines.{scope_key, scope_line}
use Rattle.buffers.specs.Laws.{writing_start, writing_put, writing_done}
use Rattle.register_writing.proofs.put_scope.Goals as goal

pub returns : goal.returns
unfolding scope_line
returns c =
    let a = c.args in
    let path = path_of a.o in
    let start = writing_start a.at (scope_line path) a.buf.now in
    let first = writing_put scope_key (path ++ (10 ∷ [])) c.requires.0 start c.put_bytes-path_at.ensures.behind c.put_bytes-path_at.ensures.written in
    let second = writing_put path (10 ∷ []) c.requires.0 first c.put_bytes-end_at.ensures.behind c.put_bytes-end_at.ensures.written in
    let all = writing_done (writing_put (10 ∷ []) [] c.requires.0 second c.put_bytes.ensures.behind c.put_bytes.ensures.written) in
    record { behind = all.0; written = all.1 }
