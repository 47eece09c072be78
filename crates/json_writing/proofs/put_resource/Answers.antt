-- The opening quote, the number and the closing quote are put one behind the other.
use Rattle.std.proofs.Common.{[], ◌∷◌, ◌++◌}
use Rattle.decimals.specs.Decimals.{digits}
use Rattle.buffers.specs.Laws.{writing_start, writing_put}
use Rattle.json_tokens.specs.Tokens.{quote}
use Rattle.json_writing.specs.Pieces.{opening_text, resource_entry}
use Rattle.json_writing.proofs.Joining.{put_last}
use Rattle.json_writing.proofs.put_resource.Goals as goal

pub returns : goal.returns
unfolding resource_entry
returns c =
    let a = c.args in
    let opening = opening_text a.first in
    let number = digits a.resource in
    let start = writing_start a.at (resource_entry a.first a.resource) a.buf.now in
    let first = writing_put opening (number ++ (quote ∷ [])) c.requires start c.put_opening-number_at.ensures.behind c.put_opening-number_at.ensures.written in
    let second = writing_put number (quote ∷ []) c.requires first c.put_number-end.ensures.behind c.put_number-end.ensures.written in
    let both = put_last c.requires second c.put_bytes.ensures.behind c.put_bytes.ensures.written in
    record { behind = both.0; written = both.1 }
