-- Past the last kind nothing is put.
use Rattle.std.proofs.Common.{ℕ, ◌≤◌, ◌≡◌, List, [], arith, add-zero, leb, length}
use lib.ListN.{get_or-eq_default}
use Rattle.lists.specs.Tests.{cases}
use Rattle.lists.specs.Splices.{splice_nil}
use Rattle.rights.specs.Rights.{right_count}
use Rattle.buffers.specs.Buffers.{put}
use Rattle.json_rules.specs.Names.{kind_names}
use Rattle.json_writing.specs.Pieces.{kind_text}
use Rattle.json_writing.proofs.put_kind.Goals as goal

unnamed : (kind at : ℕ) (old : List ℕ) → right_count ≤ kind → old ≡ put at (kind_text kind) old
unnamed kind at old past =
    rw (get_or-eq_default kind_names [] past, add-zero, splice_nil) (cases (leb at (length old)) (λ e. rw e) (λ e. rw e))

pub returns-in_default-clause-written : goal.returns-in_default-clause-written
returns-in_default-clause-written c = unnamed c.args.kind c.args.at c.args.buf.now (omega arith)
