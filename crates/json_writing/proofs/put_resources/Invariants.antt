-- The uses before `u` are written.
use Rattle.std.proofs.Common.{take}
use Rattle.json_writing.proofs.Listing.{Listing}
use Rattle.json_writing.proofs.put_resources.Given as goal

abbrev pub invariant-loop-u : goal.invariant-loop-u
invariant-loop-u l = Listing l.right (take l.top l.fn.a.uses) l.at l.initial.buf l.first l.u-index l.end l.buf
