-- Each column is filled from the front (Linking).
use Rattle.register.specs.Limits.{claim_limit}
use Rattle.columns.specs.Columns.{claim_id, parent_of}
use Rattle.register_reading.proofs.Linking.{Linking}
use Rattle.register_reading.proofs.links_of.Given as goal

abbrev pub invariant-loop-i : goal.invariant-loop-i
invariant-loop-i l = Linking claim_id l.k.list claim_limit l.i l.found.ids × Linking parent_of l.k.list claim_limit l.i l.found.parents
