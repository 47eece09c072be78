-- The claims before place `i` are stored, those from there on are as they came, and the hops of those stored are kept, by the places of their parents
-- (Storing).
use Rattle.std.proofs.Common.{◌≡◌, map, ◌≤◌, length}
use Rattle.register.specs.Limits.{claim_limit}
use Rattle.columns.specs.Columns.{claim_id, parent_of}
use Rattle.lookup.specs.Finding.{earlier_places}
use Rattle.register_reading.proofs.Storing.{Storing}
use Rattle.register_reading.proofs.stored_claims.Given as goal

abbrev pub invariant-loop-i : goal.invariant-loop-i
invariant-loop-i l =
    (l.n ≤ claim_limit) × (length l.initial.list ≡ claim_limit) × (l.earlier.places ≡ earlier_places (map claim_id l.initial.list) (map parent_of l.initial.list) l.n)
    × Storing l.version l.initial.list l.n l.list l.hops l.i
