-- The invariant of the loop of `lookup::places_of`: the array is filled from the front (Filling), and what the table tells of its numbers is kept.
use Rattle.std.proofs.Common.{◌≡◌, min, get_or}
use Rattle.register.specs.Limits.{claim_limit}
use Rattle.columns.specs.Columns.{latest_place}
use Rattle.lookup.specs.Finding.{place_number}
use Rattle.lookup.proofs.Filling.{Filling}
use Rattle.lookup.proofs.places_of.Given as goal

abbrev pub invariant-loop-i : goal.invariant-loop-i
invariant-loop-i l =
    Filling (λ j. place_number claim_limit (latest_place l.column (min l.n claim_limit) (get_or l.wanted j 0))) l.top l.i l.found.places
    × (l.found.distinct ≡ l.table.distinct)
