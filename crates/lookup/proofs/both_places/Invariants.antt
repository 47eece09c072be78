-- The invariant of the loop of `lookup::both_places`: both arrays are filled from the front (Filling), and what the table tells of its numbers is
-- kept.
use Rattle.std.proofs.Common.{◌≡◌, min, get_or}
use Rattle.register.specs.Limits.{claim_limit}
use Rattle.columns.specs.Columns.{latest_place}
use Rattle.lookup.specs.Finding.{place_number}
use Rattle.lookup.proofs.Filling.{Filling}
use Rattle.lookup.proofs.both_places.Given as goal

abbrev pub invariant-loop-i : goal.invariant-loop-i
invariant-loop-i l =
    Filling (λ j. place_number claim_limit (latest_place l.column (min l.n claim_limit) (get_or l.wanted j 0))) l.top l.i l.places.first
    × Filling (λ j. place_number claim_limit (latest_place l.column (min l.n claim_limit) (get_or l.other j 0))) l.top l.i l.places.second
    × (l.places.distinct ≡ l.table.distinct)
