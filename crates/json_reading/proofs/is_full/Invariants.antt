-- The keys so far were seen.
use Rattle.std.proofs.Common.{ℕ, ◌≤◌, ◌<◌, ◌≡◌, true, false, get_or}
use Rattle.json_rules.specs.Names.{domain_place}
use Rattle.json_reading.proofs.is_full.Given as goal

abbrev pub invariant-loop-there : goal.invariant-loop-there
invariant-loop-there l = (l.there-index ≤ domain_place) × ((k : ℕ) → k < l.there-index → get_or l.fn.seen k false ≡ true)
