-- The claims before place `i` are stored, those from there on are as they came, and the hops of those stored are kept, by the places of their parents
-- (Storing).
use Rattle.std.proofs.Common.{◌≡◌, refl, arith, rules, length}
use Rattle.lists.specs.Loops.{length_mapped}
use Rattle.register.specs.Limits.{claim_limit}
use Rattle.register_reading.proofs.Storing.{places_told, storing_start, steps_low, storing_next}
use Rattle.register_reading.proofs.stored_claims.Goals as goal

pub loop-i-init : goal.loop-i-init
loop-i-init c =
    let k = c.args.k in
    let long : length k.list ≡ claim_limit = search (rules, length_mapped) in (
      c.requires,
      long,
      places_told k.list k.count c.links_of-drawn.ensures c.earlier_places-earlier.ensures,
      storing_start c.args.version k.list k.count _ (search rules),
    )

-- the hops of a claim are no more than its place
pub overflow_cast-hops : goal.overflow_cast-hops
overflow_cast-hops c =
    let inv = c.loop-i.invariant in
    let test = c.loop-i-test in
    omega (arith, steps_low inv.3 inv.0 inv.1 test.true inv.2 refl c.hops_by-steps.ensures, test.true, inv.0)

pub loop-i-preserved : goal.loop-i-preserved
loop-i-preserved c =
    let inv = c.loop-i.invariant in
    let test = c.loop-i-test in
    (inv.0, inv.1, inv.2, storing_next inv.3 inv.0 inv.1 test.true inv.2 refl c.hops_by-steps.ensures c.stored.ensures)
