-- What is proved of the plain gate (02, T-06). Assumes nothing.
use Rattle.std.proofs.Common.{◌≡◌, true, not, map, ℕ}
use Rattle.register.specs.Register.{claims_of}
use Rattle.register.specs.Chain.{latest, hops_of, live}
use Rattle.register.specs.declared.Register.{Register}
use Rattle.soundness_rules.specs.Sound.{sound}
use Rattle.actions.specs.declared.Usage.{Usage}
use Rattle.actions.specs.declared.Action.{Action}
use Rattle.actions.specs.declared.Plan.{Plan}
use Rattle.gate_rules.specs.Gate.{covers, relied, hops_for, gated}
use Rattle.gate_rules.specs.Plans.{planned}
use Rattle.coverage_table.specs.Table.{paper_of, cover_table, looked_up, is_nothing, entry_claim, entry_hops, plainly_gated, plainly_planned}
use Rattle.coverage_table.proofs.Filling as filling
use Rattle.coverage_table.proofs.Uses as uses
use Rattle.coverage_table.proofs.Sameness as sameness

-- 1. In a sound register the remark on a claim is its hop count and whether it is live, by its chain among all claims.
pub remarks_natural : (r : Register) → sound r ≡ true → (moment x : ℕ)
    → (paper_of r moment x).remarks
    ≡ map (λ c. record { claim = c; hops = hops_of (latest (claims_of r.claims)) c; lives = live moment (latest (claims_of r.claims)) c })
    (latest (claims_of r.claims))
remarks_natural r h moment x = filling.remarks_standing r moment x h

-- 2a. In a sound register the claim in the cell of a use is the one relied on.
pub cell_natural : (r : Register) → sound r ≡ true → (moment x : ℕ) (u : Usage) → entry_claim (looked_up (cover_table r moment x) u) ≡ relied r moment x u
cell_natural r h moment x u = (uses.lookup_answers r h moment x u).claim

-- 2b. Its hop count is that of the use.
pub cell_hops_lem : (r : Register) → sound r ≡ true → (moment x : ℕ) (u : Usage) → entry_hops (looked_up (cover_table r moment x) u) ≡ hops_for r moment x u
cell_hops_lem r h moment x u = (uses.lookup_answers r h moment x u).hops

-- 2c. It has nothing exactly where x does not cover the use.
pub cell_nothing : (r : Register) → sound r ≡ true → (moment x : ℕ) (u : Usage) → is_nothing (looked_up (cover_table r moment x) u) ≡ not (covers r moment x u)
cell_nothing r h moment x u = (uses.lookup_answers r h moment x u).lacks

-- 3. The plain gate gives the gate's answer, for every register and action.
pub plain_gate_same : (r : Register) (a : Action) → plainly_gated r a ≡ gated r a
plain_gate_same = sameness.gate_same

-- 4. And for every plan.
pub plain_plan_same : (r : Register) (p : Plan) → plainly_planned r p ≡ planned r p
plain_plan_same = sameness.plan_same
