-- What is proved of the numbers that the cover table is shown as (02, T-06). Assumes nothing.
use Rattle.std.proofs.Common.{Err, Ok, ◌≡◌, true, not, List, [], ◌∷◌, ℕ, ◌<◌, eqb, length}
use Rattle.register.specs.Limits.{claim_limit}
use Rattle.register.specs.Register.{claims_of}
use Rattle.register.specs.declared.Claim.{Claim}
use Rattle.register.specs.declared.Register.{Register}
use Rattle.soundness_rules.specs.Sound.{sound}
use Rattle.actions.specs.declared.Usage.{Usage}
use Rattle.gate_rules.specs.Gate.{covers, relied}
use Rattle.gate_rules.specs.Authority.{IsIn}
use Rattle.coverage_table.specs.Table.{Remark, remark_on, cover_table, looked_up}
use Rattle.refusals.specs.Refusals.{outcome_of}
use Rattle.refusals.specs.declared.Refusal.{Refusal}
use Rattle.table_showing.specs.Shown.{remark_number, entry_number, nothing_number, table_tests, table_none, table_held, table_shown}
use Rattle.table_showing.proofs.Numbering as numbering

-- 1. A remark is shown as 1 exactly where its claim lives.
pub remark_number_lem : (moment : ℕ) (earlier : List Remark) (c : Claim) → eqb (remark_number moment (remark_on moment earlier c)) 1 ≡ (remark_on moment earlier c).lives
remark_number_lem = numbering.remark_number_lem

-- 2. In a sound register a cell is shown as 257 exactly where x does not cover the use.
pub cell_number_nothing : (r : Register) → sound r ≡ true → (moment x : ℕ) (u : Usage)
    → eqb (entry_number r (looked_up (cover_table r moment x) u)) nothing_number ≡ not (covers r moment x u)
cell_number_nothing = numbering.cell_number_nothing

-- 3. Where a claim is relied on it is shown as its place among the claims, which is below 256.
pub cell_number_claim : (r : Register) → sound r ≡ true → (moment x : ℕ) (u : Usage) (c : Claim) → relied r moment x u ≡ c ∷ []
    → (at : IsIn (claims_of r.claims) c) × (entry_number r (looked_up (cover_table r moment x) u) ≡ length at.before) × (length at.before < claim_limit)
cell_number_claim = numbering.cell_number_claim

-- 4a. A call that a test refuses shows the refusal, no owner, no number of a claim and nothing in every cell.
pub table_refused : (r : Register) (x moment : ℕ) (why : Refusal) → outcome_of (table_tests r x moment) ≡ Err why
    → table_shown r x moment ≡ table_none (Err why)
table_refused = numbering.table_refused

-- 4b. Any other shows the remarks on all claims, and the cells of the actor and of its owner.
pub table_accepted : (r : Register) (x moment : ℕ) → outcome_of (table_tests r x moment) ≡ Ok tt → table_shown r x moment ≡ table_held r x moment
table_accepted = numbering.table_accepted
