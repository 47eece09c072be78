-- The halving of how many claims are judged, and the fault of the claim that it finds. Assumes nothing.
use Rattle.std.proofs.Common.{Err, Ok, ◌≡◌, sym, ap, ◌∙◌, List, ℕ, suc, ◌≤◌, ◌<◌, arith, take}
use Rattle.register.specs.Limits.{claim_limit}
use Rattle.register.specs.Register.{actors_of, resources_of}
use Rattle.register.specs.Chain.{latest}
use Rattle.register.specs.declared.Actors.{Actors}
use Rattle.register.specs.declared.Resources.{Resources}
use Rattle.columns.specs.Sheet.{claim_at, claims_in}
use Rattle.columns.specs.SheetLaws.{claims_in_length, claims_in_at}
use Rattle.soundness_rules.specs.Sound.{world_of}
use Rattle.soundness.specs.Judged.{register_by}
use Rattle.refusals.specs.Refusals.{outcome_of}
use Rattle.refusals.proofs.Laws.{outcome_clash}
use Rattle.refusals.specs.declared.Refusal.{Refusal}
use Rattle.faults.specs.Faults.{claim_tests, told_fault, fault_numbers, first_fault, fault_of, of_claim}
use Rattle.faults.proofs.Halving.{between_found}
use Rattle.fault_finding.specs.Asked.{Turning}

module _ (version : ℕ) (a : Actors) (o : Resources) (s : List ℕ) where
  -- the claim between them is told
  module _ (at n : ℕ) (t : Turning version a o s at (suc at)) (inside : at < n) (few : n ≤ claim_limit) where
    abbrev behind : Refusal → Type 0
    behind why = outcome_of (claim_tests (world_of version (actors_of a) (resources_of o)) (latest (take at (claims_in s))) (claim_at s at)) ≡ Err why

    between : (why : Refusal) × behind why × (first_fault (register_by version a o s n) ≡ of_claim record { why = why; place = at; what = claim_at s at })
    between =
        rw (claims_in_at s at) at (between_found (register_by version a o s n) at few inside (omega (arith, inside, few, claims_in_length s)) t.holds t.fails)

    pub claim_told : {why : Refusal} → behind why → told_fault why 3 at (claim_at s at).id ≡ fault_of (register_by version a o s n)
    unfolding fault_of
    claim_told {why} e =
        let found = between in
        let same : why ≡ found.0 = cc (sym e ∙ found.1) in
        ap (λ w. told_fault w 3 at (claim_at s at).id) same ∙ ap fault_numbers (sym found.2)

    pub claim_clash : {B : Type 0} → outcome_of (claim_tests (world_of version (actors_of a) (resources_of o)) (latest (take at (claims_in s))) (claim_at s at)) ≡ Ok tt → B
    claim_clash e = outcome_clash (sym between.1 ∙ e)
