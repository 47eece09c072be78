-- When a claim is of the form, when a grant helps, and when a proposal passes, as the code asks it. Assumes nothing.
use Rattle.std.proofs.Common.{Err, Ok, ◌≡◌, ap, Bool, true, false, ◌&&◌, ◌||◌, ℕ, ◌<◌, eq-eqb, ne_eqb, ltb-true, eqb}
use mathlib.Core.Bool.{and-false, and-true}
use Rattle.lists.specs.Lists.{any}
use Rattle.rights.specs.Rights.{worth_of}
use Rattle.register.specs.Limits.{claim_limit}
use Rattle.register.specs.declared.Claim.{Claim}
use Rattle.register.specs.declared.Register.{Register}
use Rattle.refusals.specs.Refusals.{is_accepted}
use Rattle.refusals.specs.declared.Refusal.{Refusal}
use Rattle.change_rules.specs.Changes.{appended, granted}
use Rattle.change_rules.proofs.Grants.{grant_out}
use Rattle.granting.specs.Settled.{grant_outcome}
use Rattle.actions.specs.Actions.{one_use, is_permitted}
use Rattle.actions.specs.declared.Usage.{Usage}
use Rattle.actions.specs.declared.Action.{Action}
use Rattle.actions.specs.declared.Decision.{Decision}
use Rattle.gate_rules.specs.Gate.{gated}
use Rattle.proposals.specs.Proposals.{no_grant_kind, grant_kind, signers_of, permits, of_form, helping, passing, passing_grant}
use Rattle.proposals.specs.declared.Signers.{Signers}
use Rattle.proposals.specs.declared.Proposal.{Proposal}

module _ (x : ℕ) (u : Usage) (s : Signers) (c : Claim) where
  pub holder_other : (c.holder ≡ x → ⊥) → of_form x u s c ≡ false
  unfolding of_form
  holder_other h = simp (ne_eqb c.holder x h)

  pub resource_other : (c.resource ≡ u.resource → ⊥) → of_form x u s c ≡ false
  unfolding of_form
  resource_other h = simp (ne_eqb c.resource u.resource h, and-false)

  pub rights_other : (c.rights ≡ worth_of u.right → ⊥) → of_form x u s c ≡ false
  unfolding of_form
  rights_other h = simp (ne_eqb c.rights (worth_of u.right) h, and-false)

  -- with holder, resource and rights as asked the grantor decides
  pub grantor_decides : c.holder ≡ x → c.resource ≡ u.resource → c.rights ≡ worth_of u.right
      → of_form x u s c ≡ any (eqb c.grantor) (signers_of s)
  unfolding of_form
  grantor_decides held on single =
      simp (eq-eqb c.holder x held, eq-eqb c.resource u.resource on, eq-eqb c.rights (worth_of u.right) single, and-true)

-- whether the gate permits, by its decision
pub permits_by : (r : Register) (a : Action) (d : Decision) → d ≡ (gated r a).decision → is_permitted d ≡ permits r a
unfolding permits
permits_by r a d e = ap is_permitted e

taken : (r : Register) (c : Claim) (moment : ℕ) → (grant_outcome r c moment).outcome ≡ Ok tt → is_accepted (granted r c moment).outcome ≡ true
unfolding granted grant_outcome
taken r c moment e = ap is_accepted e

-- an accepted grant finds room
pub room_left : (r : Register) (c : Claim) (moment : ℕ) → (grant_outcome r c moment).outcome ≡ Ok tt → r.claims.count < claim_limit
room_left r c moment e = ltb-true r.claims.count claim_limit (grant_out r c moment (taken r c moment e)).room

module _ (r : Register) (x : ℕ) (u : Usage) (moment : ℕ) (c : Claim) where
  -- a refused grant helps nothing
  pub unhelped : (why : Refusal) → (grant_outcome r c moment).outcome ≡ Err why → helping r x u moment c ≡ false
  unfolding helping granted grant_outcome
  unhelped why e = rw e

  -- an accepted grant helps where the register with its claim permits the one use
  pub helped : (grant_outcome r c moment).outcome ≡ Ok tt
      → helping r x u moment c ≡ permits (appended r (grant_outcome r c moment).claim) (one_use x u moment)
  unfolding helping granted grant_outcome
  helped e = rw e

-- and so it is that a proposal passes
pub passing_by : (r : Register) (x : ℕ) (u : Usage) (moment : ℕ) (s : Signers) (p : Proposal) (already : Bool) → already ≡ permits r (one_use x u moment)
    → (eqb p.kind no_grant_kind && already) || (eqb p.kind grant_kind && passing_grant r x u moment s p.claim) ≡ passing r x u moment s p
unfolding passing
passing_by r x u moment s p already e = rw e
