-- Laws: A grant of the form, and one that helps, part by part. Assumes nothing.
use Rattle.std.specs.Prelude.{◌≡◌, true, [], ◌∷◌, ℕ, eqb}
use Rattle.std.proofs.Common.{ap, sym, ◌∙◌, eqb-true, eq-eqb}
use Rattle.lists.specs.Tests.{and_left, and_right, and_both}
use Rattle.lists.specs.Lists.{any}
use Rattle.lists.specs.Each.{ands_out}
use Rattle.rights.specs.Rights.{worth_of}
use Rattle.register.specs.declared.Claim.{Claim}
use Rattle.register.specs.declared.Register.{Register}
use Rattle.soundness_rules.specs.Sound.{stored}
use Rattle.refusals.specs.Refusals.{is_accepted}
use Rattle.change_rules.specs.Changes.{standing, appended, granted}
use Rattle.change_rules.proofs.Grants.{GrantPassed, grant_out, grant_in, granted_register}
use Rattle.actions.specs.Actions.{one_use}
use Rattle.actions.specs.declared.Usage.{Usage}
use Rattle.proposals.specs.Proposals.{signers_of, permits, of_form, helping}
use Rattle.proposals.specs.declared.Signers.{Signers}

-- a grant of the form, part by part
pub record Formed (x : ℕ) (u : Usage) (s : Signers) (c : Claim) : Type 0 where
  pub held : c.holder ≡ x
  pub on_used : c.resource ≡ u.resource
  pub single : c.rights ≡ worth_of u.right
  pub signed : any (eqb c.grantor) (signers_of s) ≡ true

pub form_out : (x : ℕ) (u : Usage) (s : Signers) (c : Claim) → of_form x u s c ≡ true → Formed x u s c
unfolding of_form
form_out x u s c h =
    let told = ands_out (eqb c.holder x ∷ eqb c.resource u.resource ∷ eqb c.rights (worth_of u.right) ∷ any (eqb c.grantor) (signers_of s) ∷ []) h in
    record {
      held = eqb-true c.holder x told.0;
      on_used = eqb-true c.resource u.resource told.1.0;
      single = eqb-true c.rights (worth_of u.right) told.1.1.0;
      signed = told.1.1.1.0;
    }

pub form_in : (x : ℕ) (u : Usage) (s : Signers) (c : Claim) → Formed x u s c → of_form x u s c ≡ true
unfolding of_form
form_in x u s c h =
    rw (eq-eqb c.holder x h.held, eq-eqb c.resource u.resource h.on_used, eq-eqb c.rights (worth_of u.right) h.single, h.signed)

-- a grant that helps is accepted, and the register with it as it is stored permits the use
pub record Helped (r : Register) (x : ℕ) (u : Usage) (moment : ℕ) (c : Claim) : Type 0 where
  pub taken : GrantPassed r c moment
  pub after : permits (appended r (stored r.version (standing r) c)) (one_use x u moment) ≡ true

pub help_out : (r : Register) (x : ℕ) (u : Usage) (moment : ℕ) (c : Claim) → helping r x u moment c ≡ true → Helped r x u moment c
unfolding helping
help_out r x u moment c h =
    let accepted = and_left (is_accepted (granted r c moment).outcome) (permits (granted r c moment).register (one_use x u moment)) h in
    record {
      taken = grant_out r c moment accepted;
      after = ap (λ k. permits k (one_use x u moment)) (sym (granted_register r c moment accepted))
          ∙ and_right (is_accepted (granted r c moment).outcome) (permits (granted r c moment).register (one_use x u moment)) h;
    }

pub help_in : (r : Register) (x : ℕ) (u : Usage) (moment : ℕ) (c : Claim) → Helped r x u moment c → helping r x u moment c ≡ true
unfolding helping
help_in r x u moment c h =
    let accepted = grant_in r c moment h.taken in
    and_both (is_accepted (granted r c moment).outcome) (permits (granted r c moment).register (one_use x u moment)) accepted
    (ap (λ k. permits k (one_use x u moment)) (granted_register r c moment accepted) ∙ h.after)
