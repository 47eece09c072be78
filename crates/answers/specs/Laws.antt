-- Laws: An answer put together from numbers that are each the inner answer's is the answer that the inner one is told by. Assumes nothing.
use Rattle.refusals.specs.declared.Refusal.{Refusal}
use Rattle.std.specs.Prelude.{◌≡◌, true, ◌&&◌, cond, List, ℕ, ltb, Result, Ok, Option}
use Rattle.paths.specs.Containment.{reach_between, is_inside, length_of}
use Rattle.paths.proofs.Laws.{reach_told}
use Rattle.register.specs.Limits.{claim_limit}
use Rattle.register.specs.declared.Claim.{Claim}
use Rattle.register.specs.declared.Register.{Register}
use Rattle.refusals.specs.Refusals.{outcome_of, is_accepted}
use Rattle.refusals.proofs.Laws.{outcome_cases, outcome_first}
use Rattle.change_rules.specs.Changes.{world_tests, grant_tests, appended, granted, Withdrawal, withdraw_tests, withdrawn}
use Rattle.granting.specs.Settled.{grant_outcome}
use Rattle.withdrawing.specs.Struck.{struck_of}
use Rattle.withdrawing.specs.declared.Struck.{Struck}
use Rattle.answers.specs.declared.GrantAnswer.{GrantAnswer}
use Rattle.answers.specs.declared.RevokeAnswer.{RevokeAnswer}
use Rattle.answers.specs.Answers.{containment, yes_number, accepted_number, refusal_number, grant_answer, revoke_answer}
use Rattle.answers.specs.declared.Containment.{Containment}

-- the same by the one answer that tells both
abbrev pub containment_of : Option ℕ → Containment
containment_of w = record { contained = yes_number (is_inside w); length = length_of w }

pub containment_told : (p q : List ℕ) → containment_of (reach_between p q) ≡ containment p q
containment_told p q = rw ((reach_told p q).0, (reach_told p q).1)

-- a grant of the claim c with an outcome: accepted, and where there is room, the claim goes to the end of the list
abbrev pub granted_answer : Register → Claim → Result Unit Refusal → GrantAnswer
granted_answer r c o = grant_answer (record { register = cond (is_accepted o && ltb r.claims.count claim_limit) (appended r c) r; outcome = o })

-- an accepted claim finds room
accepted_room : (r : Register) (c : Claim) (moment : ℕ) → outcome_of (grant_tests r c moment) ≡ Ok tt → ltb r.claims.count claim_limit ≡ true
unfolding grant_tests world_tests
accepted_room r c moment q =
    let behind_sound = (outcome_first _ _ q).1 in
    let behind_fit = (outcome_first _ _ behind_sound).1 in
    let behind_names = (outcome_first _ _ behind_fit).1 in
    let behind_fresh = (outcome_first _ _ behind_names).1 in
    (outcome_first _ _ behind_fresh).0

-- with the outcome of a grant and the claim beside it, it is what the grant answers
pub granted_natural : (r : Register) (c : Claim) (moment : ℕ)
    → granted_answer r (grant_outcome r c moment).claim (grant_outcome r c moment).outcome ≡ grant_answer (granted r c moment)
unfolding granted grant_outcome
granted_natural r c moment = outcome_cases (outcome_of (grant_tests r c moment))
    (λ accepted. rw (accepted, accepted_room r c moment accepted))
    (λ why refused. rw refused)

-- a withdrawal that left some claims, beside its outcome and how many went
abbrev pub withdrawn_answer : Register → Struck → RevokeAnswer
withdrawn_answer r k = record {
  state = record { actors = r.actors; resources = r.resources; claims = k.claims; version = r.version };
  accepted = accepted_number k.outcome;
  refusal = refusal_number k.outcome;
  removed = k.removed;
}

-- of what a withdrawal leaves it is what the withdrawal answers
pub withdrawn_natural : (r : Register) (w : Withdrawal) → withdrawn_answer r (struck_of (withdrawn r w)) ≡ revoke_answer (withdrawn r w)
unfolding withdrawn
withdrawn_natural r w = outcome_cases (outcome_of (withdraw_tests r w))
    (λ accepted. rw accepted)
    (λ why refused. rw refused)
