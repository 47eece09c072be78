-- Why a text is not read: nothing is told exactly where it is read; and 19, 20 and the line are those of the reading. Assumes nothing.
use Rattle.std.proofs.Common.{Err, ◌≡◌, refl, ◌∙◌, List, ℕ, eqb}
use Rattle.lists.specs.Tests.{cases}
use Rattle.register.specs.declared.Register.{Register}
use Rattle.soundness_rules.specs.Sound.{sound}
use Rattle.refusals.specs.Refusals.{number_of, is_accepted}
use Rattle.refusals.specs.declared.Refusal.{Refusal}
use Rattle.lines.specs.Reading.{State, going, failed}
use Rattle.text_rules.specs.Registers.{register_from, register_ending, register_read}
use Rattle.faults.specs.Faults.{fault_numbers, first_fault, FirstFault, no_fault, bad_version, many_actors, many_resources, many_claims, of_actor, of_resource, of_claim, fault_of}
use Rattle.faults.specs.Unread.{unread_ending, why_unread}
use Rattle.faults.proofs.Unsound.{unsound_told}

ending_told : (r : Register) (s : State) → eqb (unread_ending r s).sound 1 ≡ is_accepted (register_ending r s).outcome
ending_told r (going t l) = (unsound_told r).1 ∙ cases (sound r) (λ e. rw e) (λ e. rw e)
ending_told r (failed why l) = refl

pub unread_told : (t : List ℕ) → eqb (why_unread t).sound 1 ≡ is_accepted (register_read t).outcome
unfolding why_unread register_read
unread_told t = ending_told (register_from t).value (register_from t).state

-- a register's fault names no line
fault_line : (f : FirstFault) → (fault_numbers f).line ≡ 0
fault_line no_fault = refl
fault_line bad_version = refl
fault_line many_actors = refl
fault_line many_resources = refl
fault_line many_claims = refl
fault_line (of_actor b) = refl
fault_line (of_resource b) = refl
fault_line (of_claim b) = refl

ending_line : (r : Register) (s : State) → (unread_ending r s).line ≡ (register_ending r s).line
unfolding fault_of
ending_line r (going t l) = fault_line (first_fault r) ∙ cases (sound r) (λ e. rw e) (λ e. rw e)
ending_line r (failed why l) = refl

pub unread_line : (t : List ℕ) → (why_unread t).line ≡ (register_read t).line
unfolding why_unread register_read
unread_line t = ending_line (register_from t).value (register_from t).state

-- where a line fails, the number is that of the reading; where none does, the fault is that of the register that the lines say
pub unread_failed : (t : List ℕ) (why : Refusal) (l : ℕ) → (register_from t).state ≡ failed why l
    → ((register_read t).outcome ≡ Err why) × ((why_unread t).why ≡ number_of why)
unfolding why_unread register_read
unread_failed t why l e = (rw e, rw e)

pub unread_fault : (t rest : List ℕ) (l : ℕ) → (register_from t).state ≡ going rest l → why_unread t ≡ fault_of (register_from t).value
unfolding why_unread
unread_fault t rest l e = rw e
