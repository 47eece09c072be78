-- What is proved of the first fault of a register and of a text. Assumes nothing.
use Rattle.std.proofs.Common.{Err, ◌≡◌, true, false, List, ℕ, suc, ◌≤◌, ◌<◌, eqb, ltb, length, take, get_or}
use Rattle.lists.specs.Lists.{every}
use Rattle.register.specs.Limits.{claim_limit, moment_end}
use Rattle.register.specs.Register.{no_claim}
use Rattle.register.specs.Chain.{latest, above, current}
use Rattle.register.specs.declared.Claim.{Claim}
use Rattle.register.specs.declared.Register.{Register}
use Rattle.soundness_rules.specs.Sound.{sound}
use Rattle.refusals.specs.Refusals.{number_of, is_accepted, outcome_of}
use Rattle.refusals.specs.declared.Refusal.{Refusal}
use Rattle.lines.specs.Reading.{going, failed}
use Rattle.text_rules.specs.Registers.{register_from, register_read}
use Rattle.change_rules.specs.Changes.{world_in, standing, granted}
use Rattle.faults.specs.Unread.{why_unread}
use Rattle.faults.specs.Faults.{claim_tests, of_claim, first_fault, fault_of, first_claims, Breaks, WholeBefore}
use Rattle.faults.proofs.Halving as halving
use Rattle.faults.proofs.Unreading as unreading
use Rattle.faults.proofs.Unsound as unsound
use Rattle.faults.proofs.AsGranted as asGranted

-- 1. Nothing is told exactly where the register is sound: why is 0, and sound is 1.
pub unsound_told : (r : Register) → (eqb (fault_of r).why 0 ≡ sound r) × (eqb (fault_of r).sound 1 ≡ sound r)
unsound_told = unsound.unsound_told

-- 2a. What the fault names is broken: the version is neither 1 nor 2; a count is above its limit; a record stands at the place, fails the test and breaks
-- the rule that is named, behind records that pass their tests.
pub unsound_broken : (r : Register) → Breaks r (first_fault r)
unsound_broken = unsound.unsound_broken

-- 2b. Of a claim it is what a grant of it behind the earlier ones is refused with, where those on its chain are current.
pub fault_granted : (r : Register) (c : Claim) (moment : ℕ) → sound r ≡ true → ltb r.claims.count claim_limit ≡ true → ltb moment moment_end ≡ true
    → every (current moment) (above (standing r) c) ≡ true → outcome_of (claim_tests (world_in r) (standing r) c) ≡ (granted r c moment).outcome
fault_granted = asGranted.fault_granted

-- 3a. What comes before the fault is as it should be: of a claim, the register with the claims before it is sound, and with the claim too it is not.
pub unsound_first : (r : Register) → WholeBefore r (first_fault r)
unsound_first = unsound.unsound_first

-- 3b. A register that is sound with n of its claims is sound with fewer.
pub sound_fewer : (r : Register) (m n : ℕ) → m ≤ n → sound (first_claims r n) ≡ true → sound (first_claims r m) ≡ true
sound_fewer = unsound.sound_fewer

-- 3c. So any n of its claims with which it is sound, and not with one more, end before the claim that is told: it may be looked for by halving.
pub between_found : (r : Register) (n : ℕ) → r.claims.count ≤ claim_limit → n < r.claims.count → n < length r.claims.list
    → sound (first_claims r n) ≡ true → sound (first_claims r (suc n)) ≡ false
    → (why : Refusal) × (outcome_of (claim_tests (world_in r) (latest (take n r.claims.list)) (get_or r.claims.list n no_claim)) ≡ Err why)
    × (first_fault r ≡ of_claim record { why = why; place = n; what = get_or r.claims.list n no_claim })
between_found = halving.between_found

-- 4a. Nothing is told of a text exactly where it is read as a register.
pub unread_told : (t : List ℕ) → eqb (why_unread t).sound 1 ≡ is_accepted (register_read t).outcome
unread_told = unreading.unread_told

-- 4b. The line is that of the reading.
pub unread_line : (t : List ℕ) → (why_unread t).line ≡ (register_read t).line
unread_line = unreading.unread_line

-- 4c. Where a line fails, the number is the reading's 19 or 20.
pub unread_failed : (t : List ℕ) (why : Refusal) (l : ℕ) → (register_from t).state ≡ failed why l
    → ((register_read t).outcome ≡ Err why) × ((why_unread t).why ≡ number_of why)
unread_failed = unreading.unread_failed

-- 4d. Where none fails, the fault is that of the register that the lines say.
pub unread_fault : (t rest : List ℕ) (l : ℕ) → (register_from t).state ≡ going rest l → why_unread t ≡ fault_of (register_from t).value
unread_fault = unreading.unread_fault
