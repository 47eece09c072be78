-- What the words tell: every refusal that a call gives and every violation that a verdict lists has a text that says more than that the number is
-- unknown, and no text of a number is longer than 128 bytes. Assumes nothing.
use Rattle.std.proofs.Common.{ℕ, ◌≤◌, ◌≡◌, length}
use Rattle.refusals.specs.Refusals.{number_of}
use Rattle.refusals.specs.declared.Refusal.{Refusal}
use Rattle.actions.specs.Actions.{kind_of}
use Rattle.actions.specs.declared.Violation.{Violation}
use Rattle.words.specs.Words.{refusal_text, unknown_refusal, violation_text, unknown_violation, right_name, flag_name, word_limit}
use Rattle.words.proofs.Telling as telling

-- 1a. No text of a refusal's number is longer than 128 bytes.
pub refusal_fits : (n : ℕ) → length (refusal_text n) ≤ word_limit
refusal_fits = telling.refusal_fits

-- 1b. Nor is one of a violation's kind.
pub violation_fits : (n : ℕ) → length (violation_text n) ≤ word_limit
violation_fits = telling.violation_fits

-- 1c. Nor is the name of a right.
pub right_fits : (n : ℕ) → length (right_name n) ≤ word_limit
right_fits = telling.right_fits

-- 1d. Nor is the name of a flag.
pub flag_fits : (n : ℕ) → length (flag_name n) ≤ word_limit
flag_fits = telling.flag_fits

-- 2a. Every refusal has words of its own.
pub refusal_known : (why : Refusal) → refusal_text (number_of why) ≡ unknown_refusal → ⊥
refusal_known = telling.refusal_known

-- 2b. So has every violation.
pub violation_known : (v : Violation) → violation_text (kind_of v) ≡ unknown_violation → ⊥
violation_known = telling.violation_known
