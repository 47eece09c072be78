-- What is proved of the texts of registers and of actions, over the definitions that the contracts of reading and writing cite. Where an array's
-- places matter, it has as many as its type says (`Shaped`, `ShapedAction`), as every register and action of the program has. Assumes nothing.
use Rattle.std.proofs.Common.{Err, Ok, ℕ, ◌≤◌, ◌≡◌, true, List, ◌⊎◌, length}
use Rattle.actions.specs.Actions.{no_action}
use Rattle.register.specs.Limits.{version_one}
use Rattle.register.specs.Register.{Same, empty_register, Shaped}
use Rattle.register.specs.declared.Register.{Register}
use Rattle.soundness_rules.specs.Sound.{sound}
use Rattle.refusals.specs.declared.Refusal.{Refusal}
use Rattle.refusals.specs.declared.Refusal.TheVariants.{Unsound, Form, Count}
use Rattle.lines.specs.Reading.{failed}
use Rattle.text_rules.specs.Registers.{register_from, register_text, register_read, text_limit}
use Rattle.text_rules.specs.Actions.{action_of, action_read}
use Rattle.text_rules.proofs.Lengths as lengths
use Rattle.text_rules.proofs.RegisterLaws as registers
use Rattle.text_rules.proofs.ActionLaws as actions
use Rattle.text_rules.proofs.Sameness as sameness
use Rattle.text_rules.proofs.Naming as naming

-- 1a. The text of every sound register is accepted.
pub register_accepted : (r : Register) → sound r ≡ true → Shaped r → (register_read (register_text r)).outcome ≡ Ok tt
register_accepted = registers.written_accepted

-- 1b. Nothing else is: an accepted text is the text of a sound register.
pub accepted_register : (t : List ℕ) → (register_read t).outcome ≡ Ok tt → (r : Register) × (sound r ≡ true) × Shaped r × (register_text r ≡ t)
accepted_register t h = let read = registers.accepted_text t h in ((register_read t).register, read.fine, read.shaped, read.text)

-- 2. Reading what was written gives the same register.
pub register_read_written : (r : Register) → sound r ≡ true → Shaped r → Same (register_read (register_text r)).register r
register_read_written = registers.read_written

-- 3a. A text that reads is the text that is written: it is canonical.
pub register_written_read : (t : List ℕ) → (register_read t).outcome ≡ Ok tt → register_text (register_read t).register ≡ t
register_written_read t h = (registers.accepted_text t h).text

-- 3b. What was read is sound.
pub register_read_sound : (t : List ℕ) → (register_read t).outcome ≡ Ok tt → sound (register_read t).register ≡ true
register_read_sound t h = (registers.accepted_text t h).fine

-- 3c. What reading hands back has its shape, refused or not.
pub register_read_shaped : (t : List ℕ) → Shaped (register_read t).register
register_read_shaped = registers.read_shaped

-- 4a. No register has two texts: registers that are the same have one.
pub register_one_text : (r s : Register) → Same r s → register_text r ≡ register_text s
register_one_text = sameness.same_text

-- 4b. No text is that of two registers: sound registers with one text are the same.
pub text_one_register : (r s : Register) → sound r ≡ true → Shaped r → sound s ≡ true → Shaped s → register_text r ≡ register_text s → Same r s
text_one_register = sameness.text_same

-- 5a. The text of a sound register is never longer than 39,789 bytes.
pub register_text_length : (r : Register) → sound r ≡ true → length (register_text r) ≤ text_limit
register_text_length = lengths.text_length

-- 5b. That of a sound register of version 1 is never longer than 37,741 bytes.
pub register_text_length_one : (r : Register) → r.version ≡ version_one → sound r ≡ true → length (register_text r) ≤ 37741
register_text_length_one = lengths.text_length_one

-- 6a. A refused reading gives the empty register.
pub refused_register : (t : List ℕ) (why : Refusal) → (register_read t).outcome ≡ Err why → (register_read t).register ≡ empty_register
refused_register = registers.refused_register

-- 6b. Of an action it gives the action of all zeros.
pub refused_action : (t : List ℕ) (why : Refusal) → (action_read t).outcome ≡ Err why → (action_read t).action ≡ no_action
refused_action = actions.refused_action_read

-- 6c. An unsound register is refused with 1 at line 0; any other refused reading is 19 or 20 at a line from 1.
pub refused_line_lem : (t : List ℕ) (why : Refusal) → (register_read t).outcome ≡ Err why
    → ((why ≡ Unsound) × ((register_read t).line ≡ 0)) ⊎ (((why ≡ Form) ⊎ (why ≡ Count)) × (1 ≤ (register_read t).line))
refused_line_lem = naming.refused_line_lem

-- 6d. So with an action, which has no soundness.
pub action_refused_line : (t : List ℕ) (why : Refusal) → (action_read t).outcome ≡ Err why
    → ((why ≡ Form) ⊎ (why ≡ Count)) × (1 ≤ (action_read t).line)
action_refused_line = naming.action_refused_line

-- 6e. What the failing line is refused with, and its number, is what is answered.
pub refused_number : (t : List ℕ) (why : Refusal) (l : ℕ) → (register_from t).state ≡ failed why l
    → ((register_read t).outcome ≡ Err why) × ((register_read t).line ≡ l)
refused_number = naming.refused_number

-- 6f. So with an action.
pub action_refused_number : (t : List ℕ) (why : Refusal) (l : ℕ) → (action_of t).state ≡ failed why l
    → ((action_read t).outcome ≡ Err why) × ((action_read t).line ≡ l)
action_refused_number = naming.action_refused_number
