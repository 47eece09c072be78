-- The proofs of Theorems: no text of a number is above the limit, and none that a call can give is the text of unknown numbers. Assumes nothing.
use Rattle.std.proofs.Common.{ℕ, ◌≤◌, ◌≡◌, refl, ap, ◌∙◌, true, false, List, arith, leb-true, leb, length, get_or}
use native.Mathlib.Decide.{dec_lt}
use lib.ListN.{get_or-eq_default}
use Rattle.lists.specs.Lists.{every, same}
use Rattle.lists.specs.Each.{every_at}
use Rattle.lists.specs.Tests.{clash}
use Rattle.refusals.specs.Refusals.{number_of}
use Rattle.refusals.specs.declared.Refusal.{Refusal}
use Rattle.refusals.specs.declared.Refusal.TheVariants.{Unsound, Range, Absent, Stands, Full, NotKeeper, Ownerless, NotByMachine, NoParent, NotHeld, NotLive, NoDelegate, RightLacking, WeightAbove, TooManyHops, Circle, NoClaim, NoGrantor, Form, Count, Buffer, TooDeep, TooManyActions, JsonForm, JsonLacks, NoProposal, NotPermitted, NoEntry, BookFull, BadBook, Doubled, BadOwner, BadKeeper}
use Rattle.actions.specs.Actions.{kind_of}
use Rattle.actions.specs.declared.Violation.{Violation}
use Rattle.actions.specs.declared.Violation.TheVariants.{FlagSet, NoOwner, MachineGoverns, NotCovered, OwnerNotCovering}
use Rattle.json_rules.specs.Names.{kind_names, flag_names}
use Rattle.words.specs.Words.{refusal_texts, refusal_text, unknown_refusal, violation_texts, violation_text, unknown_violation, right_name, unknown_right, flag_name, unknown_flag, word_limit}

-- every text of a table, and the one for all other numbers, is within the limit, and so is the text of each number
within : (ts : List (List ℕ)) (unknown : List ℕ) (n : ℕ) → every (λ t. leb (length t) word_limit) ts ≡ true → length unknown ≤ word_limit
    → length (get_or ts n unknown) ≤ word_limit
within ts unknown n fit short = elim (dec_lt n (length ts)) [
  | yes inside ↦ leb-true _ _ (every_at (λ t. leb (length t) word_limit) ts fit unknown n inside)
  | no past ↦ rw (get_or-eq_default ts unknown {n = n} (omega arith)) short
]

pub refusal_fits : (n : ℕ) → length (refusal_text n) ≤ word_limit
refusal_fits n = within refusal_texts unknown_refusal n refl (omega arith)

pub violation_fits : (n : ℕ) → length (violation_text n) ≤ word_limit
violation_fits n = within violation_texts unknown_violation n refl (omega arith)

pub right_fits : (n : ℕ) → length (right_name n) ≤ word_limit
right_fits n = within kind_names unknown_right n refl (omega arith)

pub flag_fits : (n : ℕ) → length (flag_name n) ≤ word_limit
flag_fits n = within flag_names unknown_flag n refl (omega arith)

-- a text that is not the same as another is not equal to it
telling : (t u : List ℕ) → same u u ≡ true → same t u ≡ false → t ≡ u → ⊥
telling t u own other e = clash (same t u) (ap (λ x. same x u) e ∙ own) other

refusal_said : (why : Refusal) → same (refusal_text (number_of why)) unknown_refusal ≡ false
unfolding same
refusal_said Unsound = refl
refusal_said Range = refl
refusal_said Absent = refl
refusal_said Stands = refl
refusal_said Full = refl
refusal_said NotKeeper = refl
refusal_said Ownerless = refl
refusal_said NotByMachine = refl
refusal_said NoParent = refl
refusal_said NotHeld = refl
refusal_said NotLive = refl
refusal_said NoDelegate = refl
refusal_said RightLacking = refl
refusal_said WeightAbove = refl
refusal_said TooManyHops = refl
refusal_said Circle = refl
refusal_said NoClaim = refl
refusal_said NoGrantor = refl
refusal_said Form = refl
refusal_said Count = refl
refusal_said Buffer = refl
refusal_said TooDeep = refl
refusal_said TooManyActions = refl
refusal_said JsonForm = refl
refusal_said JsonLacks = refl
refusal_said NoProposal = refl
refusal_said NotPermitted = refl
refusal_said NoEntry = refl
refusal_said BookFull = refl
refusal_said BadBook = refl
refusal_said Doubled = refl
refusal_said BadOwner = refl
refusal_said BadKeeper = refl

pub refusal_known : (why : Refusal) → refusal_text (number_of why) ≡ unknown_refusal → ⊥
unfolding same
refusal_known why = telling (refusal_text (number_of why)) unknown_refusal refl (refusal_said why)

violation_said : (v : Violation) → same (violation_text (kind_of v)) unknown_violation ≡ false
unfolding same
violation_said (FlagSet flag) = refl
violation_said (NoOwner actor) = refl
violation_said (MachineGoverns at) = refl
violation_said (NotCovered at) = refl
violation_said (OwnerNotCovering at) = refl

pub violation_known : (v : Violation) → violation_text (kind_of v) ≡ unknown_violation → ⊥
unfolding same
violation_known v = telling (violation_text (kind_of v)) unknown_violation refl (violation_said v)
