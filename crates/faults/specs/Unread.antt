-- Believed: Why a text is not read as a register: the first failing line with 19 or 20, or else the first fault of the register that its lines say.
use Rattle.std.specs.Prelude.{List, ℕ}
use Rattle.register.specs.declared.Register.{Register}
use Rattle.refusals.specs.Refusals.{number_of}
use Rattle.lines.specs.Reading.{State, going, failed}
use Rattle.text_rules.specs.Registers.{register_from}
use Rattle.faults.specs.Faults.{fault_of}
use Rattle.faults.specs.declared.Fault.{Fault}

abbrev pub unread_ending : Register → State → Fault
unread_ending r (going t l) = fault_of r
unread_ending r (failed why l) = record { sound = 0; why = number_of why; list = 0; id = 0; place = 0; line = l }

unfoldable pub why_unread : List ℕ → Fault
why_unread t = let read = register_from t in unread_ending read.value read.state
