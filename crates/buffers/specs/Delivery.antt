-- Believed: What is answered of a text that goes into a lent buffer.
use Rattle.std.specs.Prelude.{ℕ, List, cond, leb, length, Err, Ok}
use Rattle.refusals.specs.declared.Refusal.{Refusal}
use Rattle.refusals.specs.declared.Refusal.TheVariants.{Buffer}
use Rattle.buffers.specs.declared.Written.{Written}

-- a refused write gives length 0
abbrev pub unwritten : Refusal → Written
unwritten why = record { outcome = Err why; length = 0 }

-- the length of the text, or 21 where the buffer is too short
unfoldable pub delivered : List ℕ → List ℕ → Written
delivered t old = cond (leb (length t) (length old)) (record { outcome = Ok tt; length = length t }) (unwritten Buffer)
