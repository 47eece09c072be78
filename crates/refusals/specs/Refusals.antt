-- Believed: 01's number of each refusal, and the outcome of ordered tests.
use Rattle.std.specs.Prelude.{Bool, true, false, cond, List, [], ◌∷◌, ℕ, Result, Err, Ok}
use Rattle.refusals.specs.declared.Refusal.{Refusal}
use Rattle.refusals.specs.declared.Refusal.TheVariants.{Unsound, Range, Absent, Stands, Full, NotKeeper, Ownerless, NotByMachine, NoParent, NotHeld, NotLive, NoDelegate, RightLacking, WeightAbove, TooManyHops, Circle, NoClaim, NoGrantor, Form, Count, Buffer, TooDeep, TooManyActions, JsonForm, JsonLacks, NoProposal, NotPermitted, NoEntry, BookFull, BadBook, Doubled, BadOwner, BadKeeper}

abbrev pub number_of : Refusal → ℕ
number_of Unsound = 1
number_of Range = 2
number_of Absent = 3
number_of Stands = 4
number_of Full = 5
number_of NotKeeper = 6
number_of Ownerless = 7
number_of NotByMachine = 8
number_of NoParent = 9
number_of NotHeld = 10
number_of NotLive = 11
number_of NoDelegate = 12
number_of RightLacking = 13
number_of WeightAbove = 14
number_of TooManyHops = 15
number_of Circle = 16
number_of NoClaim = 17
number_of NoGrantor = 18
number_of Form = 19
number_of Count = 20
number_of Buffer = 21
number_of TooDeep = 22
number_of TooManyActions = 23
number_of JsonForm = 24
number_of JsonLacks = 25
number_of NoProposal = 26
number_of NotPermitted = 27
number_of NoEntry = 28
number_of BookFull = 29
number_of BadBook = 30
number_of Doubled = 31
number_of BadOwner = 32
number_of BadKeeper = 33

-- a test of a call: whether it is passed, and the refusal where it is not
pub record Test : Type 0 where
  pub passed : Bool
  pub refusal : Refusal

-- the first test that is not passed decides
unfoldable pub outcome_of : List Test → Result Unit Refusal
outcome_of [] = Ok tt
outcome_of (t ∷ tests) = let more = outcome_of tests in cond t.passed more (Err t.refusal)

-- whether an outcome is acceptance
abbrev pub is_accepted : Result Unit Refusal → Bool
is_accepted (Ok _) = true
is_accepted (Err why) = false
