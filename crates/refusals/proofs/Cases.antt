-- The numbers of the refusals and the outcome of small lists of tests. All by computing. Assumes
-- nothing.
use Rattle.std.proofs.Common.{Err, Ok, ◌≡◌, refl, Bool, true, false, [], ◌∷◌, map}
use Rattle.refusals.specs.Refusals.{number_of, Test, outcome_of}
use Rattle.refusals.specs.declared.Refusal.{Refusal}
use Rattle.refusals.specs.declared.Refusal.TheVariants.{Unsound, Range, Absent, Stands, Full, NotKeeper, Ownerless, NotByMachine, NoParent, NotHeld, NotLive, NoDelegate, RightLacking, WeightAbove, TooManyHops, Circle, NoClaim, NoGrantor, Form, Count, Buffer, TooDeep, TooManyActions, JsonForm, JsonLacks, NoProposal, NotPermitted, NoEntry, BookFull, BadBook, Doubled, BadOwner, BadKeeper}

-- 01's and 02's numbers in their order
numbers_told : map number_of (
    Unsound ∷ Range ∷ Absent ∷ Stands ∷ Full ∷ NotKeeper
    ∷ Ownerless ∷ NotByMachine ∷ NoParent ∷ NotHeld ∷ NotLive ∷ NoDelegate
    ∷ RightLacking ∷ WeightAbove ∷ TooManyHops ∷ Circle ∷ NoClaim ∷ NoGrantor
    ∷ Form ∷ Count ∷ Buffer ∷ TooDeep ∷ TooManyActions ∷ JsonForm ∷ JsonLacks
    ∷ NoProposal ∷ NotPermitted ∷ NoEntry ∷ BookFull ∷ BadBook ∷ Doubled ∷ BadOwner ∷ BadKeeper
    ∷ [])
    ≡ 1 ∷ 2 ∷ 3 ∷ 4 ∷ 5 ∷ 6 ∷ 7 ∷ 8 ∷ 9 ∷ 10 ∷ 11 ∷ 12 ∷ 13 ∷ 14 ∷ 15 ∷ 16 ∷ 17 ∷ 18 ∷ 19 ∷ 20 ∷ 21 ∷ 22 ∷ 23 ∷ 24 ∷ 25
    ∷ 26 ∷ 27 ∷ 28 ∷ 29 ∷ 30 ∷ 31 ∷ 32 ∷ 33 ∷ []
numbers_told = refl

abbrev test : Bool → Refusal → Test
test passed refusal = record { passed = passed; refusal = refusal }

-- none, all passed; one failed behind and before passed ones; two failed
outcomes_told : map outcome_of (
    []
    ∷ (test true Range ∷ test true Absent ∷ [])
    ∷ (test true Range ∷ test false Absent ∷ [])
    ∷ (test false Range ∷ test true Absent ∷ [])
    ∷ (test false Range ∷ test false Absent ∷ [])
    ∷ [])
    ≡ (Ok tt) ∷ (Ok tt) ∷ Err Absent ∷ Err Range ∷ Err Range ∷ []
unfolding outcome_of
outcomes_told = refl
