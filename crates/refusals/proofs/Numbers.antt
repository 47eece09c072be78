-- No number is that of two refusals: a number tells the refusal that it is of. Assumes nothing.
use Rattle.std.proofs.Common.{◌≡◌, refl, ap, sym, ◌∙◌, List, [], ◌∷◌, get_or}
use Rattle.refusals.specs.Refusals.{number_of}
use Rattle.refusals.specs.declared.Refusal.{Refusal}
use Rattle.refusals.specs.declared.Refusal.TheVariants.{Unsound, Range, Absent, Stands, Full, NotKeeper, Ownerless, NotByMachine, NoParent, NotHeld, NotLive, NoDelegate, RightLacking, WeightAbove, TooManyHops, Circle, NoClaim, NoGrantor, Form, Count, Buffer, TooDeep, TooManyActions, JsonForm, JsonLacks, NoProposal, NotPermitted, NoEntry, BookFull, BadBook, Doubled, BadOwner, BadKeeper}

-- the refusals by their numbers; 0, which is no refusal's, holds the first
refusals : List Refusal
refusals =
    Unsound ∷ Unsound ∷ Range ∷ Absent ∷ Stands ∷ Full ∷ NotKeeper ∷ Ownerless ∷ NotByMachine ∷ NoParent ∷ NotHeld ∷ NotLive ∷ NoDelegate
    ∷ RightLacking ∷ WeightAbove ∷ TooManyHops ∷ Circle ∷ NoClaim ∷ NoGrantor ∷ Form ∷ Count ∷ Buffer ∷ TooDeep ∷ TooManyActions ∷ JsonForm ∷ JsonLacks
    ∷ NoProposal ∷ NotPermitted ∷ NoEntry ∷ BookFull ∷ BadBook ∷ Doubled ∷ BadOwner ∷ BadKeeper
    ∷ []

told_back : (why : Refusal) → get_or refusals (number_of why) Unsound ≡ why
unfolding refusals
told_back Unsound = refl
told_back Range = refl
told_back Absent = refl
told_back Stands = refl
told_back Full = refl
told_back NotKeeper = refl
told_back Ownerless = refl
told_back NotByMachine = refl
told_back NoParent = refl
told_back NotHeld = refl
told_back NotLive = refl
told_back NoDelegate = refl
told_back RightLacking = refl
told_back WeightAbove = refl
told_back TooManyHops = refl
told_back Circle = refl
told_back NoClaim = refl
told_back NoGrantor = refl
told_back Form = refl
told_back Count = refl
told_back Buffer = refl
told_back TooDeep = refl
told_back TooManyActions = refl
told_back JsonForm = refl
told_back JsonLacks = refl
told_back NoProposal = refl
told_back NotPermitted = refl
told_back NoEntry = refl
told_back BookFull = refl
told_back BadBook = refl
told_back Doubled = refl
told_back BadOwner = refl
told_back BadKeeper = refl

pub number_same : (why other : Refusal) → number_of why ≡ number_of other → why ≡ other
number_same why other same = sym (told_back why) ∙ ap (λ n. get_or refusals n Unsound) same ∙ told_back other
