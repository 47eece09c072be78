-- Laws: Lists held at the front of an array, with the same behind them: the list is found again. Assumes nothing.
use Rattle.std.specs.Prelude.{ℕ, ◌≡◌, List, ◌++◌, length, take, replicate}
use Rattle.std.proofs.Math.Seq.{take-append_seam}

pub held_entries : {A : Type 0} (l : List A) (n : ℕ) (none : A) → take (length l) (l ++ replicate n none) ≡ l
held_entries l n none = take-append_seam l (replicate n none)
