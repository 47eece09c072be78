-- The first of the numbers that stand from a place on. Assumes nothing.
use Rattle.std.proofs.Common.{◌≡◌, List, sym, ℕ, ◌+◌, ◌*◌, arith}
use Rattle.std.proofs.Math.Path.{ap}
use Rattle.register_bytes.specs.Bytes.{number_size, number_in, field_in}

-- the first of the numbers that stand from a place on
pub field_first : (at : ℕ) (bytes : List ℕ) → number_in number_size at bytes ≡ field_in bytes at 0
field_first at bytes = let same : at + 0 * number_size ≡ at = omega arith in ap (λ k. number_in number_size k bytes) (sym same)
