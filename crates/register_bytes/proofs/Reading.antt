-- What is read at a place is what was written there, and what is written of what was read are the bytes that stand there. Assumes nothing.
use Rattle.std.proofs.Common.{◌≡◌, refl, sym, ap, ◌∙◌, subst, List, [], ◌∷◌, ◌++◌, append_assoc, ℕ, zero, suc, ◌+◌, ◌*◌, ◌/◌, ◌%◌, ◌^◌, ◌≤◌, ◌<◌, div-lt_iff_lt-mul, zero-lt-suc, pow-suc, add-one, arith, length, take, drop, get_or, length-append, drop-cons, drop-drop, drop_at, take-add, get_or-drop}
use native.Mathlib.Nat.{mod-add-div, pow-zero}
use Rattle.lists.specs.Lists.{All}
use Rattle.register_bytes.specs.Bytes.{number_in, records_in, bytes_of, bytes_of_all}

pub bytes_of_length : (width n : ℕ) → length (bytes_of width n) ≡ width
unfolding bytes_of
bytes_of_length zero n = refl
bytes_of_length (suc width) n = ap suc (bytes_of_length width (n / 256))

-- what stands behind a part
pub behind : (bytes : List ℕ) (at size : ℕ) (here rest : List ℕ) → drop at bytes ≡ here ++ rest → length here ≡ size → drop (at + size) bytes ≡ rest
behind bytes at size here rest e long = sym (drop-drop size at bytes) ∙ ap (drop size) e ∙ drop_at here rest size long

-- the byte at a place, where it is known what stands from there on
first_at : (bytes : List ℕ) (at b : ℕ) (rest : List ℕ) → drop at bytes ≡ b ∷ rest → get_or bytes at 0 ≡ b
first_at bytes at b rest e =
    let same : at + 0 ≡ at = omega arith in
    ap (λ k. get_or bytes k 0) (sym same) ∙ sym (get_or-drop at bytes 0 0) ∙ ap (λ l. get_or l 0 0) e

-- a number that its bytes hold is read where they stand
pub number_read : (width n at : ℕ) (bytes rest : List ℕ) → n < 256 ^ width → drop at bytes ≡ bytes_of width n ++ rest → number_in width at bytes ≡ n
unfolding bytes_of number_in
number_read zero n at bytes rest small e = omega (arith, small, pow-zero 256)
number_read (suc width) n at bytes rest small e =
    let less : n / 256 < 256 ^ width = (div-lt_iff_lt-mul (zero-lt-suc 255)).1 (subst (λ (x : ℕ). n < x) (pow-suc 256 width) small) in
    let later = number_read width (n / 256) (at + 1) bytes rest less (behind bytes at 1 (n % 256 ∷ []) (bytes_of width (n / 256) ++ rest) e refl) in
    rw (first_at bytes at (n % 256) (bytes_of width (n / 256) ++ rest) e, later) (mod-add-div n 256)

module _ {A : Type 0} (image : A → List ℕ) (size : ℕ) where
  pub all_length : (l : List A) → All (λ a. length (image a) ≡ size) l → length (bytes_of_all image l) ≡ length l * size
  unfolding bytes_of_all
  all_length [] long = omega arith
  all_length (a ∷ l) long = omega (arith, length-append (image a) (bytes_of_all image l), long.0, all_length l long.1)

  -- records are read where their bytes stand, where each is
  module _ (bytes : List ℕ) (read : ℕ → A) (Held : A → Type 0) (one : (a : A) (at : ℕ) (rest : List ℕ) → Held a → drop at bytes ≡ image a ++ rest → read at ≡ a) where
    pub records_read : (l : List A) (at : ℕ) (rest : List ℕ) → All (λ a. length (image a) ≡ size) l → All Held l → drop at bytes ≡ bytes_of_all image l ++ rest
        → records_in read size at (length l) ≡ l
    unfolding bytes_of_all records_in
    records_read [] at rest long held e = refl
    records_read (a ∷ l) at rest long held e =
        let split : drop at bytes ≡ image a ++ (bytes_of_all image l ++ rest) = e ∙ append_assoc (image a) (bytes_of_all image l) rest in
        rw (
          one a at (bytes_of_all image l ++ rest) held.0 split,
          records_read l (at + size) rest long.1 held.1 (behind bytes at size (image a) (bytes_of_all image l ++ rest) split long.0),
        )

-- ---- what is written of what was read

-- two parts, one behind the other
pub joined : (bytes : List ℕ) (at n m : ℕ) → take n (drop at bytes) ++ take m (drop (at + n) bytes) ≡ take (n + m) (drop at bytes)
joined bytes at n m = rw (sym (drop-drop n at bytes)) (sym (take-add n m (drop at bytes)))

all_at : (bytes : List ℕ) (Q : ℕ → Type 0) (at : ℕ) → All Q bytes → at < length bytes → Q (get_or bytes at 0)
all_at [] Q at all h = absurd (omega arith)
all_at (b ∷ bytes) Q zero all h = all.0
all_at (b ∷ bytes) Q (suc at) all h = all_at bytes Q at all.1 (omega arith)

module _ (bytes : List ℕ) (small : All (λ b. b < 256) bytes) where
  pub number_written : (width at : ℕ) → at + width ≤ length bytes → bytes_of width (number_in width at bytes) ≡ take width (drop at bytes)
  unfolding bytes_of number_in
  number_written zero at room = refl
  number_written (suc width) at room =
      let inside : at < length bytes = omega arith in
      let less : get_or bytes at 0 < 256 = all_at bytes (λ b. b < 256) at small inside in
      let low : (get_or bytes at 0 + 256 * number_in width (at + 1) bytes) % 256 ≡ get_or bytes at 0 = omega (arith, less) in
      let high : (get_or bytes at 0 + 256 * number_in width (at + 1) bytes) / 256 ≡ number_in width (at + 1) bytes = omega (arith, less) in
      rw (low, high, number_written width (at + 1) (omega arith), add-one at, drop-cons bytes at 0 inside)

module _ {A : Type 0} (image : A → List ℕ) (size : ℕ) (bytes : List ℕ) (read : ℕ → A)
    (one : (at : ℕ) → at + size ≤ length bytes → image (read at) ≡ take size (drop at bytes)) where
  pub records_written : (n at : ℕ) → at + n * size ≤ length bytes → bytes_of_all image (records_in read size at n) ≡ take (n * size) (drop at bytes)
  unfolding bytes_of_all records_in
  records_written zero at room = let none : zero * size ≡ 0 = omega arith in rw none
  records_written (suc n) at room =
      let more : size + n * size ≡ suc n * size = omega arith in
      rw (one at (omega (arith, more)), records_written n (at + size) (omega (arith, more)), joined bytes at size (n * size), more)
