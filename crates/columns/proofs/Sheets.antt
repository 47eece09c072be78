-- A sheet by the steps of the code: a column as a part of it, a claim read number by number, and claims put into it one after the other. Assumes
-- nothing.
use Rattle.std.proofs.Common.{◌≡◌, sym, ap, ◌∙◌, cond, List, [], ℕ, ◌+◌, ◌*◌, ◌-◌, ◌≤◌, ◌<◌, min, arith, le-ltb, ne_eqb, eqb, leb, length, take, drop, get_or, get_or-take, get_or-drop}
use mathlib.Core.Bool.{and-false}
use borrow.Author.Tests.{lt-leb}
use Rattle.lists.specs.Loops.{Loop, start, turn, next, done}
use Rattle.register.specs.Limits.{claim_limit}
use Rattle.register.specs.Register.{no_claim}
use Rattle.register.specs.declared.Claim.{Claim}
use Rattle.columns.specs.Sheet.{sheet_limit, last_column, column_of, claim_of, claim_at, claim_put, claims_put, taken_apart, sheet_with}
use Rattle.columns.specs.SheetLaws.{column_within, claim_same, claim_put_length, claims_put_nil, claims_put_next, sheet_with_put}

module _ (s : List ℕ) where
  -- too short a list has no column
  pub column_short : (j : ℕ) → length s < sheet_limit → column_of j s ≡ []
  unfolding column_of
  column_short j short = rw (lt-leb sheet_limit (length s) short)

  -- behind the last column there is none
  pub column_past : (j : ℕ) → last_column < j → column_of j s ≡ []
  unfolding column_of
  column_past j past =
      rw (lt-leb j last_column past) (ap (λ b. cond b (take claim_limit (drop (j * claim_limit) s)) []) (and-false (leb sheet_limit (length s))))

  -- what stands between a column's first place and the next one's
  pub column_part : (j : ℕ) → sheet_limit ≤ length s → j ≤ last_column
      → take (j * claim_limit + claim_limit - j * claim_limit) (drop (j * claim_limit) s) ≡ column_of j s
  column_part j long there =
      let places : j * claim_limit + claim_limit - j * claim_limit ≡ claim_limit = omega arith in
      rw places (sym (column_within s j long there))

  -- too short a list has no claim
  pub claim_short : (i : ℕ) → length s < sheet_limit → no_claim ≡ claim_at s i
  claim_short i short = claim_same (λ j. 0) (λ j. get_or (column_of j s) i 0) (λ j there. sym (ap (λ l. get_or l i 0) (column_short j short)))

  -- at a place each number is that of its column
  pub claim_read : (i : ℕ) → sheet_limit ≤ length s → i < claim_limit → claim_of (λ j. get_or s (j * claim_limit + i) 0) ≡ claim_at s i
  claim_read i long inside =
      claim_same (λ j. get_or s (j * claim_limit + i) 0) (λ j. get_or (column_of j s) i 0)
      (λ j there. sym (ap (λ l. get_or l i 0) (column_within s j long there)
      ∙ get_or-take claim_limit (drop (j * claim_limit) s) i 0 inside
      ∙ get_or-drop (j * claim_limit) s i 0))

-- a list of another length is left as it is
pub sheet_with_kept : (s : List ℕ) (cs : List Claim) → (length s ≡ sheet_limit → ⊥) → sheet_with s cs ≡ s
unfolding sheet_with
sheet_with_kept s cs other = rw (ne_eqb (length s) sheet_limit other)

-- a claim is not taken apart where there is no such place
pub taken_apart_past : (s : List ℕ) (i : ℕ) (c : Claim) → claim_limit ≤ i → taken_apart s i c ≡ s
unfolding taken_apart
taken_apart_past s i c past = rw (le-ltb i claim_limit past) (ap (λ b. cond b (claim_put s i c) s) (and-false (eqb (length s) sheet_limit)))

pub taken_apart_other : (s : List ℕ) (i : ℕ) (c : Claim) → (length s ≡ sheet_limit → ⊥) → taken_apart s i c ≡ s
unfolding taken_apart
taken_apart_other s i c other = rw (ne_eqb (length s) sheet_limit other)

-- the loop has put the first i of the claims into a sheet: what is to come of it, e, comes of putting the rest
pub record Putting (n : ℕ) (l : List Claim) (top i : ℕ) (s e : List ℕ) : Type 0 where
  pub long : length s ≡ sheet_limit
  pub most : top ≤ claim_limit
  pub loop : Loop (λ j cs. claims_put s j cs) n l top i e

pub putting_start : (n : ℕ) (l : List Claim) {top : ℕ} {s : List ℕ} → length s ≡ sheet_limit → length l ≡ claim_limit → top ≡ min n claim_limit
    → Putting n l top 0 s (sheet_with s (take n l))
putting_start n l {top} {s} long places least =
    record { long = long; most = omega arith; loop = start (omega arith) (sheet_with_put s (take n l) long) }

module _ {n top i : ℕ} {l : List Claim} {s e : List ℕ} (p : Putting n l top i s e) where
  pub putting_next : {put : List ℕ} → i < top → put ≡ claim_put s i (get_or l i no_claim) → Putting n l top (i + 1) put e
  putting_next {put} h q =
      record {
        long = ap length q ∙ claim_put_length s i (get_or l i no_claim) ∙ p.long;
        most = p.most;
        loop = next p.loop h (turn p.loop no_claim h ∙ rw q (claims_put_next s i (get_or l i no_claim) (drop (i + 1) (take n l))));
      }

  pub putting_done : top ≤ i → e ≡ s
  putting_done h = done p.loop h ∙ claims_put_nil s i
