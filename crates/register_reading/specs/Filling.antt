-- Laws: An array filled from the front with things that are read one behind the other. Assumes nothing.
use Rattle.std.specs.Prelude.{ℕ, ◌+◌, ◌-◌, ◌≤◌, ◌<◌, ◌≡◌, List, [], ◌∷◌, ◌++◌, length, set, replicate}
use Rattle.std.proofs.Common.{sym, ap, ◌∙◌, arith}
use Rattle.lists.specs.Fills.{put_first}
use Rattle.lines.specs.Reading.{State, Read}
use Rattle.lines.specs.declared.Cursor.{Cursor}
use Rattle.lines.specs.Answers.{state_of}
use Rattle.text_rules.specs.Records.{many}
use Rattle.text_rules.specs.Laws.{many_none, many_next, many_length}
use Rattle.register_reading.specs.Reads.{Reads}

-- of n things, i are read: the array holds them, and the reading of s stands behind them
pub record Listing {A : Type 0} (s : List ℕ) (read : State → Read A) (size : ℕ) (none : A) (st : State) (n : ℕ) (list : List A) (cursor : Cursor) (i : ℕ) : Type 0 where
  pub within : i ≤ n
  pub filled : list ≡ (many read i st).value ++ replicate (size - i) none
  pub stands : state_of s cursor ≡ (many read i st).state

module _ {A : Type 0} {s : List ℕ} {read : State → Read A} {size : ℕ} {none : A} {st : State} {n : ℕ} where
  pub listing_start : (list : List A) (cursor : Cursor) → list ≡ replicate (size - 0) none → state_of s cursor ≡ st → Listing s read size none st n list cursor 0
  listing_start list cursor empty begun = record {
    within = omega arith;
    filled = rw (many_none read st) empty;
    stands = rw (many_none read st) begun;
  }

  pub listing_next : (list : List A) (cursor : Cursor) (i : ℕ) (x : A) (behind : Cursor) → Listing s read size none st n list cursor i → i < n → n ≤ size →
      Reads s x behind (read (state_of s cursor)) → Listing s read size none st n (set list i x) behind (i + 1)
  listing_next list cursor i x behind so inside room one =
      let here : read (state_of s cursor) ≡ read (many read i st).state = ap read so.stands in
      record {
        within = omega (arith, inside);
        filled =
            ap (λ l. set l i x) so.filled
            ∙ put_first (many read i st).value size i none x (many_length read i st) (omega (arith, inside, room))
            ∙ ap (λ y. ((many read i st).value ++ (y ∷ [])) ++ replicate (size - (i + 1)) none) (one.got ∙ ap (λ r. r.value) here)
            ∙ ap (λ r. r.value ++ replicate (size - (i + 1)) none) (sym (many_next read i st));
        stands = one.stands ∙ ap (λ r. r.state) here ∙ ap (λ r. r.state) (sym (many_next read i st));
      }

  -- all are read
  pub listing_done : (list : List A) (cursor : Cursor) (i : ℕ) → Listing s read size none st n list cursor i → n ≤ i →
      (list ≡ (many read n st).value ++ replicate (size - length (many read n st).value) none) × (n ≡ length (many read n st).value) × (state_of s cursor ≡ (many read n st).state)
  listing_done list cursor i so past =
      let all : i ≡ n = omega (arith, so.within, past) in (
        so.filled ∙ rw (all, many_length read n st),
        sym (many_length read n st),
        so.stands ∙ rw all,
      )
