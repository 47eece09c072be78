-- The walk through a table: what was passed of the text at hand, and the places still to go, give the text that is sought. Assumes nothing.
use Rattle.std.proofs.Common.{ℕ, suc, ◌+◌, ◌-◌, ◌≤◌, ◌<◌, ◌≡◌, sym, ap, ◌∙◌, List, [], ◌∷◌, ◌++◌, arith, add-one, length, take, drop, get_or, length-drop, drop_of_length-le, drop-cons, take-suc, get_or-drop}
use Rattle.lines.specs.Lines.{line_feed}
use Rattle.words.specs.Tables.{text_at, text_end, text_here, text_later, text_more}

-- the text at hand begins at `from`, and the walk stands at `i`
pub record Seeking (table : List ℕ) (place left from i : ℕ) : Type 0 where
  pub begun : from ≤ i
  pub inside : i ≤ length table
  pub sought : text_at left (take (i - from) (drop from table)) (drop i table) ≡ text_at place [] table

module _ {table : List ℕ} {place left from i : ℕ} where
  -- a byte of the text at hand is passed
  pub seeking_byte : Seeking table place left from i → i < length table → (get_or table i 0 ≡ line_feed → ⊥) → Seeking table place left from (i + 1)
  seeking_byte s more other =
      let b = get_or table i 0 in
      let at : from + (i - from) ≡ i = omega (arith, s.begun) in
      let one : i + 1 - from ≡ suc (i - from) = omega (arith, s.begun) in
      let room : i - from < length (drop from table) = omega (arith, s.begun, length-drop from table) in
      let passed : take (i + 1 - from) (drop from table) ≡ take (i - from) (drop from table) ++ (b ∷ []) =
      rw one (take-suc (drop from table) (i - from) 0 room ∙ rw (get_or-drop from table (i - from) 0, at)) in
      record {
        begun = omega (arith, s.begun);
        inside = omega arith;
        sought =
            rw (passed, add-one i)
            (sym (text_more left b (take (i - from) (drop from table)) (drop (suc i) table) other) ∙ sym (rw (sym (drop-cons table i 0 more))) ∙ s.sought);
      }

  -- the text at hand is the one that is sought
  pub seeking_here : Seeking table place left from i → i < length table → get_or table i 0 ≡ line_feed → left ≡ 0
      → take (i - from) (drop from table) ≡ text_at place [] table
  seeking_here s more ends here =
      let passed = take (i - from) (drop from table) in
      sym (text_here left (get_or table i 0) passed (drop (suc i) table) ends here) ∙ ap (text_at left passed) (sym (drop-cons table i 0 more)) ∙ s.sought

  -- a later one is
  pub seeking_later : Seeking table place left from i → i < length table → get_or table i 0 ≡ line_feed → (left ≡ 0 → ⊥)
      → Seeking table place (left - 1) (i + 1) (i + 1)
  seeking_later s more ends other =
      let passed = take (i - from) (drop from table) in
      let none : i + 1 - (i + 1) ≡ 0 = omega arith in
      record {
        begun = omega arith;
        inside = omega arith;
        sought =
            rw (none, add-one i)
            (sym (text_later left (get_or table i 0) passed (drop (suc i) table) ends other) ∙ ap (text_at left passed) (sym (drop-cons table i 0 more)) ∙ s.sought);
      }

  -- behind the table there is none
  pub seeking_end : Seeking table place left from i → length table ≤ i → [] ≡ text_at place [] table
  seeking_end s past =
      let passed = take (i - from) (drop from table) in
      sym (text_end left passed) ∙ ap (text_at left passed) (sym (drop_of_length-le table past)) ∙ s.sought
